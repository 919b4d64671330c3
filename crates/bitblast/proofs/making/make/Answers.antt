use Rattle.std.proofs.Common.{◌∷◌, ◌++◌, [], length, sym, subst, ap, ◌∙◌, arith}
use Rattle.bitblast.proofs.Waiting.{Waits, due_top, parts_there, waits_part, waits_next, waits_made, falls_by_part, falls_by_one}
use Rattle.bitblast.proofs.making.make.Goals as goal

pub node-requires : goal.node-requires
node-requires c =
    let h = subst (Waits c.args.net.now c.loop-top.net c.args.terms.now c.args.vars.now c.args.words.now c.loop-top.words c.args.t.0) c.in-Some.ensures c.loop-top.invariant in
    (due_top _ _ _ _ _ _ h.due).there

pub unmade_part-requires : goal.unmade_part-requires
unmade_part-requires c =
    let h = subst (Waits c.args.net.now c.loop-top.net c.args.terms.now c.args.vars.now c.args.words.now c.loop-top.words c.args.t.0) c.in-Some.ensures c.loop-top.invariant in
    let top = due_top _ _ _ _ _ _ h.due in
    λ k m. let l = parts_there _ _ _ _ _ _ k h.rest.proper top.there c.node.ensures m in let p = h.rest.proper.places in let q = top.there in omega arith

pub loop-top-smaller-in-Continue-branch-3 : goal.loop-top-smaller-in-Continue-branch-3
loop-top-smaller-in-Continue-branch-3 c =
    let h = subst (Waits c.args.net.now c.loop-top.net c.args.terms.now c.args.vars.now c.args.words.now c.loop-top.words c.args.t.0) c.in-Some.ensures c.loop-top.invariant in
    let top = due_top _ _ _ _ _ _ h.due in
    falls_by_part (length c.args.terms.now.terms) c.loop-top.words _ _ c.pop.new.self c.in-Some.top c.in-Some-unmade_part.part c.in-Some.ensures
    (c.in_ok-push-in-Some-unmade_part-2.ensures.ok ∙ ap (λ l. l ++ c.in-Some-unmade_part.part ∷ []) c.in_ok-push-in-Some-unmade_part.ensures.ok)
    (parts_there _ _ _ _ _ _ c.in-Some-unmade_part.part.0 h.rest.proper top.there c.node.ensures c.in-Some-unmade_part.ensures.named)

pub loop-top-preserved-in-Continue-branch-3 : goal.loop-top-preserved-in-Continue-branch-3
loop-top-preserved-in-Continue-branch-3 c =
    let h = subst (Waits c.args.net.now c.loop-top.net c.args.terms.now c.args.vars.now c.args.words.now c.loop-top.words c.args.t.0) c.in-Some.ensures c.loop-top.invariant in
    subst (Waits c.args.net.now c.loop-top.net c.args.terms.now c.args.vars.now c.args.words.now c.loop-top.words c.args.t.0)
    (sym (c.in_ok-push-in-Some-unmade_part-2.ensures.ok ∙ ap (λ l. l ++ c.in-Some-unmade_part.part ∷ []) c.in_ok-push-in-Some-unmade_part.ensures.ok))
    (waits_part _ _ _ _ _ _ _ c.pop.new.self c.in-Some.top c.in-Some-unmade_part.part _ h c.node.ensures c.in-Some-unmade_part.ensures.named c.in-Some-unmade_part.ensures.unmade)

pub make_one-requires : goal.make_one-requires
make_one-requires c =
    let h = subst (Waits c.args.net.now c.loop-top.net c.args.terms.now c.args.vars.now c.args.words.now c.loop-top.words c.args.t.0) c.in-Some.ensures c.loop-top.invariant in
    let r = c.requires.room in
    waits_next _ _ _ _ _ _ _ _ _ _ h (omega arith) c.node.ensures c.in-None.ensures.none

pub loop-top-smaller : goal.loop-top-smaller
loop-top-smaller c =
    let h = subst (Waits c.args.net.now c.loop-top.net c.args.terms.now c.args.vars.now c.args.words.now c.loop-top.words c.args.t.0) c.in-Some.ensures c.loop-top.invariant in
    falls_by_one _ _ _ _ _ _ _ _ _ _ c.pop.new.self c.in-Some.top c.in-Some.ensures h c.in_ok-make_one-in-None.ensures

pub loop-top-preserved : goal.loop-top-preserved
loop-top-preserved c =
    let h = subst (Waits c.args.net.now c.loop-top.net c.args.terms.now c.args.vars.now c.args.words.now c.loop-top.words c.args.t.0) c.in-Some.ensures c.loop-top.invariant in
    waits_made _ _ _ _ _ _ _ _ _ _ _ h c.in_ok-make_one-in-None.ensures
