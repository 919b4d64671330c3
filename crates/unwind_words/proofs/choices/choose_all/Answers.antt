use Rattle.std.proofs.Common.{◌+◌, ◌<◌, length, take, get_or, refl, sym, subst, arith}
use Rattle.std.proofs.lemmas.List.{get_or_default}
use Rattle.word_eqs.specs.declared.term.TermId.{TermId}
use Rattle.sized_terms.specs.Sized.{Has}
use Rattle.unwind_state.specs.Writing.{sized}
use Rattle.unwind_module.specs.Words.{AreChosen}
use Rattle.unwind_module.proofs.Choices.{alike_lengths, new_has, old_has, width_then, one_chosen}
use Rattle.unwind_words.proofs.choices.choose_all.Goals as goal

pub width_of-width-requires : goal.width_of-width-requires
width_of-width-requires c =
    let k = c.loop-k.k in
    let new = c.args.new.now in
    let d : TermId = record { 0 = 0 } in
    let a = get_or new k d in
    (new_has c.args.net.now c.loop-k.net new c.args.old.now new k a c.loop-k.invariant.adds c.requires.alike refl c.loop-k-test.true (get_or_default new k d a c.loop-k-test.true)).there

pub chosen-requires-clause-second : goal.chosen-requires-clause-second
chosen-requires-clause-second c =
    let k = c.loop-k.k in
    let n0 = c.args.net.now in
    let n1 = c.loop-k.net in
    let new = c.args.new.now in
    let old = c.args.old.now in
    let d : TermId = record { 0 = 0 } in
    let a = get_or new k d in
    let b = get_or old k d in
    let lt = c.loop-k-test.true in
    let lt' : k < length old = omega (arith, alike_lengths n0.terms new old c.requires.alike, c.loop-k-test.true) in
    let ea = get_or_default new k d a lt in
    let h = new_has n0 n1 new old new k a c.loop-k.invariant.adds c.requires.alike refl lt ea in
    subst (λ w. Has n1.terms (sized b w)) (sym (width_then n0 n1 a c.width_of-width.result h c.width_of-width.ensures.width))
    (old_has n0 n1 new old new old k a b c.loop-k.invariant.adds c.requires.alike refl refl lt ea (get_or_default old k d b lt'))

pub loop-k-preserved : goal.loop-k-preserved
loop-k-preserved c =
    let k = c.loop-k.k in
    let n0 = c.args.net.now in
    let n1 = c.loop-k.net in
    let n2 = c.chosen.new.net in
    let new = c.args.new.now in
    let old = c.args.old.now in
    let d : TermId = record { 0 = 0 } in
    let a = get_or new k d in
    let b = get_or old k d in
    let lt = c.loop-k-test.true in
    let lt' : k < length old = omega (arith, alike_lengths n0.terms new old c.requires.alike, c.loop-k-test.true) in
    let ea = get_or_default new k d a lt in
    let h = new_has n0 n1 new old new k a c.loop-k.invariant.adds c.requires.alike refl lt ea in
    let w = width_then n0 n1 a c.width_of-width.result h c.width_of-width.ensures.width in
    subst (λ l. AreChosen n0 n2 c.args.guard (take (k + 1) new) (take (k + 1) old) l) (sym c.in_ok-push.ensures.ok)
    (one_chosen n0 n1 n2 c.args.guard new old c.loop-k.ids k a b c.width_of-width.result c.in_ok-t.t c.loop-k.invariant c.in_ok-t.ensures lt lt' ea (get_or_default old k d b lt') w)
