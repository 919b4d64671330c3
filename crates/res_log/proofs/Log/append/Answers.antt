use Rattle.std.proofs.Common.{◌++◌, ◌∷◌, [], length, List, sym, ap, ◌∙◌, subst, arith, Result, Ok, Err, length-append}
use Rattle.std.specs.Result.{OnErr}
use Rattle.res_log.specs.declared.ChainStep.{ChainStep}
use Rattle.res_log.specs.declared.Entry.{Entry}
use Rattle.res_log.specs.Step.{Step}
use Rattle.res_log.specs.Flat.{steps_of, AreWithin}
use Rattle.res_log.proofs.Parts.{steps-push, push-within, steps-more, within-more}
use Rattle.res_log.proofs.Log.append.Goals as goal

pub invariant_of-self-2 : goal.invariant_of-self-2
invariant_of-self-2 c =
    push-within c.self.inside.links.items c.args.rest.now c.extend_from_slice.new.self.items c.self.inside.entries.items c.push.new.self.items c.args.derived c.args.first c.len-from.result c.len-to.result
    c.in_ok-extend_from_slice.ensures.items (c.len-from.ensures ∙ c.self.inside.links.ok.0) (c.len-to.ensures ∙ c.extend_from_slice.new.self.ok.0) c.in_ok-push.ensures.items c.self.invariant

pub returns-clause-stored : goal.returns-clause-stored
returns-clause-stored c =
    let s : Step = record { derived = c.args.derived; first = c.args.first; rest = c.args.rest.now } in
    steps-push c.self.inside.links.items c.args.rest.now c.extend_from_slice.new.self.items c.self.inside.entries.items c.push.new.self.items c.args.derived c.args.first c.len-from.result c.len-to.result
    c.in_ok-extend_from_slice.ensures.items (c.len-from.ensures ∙ c.self.inside.links.ok.0) (c.len-to.ensures ∙ c.extend_from_slice.new.self.ok.0) c.in_ok-push.ensures.items c.self.invariant
    ∙ ap (λ (x : List Step). x ++ s ∷ []) c.self.view_is

pub invariant_of-self-in_err-push : goal.invariant_of-self-in_err-push
invariant_of-self-in_err-push c =
    subst (λ (es : List Entry). AreWithin (length c.extend_from_slice.new.self.items) es) (sym c.in_err-push.ensures.items)
    (within-more (length c.self.inside.links.items) (length c.extend_from_slice.new.self.items) c.self.inside.entries.items
    (omega (arith, ap length c.in_ok-extend_from_slice.ensures.items, length-append c.self.inside.links.items c.args.rest.now)) c.self.invariant)

on-err : {T E : Type 0} (r : Result T E) (P : Type 0) → P → OnErr r P
on-err (Ok x) P h = tt
on-err (Err e) P h = h

pub returns-in_err-push-clause-unchanged : goal.returns-in_err-push-clause-unchanged
returns-in_err-push-clause-unchanged c =
    on-err c.from_residual-in_err-push.result _
    (ap (steps_of c.extend_from_slice.new.self.items) c.in_err-push.ensures.items
    ∙ ap (λ (x : List ChainStep). steps_of x c.self.inside.entries.items) c.in_ok-extend_from_slice.ensures.items
    ∙ steps-more c.self.inside.links.items c.args.rest.now c.self.inside.entries.items c.self.invariant
    ∙ c.self.view_is)
