use Rattle.std.proofs.Common.{◌∷◌, [], ap, ◌∙◌, subst, IfOk}
use Rattle.ll_parse.specs.Grammar.{Parses}
use Rattle.ll_parse.specs.Places.{placed}
use Rattle.ll_parse.specs.Tables.{lists_of, grammar_of}
use Rattle.ll_actions.specs.Steps.{steps_of}
use Rattle.ll_actions.specs.declared.examples.TheConstants.{SUM_MARKS}
use Rattle.ll_actions.proofs.SumSteps.{sorted, after_tokens}
use Rattle.ll_actions.proofs.examples.sum_steps.Goals as goal

pub returns-in_ok-steps-in-Ok-clause-sorts : goal.returns-in_ok-steps-in-Ok-clause-sorts
returns-in_ok-steps-in-Ok-clause-sorts c =
    let t = lists_of c.sums-table.result in
    sorted t c.sums-table.ensures.is c.args.tokens.now c.in-Ok.productions.items
    (subst (λ r. IfOk r (λ v. Parses (grammar_of t) c.args.tokens.now v.items)) c.in-Ok.is c.in_ok-productions.ensures.parsed)
    c.in_ok-placed-in-Ok.placed.items c.in_ok-steps-in-Ok.field-0.items
    (c.in_ok-placed-in-Ok.ensures ∙ ap (placed (grammar_of t) 0 (t.start ∷ [])) c.deref.ensures.value)
    (c.in_ok-steps-in-Ok.ensures ∙ ap (steps_of SUM_MARKS) c.deref-in-Ok.ensures.value)

pub returns-in_ok-steps-in-Ok-clause-tokens : goal.returns-in_ok-steps-in-Ok-clause-tokens
returns-in_ok-steps-in-Ok-clause-tokens c =
    let t = lists_of c.sums-table.result in
    after_tokens t c.sums-table.ensures.is c.args.tokens.now c.in-Ok.productions.items
    (subst (λ r. IfOk r (λ v. Parses (grammar_of t) c.args.tokens.now v.items)) c.in-Ok.is c.in_ok-productions.ensures.parsed)
    c.in_ok-placed-in-Ok.placed.items c.in_ok-steps-in-Ok.field-0.items
    (c.in_ok-placed-in-Ok.ensures ∙ ap (placed (grammar_of t) 0 (t.start ∷ [])) c.deref.ensures.value)
    (c.in_ok-steps-in-Ok.ensures ∙ ap (steps_of SUM_MARKS) c.deref-in-Ok.ensures.value)
