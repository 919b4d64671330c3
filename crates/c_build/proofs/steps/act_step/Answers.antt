use Rattle.std.proofs.Common.{IfOk, reverse, subst, ◌∙◌}
use Rattle.c_stack.specs.Values.{Fits}
use Rattle.c_build.proofs.Spots.{place_of_before, same_step}
use Rattle.c_build.proofs.steps.act_step.Goals as goal

pub returns : goal.returns
returns c =
    let source = c.args.source.now in
    let text = source.text.now in
    let tokens = source.tokens.now in
    subst (λ x. IfOk c.act.result (λ fits. Fits fits (reverse c.act.new.stack.items) x))
    (same_step text tokens c.args.step (reverse c.args.stack.now.items) c.action_of.result source.end c.place_before-place.result c.token_before-token.result c.spelling-spelled.result.now
    c.action_of.ensures c.requires.end c.token_before-token.ensures (c.place_before-place.ensures ∙ place_of_before text tokens source.places.now c.args.step.token c.requires.places) c.spelling-spelled.ensures)
    c.act.ensures
