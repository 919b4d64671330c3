use Rattle.std.proofs.Common.{ap, ◌∙◌}
use Rattle.offence_order.specs.Order.{first_of}
use Rattle.elab_names.specs.declared.constant.Worth.TheVariants.{Value}
use Rattle.elab_loops.specs.Loops.{with_turn, assigned}
use Rattle.elab_offences.proofs.Noting.{notes_then}
use Rattle.elab_statement_offences.specs.Heads.{step_offences, condition_offences}
use Rattle.elab_statement_offences.proofs.heads.turn.Goals as goal

pub returns : goal.returns
returns c =
    let next = assigned c.args.names.now (with_turn c.args.turns.now c.args.n (Value c.args.v)) c.args.head.now.step.value in
    notes_then (step_offences c.args.names.now c.args.turns.now c.args.n c.args.head.now (Value c.args.v)) (condition_offences c.args.names.now c.args.turns.now c.args.n c.args.head.now next) _ _ _
    c.in_ok-step.ensures (c.in_ok-condition.ensures ∙ ap (λ w. first_of c.step.new.first.found (condition_offences c.args.names.now c.args.turns.now c.args.n c.args.head.now w)) c.in_ok-w.ensures)
