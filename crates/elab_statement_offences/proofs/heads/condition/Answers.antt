use Rattle.std.proofs.Common.{ap, ◌∙◌}
use Rattle.offence_order.specs.Order.{first_of}
use Rattle.elab_loops.specs.Loops.{with_turn}
use Rattle.elab_offences.specs.Expressions.{constant_offences}
use Rattle.elab_statement_offences.proofs.heads.condition.Goals as goal

pub returns : goal.returns
returns c =
    c.in_ok-constant_expression.ensures
    ∙ ap (λ t. first_of c.args.first.now.found (constant_offences c.args.names.now t c.args.head.now.condition)) (c.as_slice.ensures ∙ c.in_ok-inside.ensures ∙ ap (with_turn c.args.turns.now c.args.n) c.turn_worth.ensures)
