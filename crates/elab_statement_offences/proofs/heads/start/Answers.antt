use Rattle.std.proofs.Common.{ap, ◌∙◌}
use Rattle.std.specs.Prelude.{◌++◌}
use Rattle.offence_order.specs.Order.{first_of}
use Rattle.elab_names.specs.Names.{turn_of}
use Rattle.elab_offences.specs.Expressions.{constant_offences}
use Rattle.elab_offences.proofs.Noting.{notes_then}
use Rattle.elab_statement_offences.specs.Heads.{nested_offences, two_names}
use Rattle.elab_statement_offences.proofs.heads.start.Goals as goal

pub returns : goal.returns
returns c =
    let names = two_names c.args.head.now.start.name c.args.head.now.step.name in
    let value = constant_offences c.args.names.now c.args.turns.now c.args.head.now.start.value in
    notes_then (nested_offences c.args.place (turn_of c.args.turns.now c.args.n)) (names ++ value) _ _ _
    (c.nested.ensures ∙ ap (λ t. first_of c.args.first.now.found (nested_offences c.args.place t)) c.turn_of.ensures)
    (notes_then names value _ _ _ c.two_names.ensures c.in_ok-constant_expression.ensures)
