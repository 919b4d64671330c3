use Rattle.std.specs.Prelude.{◌++◌}
use Rattle.elab_offences.specs.Expressions.{constant_offences}
use Rattle.elab_offences.proofs.Noting.{notes_then}
use Rattle.elab_statement_offences.specs.Heads.{wrong_variable}
use Rattle.elab_statement_offences.proofs.heads.other.Goals as goal

pub returns : goal.returns
returns c =
    let begun = constant_offences c.args.names.now c.args.turns.now c.args.head.now.start.value in
    let asked = constant_offences c.args.names.now c.args.turns.now c.args.head.now.condition in
    let step = constant_offences c.args.names.now c.args.turns.now c.args.head.now.step.value in
    notes_then (wrong_variable c.args.head.now.start.name.place c.args.entry.now) (begun ++ (asked ++ step)) _ _ _ c.wrong_variable.ensures
    (notes_then begun (asked ++ step) _ _ _ c.in_ok-constant_expression.ensures (notes_then asked step _ _ _ c.in_ok-constant_expression-2.ensures c.in_ok-constant_expression-3.ensures))
