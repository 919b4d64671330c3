use Rattle.std.proofs.Common.{true, false}
use Rattle.elab_offences.specs.Expressions.{expr_offences}
use Rattle.elab_offences.specs.Targets.{target_offences}
use Rattle.elab_offences.proofs.Noting.{notes_then}
use Rattle.elab_statement_offences.proofs.statements.assignment.Goals as goal

pub returns : goal.returns
returns c =
    notes_then (target_offences c.args.names.now c.args.turns.now true c.args.a.now.target) (expr_offences c.args.names.now c.args.turns.now false c.args.a.now.value) _ _ _ c.in_ok-target.ensures c.in_ok-expression.ensures
