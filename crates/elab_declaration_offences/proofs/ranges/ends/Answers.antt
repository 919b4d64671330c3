use Rattle.std.proofs.Common.{[]}
use Rattle.elab_offences.specs.Expressions.{constant_offences}
use Rattle.elab_offences.proofs.Noting.{notes_then}
use Rattle.elab_declaration_offences.proofs.ranges.ends.Goals as goal

pub returns : goal.returns
returns c =
    notes_then (constant_offences c.args.names.now [] c.args.r.now.high) (constant_offences c.args.names.now [] c.args.r.now.low) _ _ _
    c.in_ok-constant_expression.ensures c.in_ok-constant_expression-2.ensures
