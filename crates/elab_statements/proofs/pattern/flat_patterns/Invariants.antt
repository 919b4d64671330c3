use Rattle.std.proofs.Common.{◌≡◌, take, map}
use Rattle.elab_statements.specs.Patterns.{flat_pattern}
use Rattle.elab_statements.proofs.pattern.flat_patterns.Given as goal

abbrev pub invariant-loop-e : goal.invariant-loop-e
invariant-loop-e l = l.flat ≡ map (flat_pattern l.names l.turns l.kind) (take l.e-index l.values)
