use Rattle.std.proofs.Common.{◌≡◌, take, map}
use Rattle.elab_connections.specs.Targets.{output_target}
use Rattle.elab_connections.proofs.targets.+parts.Given as goal

abbrev pub invariant-output_parts-loop-e : goal.invariant-output_parts-loop-e
invariant-output_parts-loop-e l = l.targets ≡ map (output_target l.names) (take l.e-index l.parts)
