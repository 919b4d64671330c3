use Rattle.std.proofs.Common.{◌≡◌, take, map}
use Rattle.elab_flat.specs.Flat.{flat_target}
use Rattle.elab_flat.proofs.target.+parts.Given as goal

abbrev pub invariant-target_parts-loop-t : goal.invariant-target_parts-loop-t
invariant-target_parts-loop-t l = l.flat ≡ map (flat_target l.names l.turns) (take l.t-index l.parts)
