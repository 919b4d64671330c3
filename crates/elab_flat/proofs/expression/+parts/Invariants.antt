use Rattle.std.proofs.Common.{◌≡◌, take, map}
use Rattle.elab_flat.specs.Flat.{flat_expr}
use Rattle.elab_flat.proofs.expression.+parts.Given as goal

abbrev pub invariant-flat_parts-loop-p : goal.invariant-flat_parts-loop-p
invariant-flat_parts-loop-p l = l.flat ≡ map (flat_expr l.names l.turns) (take l.p-index l.parts)
