use Rattle.std.proofs.Common.{◌≡◌, ◌≤◌, ◌*◌, take}
use Rattle.joint_ir.specs.Weights.{sum_of}
use Rattle.pair_checks.proofs.lists.total.Given as goal

abbrev pub invariant-loop-width : goal.invariant-loop-width
invariant-loop-width l = (l.total ≡ sum_of (take l.width-index l.widths)) × (l.total ≤ 255 * l.width-index)
