use Rattle.std.proofs.Common.{◌≡◌}
use Rattle.joint_value.specs.Elements.{part_of}
use Rattle.joint_value.proofs.store.Rows.part.Given as goal

abbrev pub invariant-loop-i : goal.invariant-loop-i
invariant-loop-i l = l.rows ≡ part_of l.first l.i l.self
