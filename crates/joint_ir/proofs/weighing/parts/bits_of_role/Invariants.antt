use Rattle.std.proofs.Common.{◌≡◌, ◌≤◌, take, sum_by}
use Rattle.joint_ir.specs.Weights.{capped, role_bits}
use Rattle.joint_ir.proofs.weighing.parts.bits_of_role.Given as goal

abbrev pub invariant-loop-signal : goal.invariant-loop-signal
invariant-loop-signal l = record {
  total : l.total ≡ capped (sum_by (role_bits l.role) (take l.signal-index l.flat.signals));
  bound : l.total ≤ 16777217;
}
