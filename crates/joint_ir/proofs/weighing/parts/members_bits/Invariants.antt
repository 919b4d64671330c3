use Rattle.std.proofs.Common.{◌≡◌, ◌≤◌, take, sum_by}
use Rattle.joint_ir.specs.Weights.{capped, member_bits}
use Rattle.joint_ir.proofs.weighing.parts.members_bits.Given as goal

abbrev pub invariant-loop-member : goal.invariant-loop-member
invariant-loop-member l = record {
  total : l.total ≡ capped (sum_by member_bits (take l.member-index l.members));
  bound : l.total ≤ 16777217;
}
