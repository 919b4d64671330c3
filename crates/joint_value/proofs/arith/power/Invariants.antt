use Rattle.std.proofs.Common.{◌≡◌, ◌^◌}
use Rattle.joint_value.proofs.arith.power.Given as goal

abbrev pub invariant-loop-k : goal.invariant-loop-k
invariant-loop-k l = l.p ≡ 2 ^ l.k
