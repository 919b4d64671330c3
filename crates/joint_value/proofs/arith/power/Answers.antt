use Rattle.std.proofs.Common.{◌≤◌, ◌^◌, arith, lit<}
use Rattle.std.proofs.Math.Nat.{pow-le-pow_right}
use Rattle.joint_value.proofs.arith.power.Goals as goal

pub overflow_mul-p : goal.overflow_mul-p
overflow_mul-p c =
    let h : c.loop-k.k ≤ 63 = omega arith in
    let p : 2 ^ c.loop-k.k ≤ 2 ^ 63 = pow-le-pow_right {n = 2} (lit< tt) h in
    omega arith
