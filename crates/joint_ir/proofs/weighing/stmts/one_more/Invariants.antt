use Rattle.std.proofs.Common.{◌≡◌, take, length}
use Rattle.joint_ir.proofs.weighing.stmts.one_more.Given as goal

abbrev pub invariant-loop-k : goal.invariant-loop-k
invariant-loop-k l = record {
  size : length l.all ≡ 32;
  copied : take l.k l.all ≡ take l.k l.standing;
}
