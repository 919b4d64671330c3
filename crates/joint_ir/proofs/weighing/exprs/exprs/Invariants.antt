use Rattle.std.proofs.Common.{◌≡◌, ◌≤◌, take, sum_by}
use Rattle.joint_ir.specs.Weights.{capped, expr_weight}
use Rattle.joint_ir.proofs.weighing.exprs.exprs.Given as goal

abbrev pub invariant-loop-e : goal.invariant-loop-e
invariant-loop-e l = record {
  total : l.total ≡ capped (sum_by (expr_weight l.program) (take l.e-index l.es));
  bound : l.total ≤ 16777217;
}
