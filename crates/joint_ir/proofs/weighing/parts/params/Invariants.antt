use Rattle.std.proofs.Common.{◌≡◌, ◌+◌, ◌-◌, ◌≤◌}
use Rattle.joint_ir.specs.Weights.{capped, params_weight}
use Rattle.joint_ir.proofs.weighing.parts.params.Given as goal

abbrev pub invariant-loop-k : goal.invariant-loop-k
invariant-loop-k l = record {
  total : capped (params_weight l.program.locals l.first l.count) ≡ capped (l.total + params_weight l.program.locals (l.first + l.k) (l.count - l.k));
  bound : l.total ≤ 16777217;
}
