use Rattle.std.proofs.Common.{◌≡◌, ◌*◌, ◌≤◌, take, sum_by}
use Rattle.joint_ir.specs.States.{element_count}
use Rattle.joint_ir.specs.Weights.{capped}
use Rattle.joint_ir.proofs.weighing.parts.globals.Given as goal

abbrev pub invariant-loop-var : goal.invariant-loop-var
invariant-loop-var l = record {
  total : l.total ≡ capped (sum_by (λ x. 16 * element_count x.length) (take l.var-index l.vars));
  bound : l.total ≤ 16777217;
}
