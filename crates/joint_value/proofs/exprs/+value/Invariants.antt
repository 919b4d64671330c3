use Rattle.std.proofs.Common.{◌+◌, ◌*◌, max}
use Rattle.joint_ir.specs.declared.expr.TExpr.{size-TExpr}
use Rattle.joint_value.proofs.exprs.+value.Given as goal

abbrev pub decreases-value : goal.decreases-value
decreases-value l = 2 * size-TExpr l.e.now

abbrev pub decreases-logic : goal.decreases-logic
decreases-logic l = 2 * size-TExpr l.b.now + 1

abbrev pub decreases-chosen : goal.decreases-chosen
decreases-chosen l = 2 * max (size-TExpr l.a.now) (size-TExpr l.b.now) + 1
