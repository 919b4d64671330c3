use Rattle.std.proofs.Common.{◌≡◌, take}
use Rattle.joint_ir.specs.States.{first_rows}
use Rattle.joint_value.proofs.store.Rows.first.Given as goal

abbrev pub invariant-loop-var : goal.invariant-loop-var
invariant-loop-var l = l.rows ≡ first_rows (take l.var-index l.vars)
