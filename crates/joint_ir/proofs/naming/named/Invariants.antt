use Rattle.std.proofs.Common.{◌≡◌, drop}
use Rattle.std.specs.List.{position_from}
use Rattle.joint_ir.specs.Naming.{is_limited_by as is_limited}
use Rattle.joint_ir.proofs.naming.named.Given as goal

abbrev pub invariant-loop-i : goal.invariant-loop-i
invariant-loop-i l = position_from (is_limited l.name) 0 l.props ≡ position_from (is_limited l.name) l.i (drop l.i l.props)
