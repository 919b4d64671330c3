use Rattle.std.proofs.Common.{◌≡◌, ◌+◌, ◌*◌, ◌≤◌, drop}
use Rattle.joint_ir.specs.Weights.{capped}
use Rattle.joint_ir.specs.Weighed.{setting_of, calls_of, stmts_weight, groups_of_weight}
use Rattle.joint_ir.proofs.Sizes.{stride}
use Rattle.joint_ir.proofs.weighing.stmts.+weigh.Given as goal

abbrev pub decreases-callee : goal.decreases-callee
decreases-callee l = l.at.now.left * stride l.at.now.pair.now.program.functions

abbrev pub decreases-call : goal.decreases-call
decreases-call l = l.at.now.left * stride l.at.now.pair.now.program.functions + 1

abbrev pub decreases-init : goal.decreases-init
decreases-init l = l.at.now.left * stride l.at.now.pair.now.program.functions + 2

abbrev pub decreases-stmt : goal.decreases-stmt
decreases-stmt l = l.at.now.left * stride l.at.now.pair.now.program.functions + (3 * goal.size-stmt l + 3)

abbrev pub decreases-groups : goal.decreases-groups
decreases-groups l = l.at.now.left * stride l.at.now.pair.now.program.functions + (3 * goal.size-groups l + 4)

abbrev pub decreases-option : goal.decreases-option
decreases-option l = l.at.now.left * stride l.at.now.pair.now.program.functions + (3 * goal.size-option l + 4)

abbrev pub decreases-stmts : goal.decreases-stmts
decreases-stmts l = l.at.now.left * stride l.at.now.pair.now.program.functions + (3 * goal.size-stmts l + 4)

abbrev pub decreases-turns : goal.decreases-turns
decreases-turns l = l.at.now.left * stride l.at.now.pair.now.program.functions + (3 * goal.size-turns l + 4)

abbrev pub invariant-stmts-loop-s : goal.invariant-stmts-loop-s
invariant-stmts-loop-s l = record {
  total : capped (stmts_weight (setting_of l.at) (calls_of l.at l.standing) l.items)
      ≡ capped (l.total + stmts_weight (setting_of l.at) (calls_of l.at l.standing) (drop l.s-index l.items));
  bound : l.total ≤ 16777217;
}

abbrev pub invariant-groups-loop-group : goal.invariant-groups-loop-group
invariant-groups-loop-group l = record {
  total : capped (groups_of_weight (setting_of l.at) (calls_of l.at l.standing) l.bits l.cases)
      ≡ capped (l.total + groups_of_weight (setting_of l.at) (calls_of l.at l.standing) l.bits (drop l.group-index l.cases));
  bound : l.total ≤ 16777217;
}
