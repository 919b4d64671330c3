use Rattle.std.proofs.Common.{◌≡◌, drop}
use Rattle.joint_lists.specs.Own.{behind_all, declared_items, declared_cases}
use Rattle.joint_lists.proofs.own.+own.Given as goal

abbrev pub invariant-behind_cases-loop-group : goal.invariant-behind_cases-loop-group
invariant-behind_cases-loop-group l = behind_all l.at (declared_cases l.groups) ≡ behind_all l.end (declared_cases (drop l.group-index l.groups))

abbrev pub invariant-behind_items-loop-s : goal.invariant-behind_items-loop-s
invariant-behind_items-loop-s l = behind_all l.at (declared_items l.items) ≡ behind_all l.end (declared_items (drop l.s-index l.items))
