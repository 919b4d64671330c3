use Rattle.std.proofs.Common.{take}
use Rattle.joint_ir.specs.Statements.{is_case}
use Rattle.joint_lists.specs.Lists.{case_with}
use Rattle.switch_guards.specs.Entries.{ArePlaced, number_of}
use Rattle.switch_guards.proofs.entries.hits.Given as goal

-- the groups before this one
abbrev pub invariant-loop-group : goal.invariant-loop-group
invariant-loop-group l = ArePlaced l.fn.net l.net l.fn.guard l.group-index l.entered.items l.past (λ v. case_with (is_case (number_of l.ty v l.value)) (take l.group-index l.groups))
