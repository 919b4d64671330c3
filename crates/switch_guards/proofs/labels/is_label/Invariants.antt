use Rattle.std.proofs.Common.{take}
use Rattle.std.specs.List.{list_any}
use Rattle.joint_ir.specs.Statements.{is_case}
use Rattle.switch_guards.specs.Entries.{IsBit, number_of}
use Rattle.switch_guards.proofs.labels.is_label.Given as goal

abbrev pub invariant-loop-label : goal.invariant-loop-label
invariant-loop-label l = IsBit l.fn.net l.net l.any (λ v. list_any (is_case (number_of l.ty v l.value)) (take l.label-index l.labels))
