use Rattle.std.proofs.Common.{◌≡◌, ◌++◌, length, drop}
use Rattle.joint_ir.specs.declared.module.Role.TheVariants.{Input}
use Rattle.joint_ir.specs.Views.{widths_of, driven_from, driven}
use Rattle.joint_view.specs.Conditions.{AreWords}
use Rattle.joint_view.specs.Moves.{row_items}
use Rattle.joint_view.proofs.mirror.driven.Given as goal

abbrev pub invariant-loop-k : goal.invariant-loop-k
invariant-loop-k l = record {
  numbers : l.numbers ++ driven_from l.pair.binding.links (row_items l.members) l.k (drop l.k l.pair.module.signals) (drop (length l.numbers) l.inputs)
      ≡ driven l.pair (row_items l.members) l.inputs;
  left : AreWords (widths_of Input (drop l.k l.pair.module.signals)) (drop (length l.numbers) l.inputs);
}
