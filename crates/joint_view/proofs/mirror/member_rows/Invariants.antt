use Rattle.std.proofs.Common.{◌≡◌, ◌++◌, drop}
use Rattle.joint_ir.specs.Views.{filled_from}
use Rattle.joint_view.specs.Moves.{row_items}
use Rattle.joint_view.proofs.mirror.member_rows.Given as goal

abbrev pub invariant-loop-k : goal.invariant-loop-k
invariant-loop-k l =
    row_items l.rows.items ++ filled_from l.pair.binding.links l.pair.module.signals l.words l.k (drop l.k l.members)
    ≡ filled_from l.pair.binding.links l.pair.module.signals l.words 0 l.members
