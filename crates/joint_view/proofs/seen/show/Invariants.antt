use Rattle.std.proofs.Common.{◌≡◌, ◌++◌, drop}
use Rattle.joint_ir.specs.Views.{shown_words}
use Rattle.joint_view.proofs.seen.show.Given as goal

abbrev pub invariant-loop-i : goal.invariant-loop-i
invariant-loop-i l = l.list ++ shown_words l.signal l.i (drop l.i l.numbers) ≡ l.initial.list ++ shown_words l.signal 0 l.numbers
