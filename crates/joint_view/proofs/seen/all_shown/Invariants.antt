use Rattle.std.proofs.Common.{◌≡◌, ◌++◌, drop}
use Rattle.joint_ir.specs.Views.{shown_from}
use Rattle.joint_view.proofs.seen.all_shown.Given as goal

abbrev pub invariant-loop-k : goal.invariant-loop-k
invariant-loop-k l = l.list ++ shown_from l.k (drop l.k l.signals) (drop l.k l.words) ≡ shown_from 0 l.signals l.words
