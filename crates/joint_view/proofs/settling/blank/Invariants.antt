use Rattle.std.proofs.Common.{◌≡◌, length}
use Rattle.joint_view.proofs.settling.blank.Given as goal

abbrev pub invariant-loop-k : goal.invariant-loop-k
invariant-loop-k l = length l.words ≡ l.k
