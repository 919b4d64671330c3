use Rattle.std.proofs.Common.{◌≡◌, length}
use Rattle.cdcl.proofs.watch.Watches.new.Given as goal

abbrev pub invariant-loop-filled : goal.invariant-loop-filled
invariant-loop-filled l = length l.lists.items ≡ l.filled
