use Rattle.std.proofs.Common.{◌≡◌, length}
use Rattle.variable_ranks.proofs.ranks.Ranks.all.Given as goal

abbrev pub invariant-loop-filled : goal.invariant-loop-filled
invariant-loop-filled l = length l.winners.items ≡ l.filled
