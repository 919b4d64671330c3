use Rattle.std.proofs.Common.{◌≡◌, length}
use Rattle.show_runs.proofs.walks.blank.Given as goal

abbrev pub invariant-loop : goal.invariant-loop
invariant-loop l = length l.words ≡ l.counter
