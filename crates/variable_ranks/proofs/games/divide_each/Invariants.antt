use Rattle.std.proofs.Common.{◌≡◌, ◌++◌, ◌/◌, ℕ, map, take, drop}
use Rattle.variable_ranks.proofs.games.divide_each.Given as goal

abbrev pub invariant-loop-at : goal.invariant-loop-at
invariant-loop-at l = l.numbers.items ≡ map (λ (x : ℕ). x / l.by) (take l.at l.initial.numbers.items) ++ drop l.at l.initial.numbers.items
