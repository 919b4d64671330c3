use Rattle.std.proofs.Common.{ℕ, ◌<◌, ◌^◌, get_or, None}
use Rattle.std.specs.Prelude.{IfSome}
use Rattle.pair_checks.proofs.lists.fit_firsts.Given as goal

abbrev pub invariant-loop-k : goal.invariant-loop-k
invariant-loop-k l = (j : ℕ) → j < l.k → IfSome (get_or l.firsts j None) (λ n. n < 2 ^ get_or l.widths j 0)
