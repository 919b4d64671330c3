use Rattle.std.proofs.Common.{◌≡◌, ◌≤◌, take}
use Rattle.std.specs.Prelude.{count_by}
use Rattle.word_eqs.specs.Graph.{is_no_var}
use Rattle.pair_checks.proofs.lists.made.Given as goal

abbrev pub invariant-loop-k : goal.invariant-loop-k
invariant-loop-k l = (l.count ≡ count_by is_no_var (take l.k l.terms.terms)) × (l.count ≤ l.k)
