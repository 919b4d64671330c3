use Rattle.std.proofs.Common.{◌≡◌, ℕ, ◌<◌, Some}
use Rattle.std.specs.Prelude.{slice_get}
use Rattle.word_eqs.specs.declared.list.Step.{Step}
use Rattle.list_checks.specs.Narrow.{IsNarrow}
use Rattle.list_checks.proofs.narrow.are_narrow.Given as goal

abbrev pub invariant-loop-k : goal.invariant-loop-k
invariant-loop-k l = (j : ℕ) (s : Step) → j < l.k → slice_get l.list j ≡ Some s → IsNarrow l.terms s.act
