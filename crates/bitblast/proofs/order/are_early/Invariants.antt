use Rattle.std.proofs.Common.{◌≡◌, ℕ, ◌<◌, Some}
use Rattle.std.specs.Prelude.{slice_get}
use Rattle.word_eqs.specs.declared.list.Step.{Step}
use Rattle.bitblast.specs.Order.{AreEarly}
use Rattle.bitblast.proofs.order.are_early.Given as goal

abbrev pub invariant-loop-k : goal.invariant-loop-k
invariant-loop-k l = (j : ℕ) (s : Step) → j < l.k → slice_get l.list j ≡ Some s → AreEarly l.last j s
