-- Enough choices are never too few.
use Rattle.std.specs.Prelude.{◌≢◌, ℕ, ◌≤◌, List, length}
use Rattle.joint_ir.specs.declared.bounds.Bounds.{Bounds}
use Rattle.joint_ir.specs.declared.pair.Pair.{Pair}
use Rattle.joint_ir.specs.Effects.{TooFew}
use Rattle.joint_ir.specs.Runs.{run_of}

-- this many choices are enough for each run of a pair
abbrev pub AreEnough : Pair → Bounds → ℕ → Type 0
AreEnough pair bounds n = (choices : List ℕ) → n ≤ length choices → run_of pair bounds choices ≢ TooFew

-- for each pair and all bounds there is such a number
abbrev pub EnoughChoices : Type 0
EnoughChoices = (pair : Pair) (bounds : Bounds) → (n : ℕ) × AreEnough pair bounds n
