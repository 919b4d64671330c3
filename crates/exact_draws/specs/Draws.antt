-- Which choices a run looks at, and how much of each.
use Rattle.std.specs.Prelude.{◌≡◌, ℕ, List, length, ◌++◌}
use Rattle.word_eqs.specs.Assignments.{reduced}
use Rattle.joint_ir.specs.declared.bounds.Bounds.{Bounds}
use Rattle.joint_ir.specs.declared.pair.Pair.{Pair}
use Rattle.joint_ir.specs.Effects.{Effect, Told, Goes, Stops, TooFew}
use Rattle.joint_ir.specs.Runs.{run_of}

-- What f does on these choices takes those that it uses, one for each width that is told. It does the same on all choices
-- that begin with numbers which are equal to the used ones modulo 2 to their widths, and leaves what follows them.
pub record DrawsAs (f : List ℕ → Effect) (choices rest : List ℕ) (told : Told) (leaving : List ℕ → Effect) : Type 0 where
  pub used : List ℕ
  pub parts : choices ≡ used ++ rest
  pub many : length used ≡ length told.widths
  pub same : (like more : List ℕ) → length like ≡ length used → reduced told.widths like ≡ reduced told.widths used → f (like ++ more) ≡ leaving more

-- the same of an effect that f has on these choices; nothing is said where they are too few
abbrev pub DrawsIn : (List ℕ → Effect) → List ℕ → Effect → Type 0
DrawsIn f choices (Goes way s told rest) = DrawsAs f choices rest told (Goes way s told)
DrawsIn f choices (Stops o told rest) = DrawsAs f choices rest told (Stops o told)
DrawsIn f choices TooFew = Unit {0}

-- f draws just what it tells, on any choices
pub record Draws (f : List ℕ → Effect) : Type 0 where
  pub at : (choices : List ℕ) → DrawsIn f choices (f choices)

-- every joint run draws just what it tells
abbrev pub ExactDraws : Type 0
ExactDraws = (pair : Pair) (bounds : Bounds) → Draws (run_of pair bounds)
