-- The best variable of a set, by a number for each.
use Rattle.std.specs.Prelude.{◌≡◌, ℕ, ◌<◌, ◌⊎◌, Bool, true, false, List, slice_index, slice_index_or, Option, MatchOption}

-- the variable is in the set
abbrev pub IsIn : List Bool → ℕ → Type 0
IsIn present v = slice_index_or present v false ≡ true

-- the first of two variables has the greater number, or the same one and is lower
abbrev pub IsBetter : List ℕ → ℕ → ℕ → Type 0
IsBetter numbers v w = (slice_index numbers w < slice_index numbers v) ⊎ ((slice_index numbers w ≡ slice_index numbers v) × (v < w))

-- the variable is in the set, and better than each other one
abbrev pub IsBestOf : List ℕ → List Bool → ℕ → Type 0
IsBestOf numbers present v = IsIn present v × ((w : ℕ) → IsIn present w → (w ≡ v → ⊥) → IsBetter numbers v w)

-- the best variable of the set, if the set has any
abbrev pub IsBest : List ℕ → List Bool → Option ℕ → Type 0
IsBest numbers present best = MatchOption best ((w : ℕ) → IsIn present w → ⊥) (IsBestOf numbers present)
