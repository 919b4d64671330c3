-- Which variable a chooser picks.
use Rattle.std.specs.Prelude.{◌≡◌, ℕ, ◌<◌, ◌⊎◌, Bool, true, List, length, slice_index}

-- the variable has no value
abbrev pub IsFreeIn : List ℕ → ℕ → Type 0
IsFreeIn values v = (v < length values) × (slice_index values v ≡ 0)

-- each free variable is known
abbrev pub AreKnown : (ℕ → Bool) → List ℕ → Type 0
AreKnown knows values = (v : ℕ) → IsFreeIn values v → knows v ≡ true

-- the variable is free, and comes before each other one that is
abbrev pub IsFirstFree : (ℕ → ℕ → Type 0) → List ℕ → ℕ → Type 0
IsFirstFree Before values v = IsFreeIn values v × ((w : ℕ) → IsFreeIn values w → (w ≡ v → ⊥) → Before v w)

-- the first free variable, or 0 where none is free
abbrev pub IsPick : (ℕ → ℕ → Type 0) → List ℕ → ℕ → Type 0
IsPick Before values v = IsFirstFree Before values v ⊎ (((w : ℕ) → IsFreeIn values w → ⊥) × (v ≡ 0))
