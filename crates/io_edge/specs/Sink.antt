-- What is written, where the bytes are told.
use Rattle.std.specs.Prelude.{◌≡◌, ℕ, ◌<◌, List, ◌++◌, length, take, Option, None, Some}

-- the bytes stand behind what was written before
abbrev pub Appends : Option (List ℕ) → Option (List ℕ) → List ℕ → Type 0
Appends None new bytes = new ≡ None
Appends (Some old) new bytes = new ≡ Some (old ++ bytes)

-- a proper front of the bytes stands behind what was written before
abbrev pub AppendsPart : Option (List ℕ) → Option (List ℕ) → List ℕ → Type 0
AppendsPart old new bytes = (n : ℕ) × (n < length bytes) × Appends old new (take n bytes)

-- What a stream is seen as: the bytes written so far, where they are told, and how many calls failed.
pub record Stream : Type 0 where
  pub written : Option (List ℕ)
  pub faults : ℕ
