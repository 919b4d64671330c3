-- A clause as the sign of each variable that stands in it.
use Rattle.std.specs.Prelude.{◌≡◌, ℕ, ◌==◌, Bool, false, ◌||◌, List, Option, None, slice_index_or, if◌then◌else◌}
use Rattle.std.specs.Option.{option_map_or}
use Rattle.clause_arena.specs.declared.Lit.{Lit}
use Rattle.clause_arena.specs.Clause.{Clause, bool_eq, lit_eq, has}

-- the sign of each variable, from the first on: whether its literal is negative, if it has one
abbrev pub Signs : Type 0
Signs = List (Option Bool)

-- the sign of a variable, or none where it stands in no marked literal
abbrev pub sign_at : Signs → ℕ → Option Bool
sign_at m v = slice_index_or m v None

-- the literal is marked
abbrev pub is_marked : Signs → Lit → Bool
is_marked m l = option_map_or (bool_eq l.negative) (sign_at m l.var) false

-- the marked literals are those of the clause
abbrev pub Marks : Signs → Clause → Type 0
Marks m c = (l : Lit) → is_marked m l ≡ has c l

-- no literal is marked
abbrev pub IsBlank : Signs → Type 0
IsBlank m = (l : Lit) → is_marked m l ≡ false

-- the variable has this sign now, and the others are as they were
abbrev pub Sets : Signs → Signs → ℕ → Option Bool → Type 0
Sets m n v s = (w : ℕ) → sign_at n w ≡ (if w == v then s else sign_at m w)

-- the literal is marked beside those that were
abbrev pub Adds : Signs → Signs → Lit → Type 0
Adds m n l = (k : Lit) → is_marked n k ≡ (is_marked m k || lit_eq k l)
