-- A language of three marks, for the tests.
use Rattle.std.specs.Prelude.{ℕ, Bool, List, [], ◌∷◌, codes, nat_eq}
use Rattle.std.specs.List.{starts_with}

-- `<<`, `<` and `/`, with the kinds 1, 2 and 3
abbrev pub MARKS : List (List ℕ × ℕ)
MARKS = (codes "<<", 1) ∷ (codes "<", 2) ∷ (codes "/", 3) ∷ []

-- a line that begins with `` `line `` counts as blank
abbrev pub is_line_mark : List ℕ → Bool
is_line_mark bytes = starts_with nat_eq bytes (codes "`line")
