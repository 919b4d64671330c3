-- What names stand for.
use Rattle.std.specs.Prelude.{ℕ, List, [], ◌∷◌, Option, Some, None, bytes_eq, if◌then◌else◌}

module _ {V : Type 0} where
  -- what a name stands for; of two entries of one name the first
  abbrev pub find_in : List (List ℕ × V) → List ℕ → Option V
  find_in [] name = None
  find_in (e ∷ table) name = if bytes_eq name e.0 then Some e.1 else find_in table name

  -- with a name that stands for this from here on
  abbrev pub put : List ℕ → V → List (List ℕ × V) → List (List ℕ × V)
  put name value [] = (name, value) ∷ []
  put name value (e ∷ table) = if bytes_eq name e.0 then (e.0, value) ∷ table else e ∷ put name value table
