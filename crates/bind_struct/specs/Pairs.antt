-- The entries of a map, as pairs.
use Rattle.std.specs.Prelude.{ℕ, List, map, String, string_bytes}

-- keys as their bytes, with their values
abbrev pub pairs_of : {Y V : Type 0} → List (String Y × V) → List (List ℕ × V)
pairs_of es = map (λ e. (string_bytes e.0, e.1)) es
