-- The names in a set.
use Rattle.std.specs.Prelude.{ℕ, List, map, String, string_bytes}
use Rattle.std.specs.HashSet.{HashSet}

-- what a set of names holds, with names as bytes
abbrev pub names_in : {Y S : Type 0} → HashSet (String Y) S → List (List ℕ)
names_in s = map string_bytes s.keys
