-- The names of a map.
use Rattle.std.specs.Prelude.{ℕ, List, map, String, string_bytes}
use Rattle.std.specs.HashMap.{HashMap}

-- what a map holds, with names as bytes
abbrev pub names_in : {Y V S : Type 0} → HashMap (String Y) V S → List (List ℕ × V)
names_in m = map (λ p. (string_bytes p.0, p.1)) m.entries
