-- The names of a map.
use Rattle.std.specs.Prelude.{map, String, string_bytes}
use Rattle.std.specs.HashMap.{HashMap}
use Rattle.c_names.specs.declared.scope.Entry.{Entry}
use Rattle.c_names.specs.Scope.{Scope}

-- what a table of names holds, with names as bytes
abbrev pub names_of : {Y S : Type 0} → HashMap (String Y) Entry S → Scope
names_of m = map (λ p. (string_bytes p.0, p.1)) m.entries
