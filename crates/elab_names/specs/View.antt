-- The names of a map.
use Rattle.std.specs.Prelude.{map, String, string_bytes}
use Rattle.std.specs.HashMap.{HashMap}
use Rattle.elab_names.specs.declared.names.Entry.{Entry}
use Rattle.elab_names.specs.Names.{Scope}

-- what a table of names holds, with names as bytes
abbrev pub names_of : {Y S : Type 0} → HashMap (String Y) Entry S → Scope
names_of m = map (λ p. (string_bytes p.0, p.1)) m.entries
