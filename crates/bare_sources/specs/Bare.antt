-- Verilog texts that are one module with nothing in it.
use Rattle.std.specs.Prelude.{ℕ, Bool, true, false, ◌&&◌, ◌==◌, if◌then◌else◌, List, [], ◌∷◌, length, Option, Some, None, bytes_eq}
use Rattle.v_tree.specs.declared.item.Header.{Header}
use Rattle.v_tree.specs.declared.item.Header.TheVariants.{Absent, Empty, Names, Ports}
use Rattle.v_tree.specs.declared.item.Module.{Module}

-- a module's header has no ports (IEEE 1364-2005, 12.3)
abbrev pub is_closed : Header → Bool
is_closed Absent = true
is_closed Empty = true
is_closed (Names names) = false
is_closed (Ports ports) = false

-- there are no parameters, no ports and no items in a module (12.1)
abbrev pub is_bare : Module → Bool
is_bare m = length m.parameters == 0 && is_closed m.header && length m.items == 0

-- the top is to be found, or it is asked for by this name
abbrev pub is_asked : (top : Option (List ℕ)) → List ℕ → Bool
is_asked None name = true
is_asked (Some asked) name = bytes_eq asked name

-- the name of a text's only module, where nothing is in it and it is the top
abbrev pub name_of_bare : (top : Option (List ℕ)) → List Module → Option (List ℕ)
name_of_bare top [] = None
name_of_bare top (m ∷ []) = if is_bare m && is_asked top m.name.name then Some m.name.name else None
name_of_bare top (m ∷ n ∷ rest) = None
