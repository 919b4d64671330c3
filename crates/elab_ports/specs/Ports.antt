-- The ports of a module, by its text alone: their names in the order of the header, and which way each goes (IEEE 1364-2005,
-- 12.3.2 and 12.3.3).
use Rattle.std.specs.Prelude.{ℕ, ◌+◌, List, [], ◌∷◌, map, flat_map, Option, Some, None, bytes_eq, if◌then◌else◌}
use Rattle.std.specs.Option.{option_map}
use Rattle.v_tree.specs.declared.item.Declarator.{Declarator}
use Rattle.v_tree.specs.declared.item.DirectionKind.{DirectionKind}
use Rattle.v_tree.specs.declared.item.Header.{Header}
use Rattle.v_tree.specs.declared.item.Header.TheVariants as header
use Rattle.v_tree.specs.declared.item.Item.{Item}
use Rattle.v_tree.specs.declared.item.Item.TheVariants as item
use Rattle.v_tree.specs.declared.item.Module.{Module}
use Rattle.v_tree.specs.declared.item.Port.{Port}
use Rattle.v_tree.specs.declared.name.Identifier.{Identifier}
use Rattle.name_table.specs.Tables.{find_in}
use Rattle.elab_ports.specs.declared.directed.Directed.{Directed}

-- a name that a direction item declares: where it stands, and which way it goes
abbrev pub directed_name : DirectionKind → Identifier → List ℕ × Directed
directed_name kind x = (x.name, record { place = x.place; kind = kind })

-- the names that an item declares as ports
abbrev pub item_directed : Item → List (List ℕ × Directed)
item_directed (item.Port d) = map (directed_name d.direction.kind) d.names
item_directed i = []

-- those of all items; of two of one name the first holds
abbrev pub directed_in : List Item → List (List ℕ × Directed)
directed_in items = flat_map item_directed items

-- which way a port goes
abbrev pub kind_of : Directed → DirectionKind
kind_of d = d.kind

-- a name that the header lists goes the way that is found for it
abbrev pub listed_by : (List ℕ → Option Directed) → Identifier → List ℕ × Option DirectionKind
listed_by found x = (x.name, option_map kind_of (found x.name))

-- what is found is what a direction item says
abbrev pub listed_port : List Item → Identifier → List ℕ × Option DirectionKind
listed_port items x = listed_by (find_in (directed_in items)) x

-- a name in a header that declares its ports
abbrev pub declared_port : DirectionKind → Declarator → List ℕ × Option DirectionKind
declared_port kind d = (d.name.name, Some kind)

-- the ports of one declaration in the header
abbrev pub declared_ports : Port → List (List ℕ × Option DirectionKind)
declared_ports p = map (declared_port p.direction.kind) p.names

-- the ports of a module, by its header and its items
abbrev pub header_ports : List Item → Header → List (List ℕ × Option DirectionKind)
header_ports items header.Absent = []
header_ports items header.Empty = []
header_ports items (header.Names xs) = map (listed_port items) xs
header_ports items (header.Ports ps) = flat_map declared_ports ps

-- the ports of a module in order; None for one that no direction item declares
abbrev pub module_ports : Module → List (List ℕ × Option DirectionKind)
module_ports m = header_ports m.items m.header

-- which way a port goes, by its place in the order
abbrev pub direction_of : List ℕ × Option DirectionKind → Option DirectionKind
direction_of p = p.1

-- the place of a name among the ports, counted from a number; of two of one name the first
abbrev pub place_from : ℕ → List (List ℕ × Option DirectionKind) → List ℕ → Option ℕ
place_from n [] name = None
place_from n (p ∷ ps) name = if bytes_eq name p.0 then Some n else place_from (n + 1) ps name
