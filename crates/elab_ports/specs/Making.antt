-- Ports that are put one after another.
use Rattle.std.specs.Prelude.{◌≡◌, ℕ, List, ◌++◌, map, Option}
use Rattle.v_tree.specs.declared.item.DirectionKind.{DirectionKind}
use Rattle.name_table.specs.Tables.{find_in}
use Rattle.elab_ports.specs.declared.ports.Ports.{Ports}
use Rattle.elab_ports.specs.Ports.{direction_of, place_from}

-- the directions and the places of these ports
pub record IsPorts (list : List (List ℕ × Option DirectionKind)) (p : Ports) : Type 0 where
  pub directions : p.directions ≡ map direction_of list
  pub places : (name : List ℕ) → find_in p.places name ≡ place_from 0 list name

-- these ports are added
pub record Adds (old new : Ports) (more : List (List ℕ × Option DirectionKind)) : Type 0 where
  pub longer : (list : List (List ℕ × Option DirectionKind)) → IsPorts list old → IsPorts (list ++ more) new
