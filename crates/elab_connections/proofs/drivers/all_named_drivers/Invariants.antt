use Rattle.std.proofs.Common.{◌≡◌, take}
use Rattle.std.specs.Prelude.{flat_map}
use Rattle.name_table.specs.Tables.{find_in}
use Rattle.elab_connections.specs.Drivers.{named_drivers}
use Rattle.elab_connections.proofs.drivers.all_named_drivers.Given as goal

abbrev pub invariant-loop-c : goal.invariant-loop-c
invariant-loop-c l = l.drivers ≡ flat_map (named_drivers l.names l.outer l.first l.ports.directions (find_in l.ports.places)) (take l.c-index l.cs)
