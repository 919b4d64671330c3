use Rattle.std.proofs.Common.{◌≡◌, take}
use Rattle.elab_connections.specs.Drivers.{ordered_drivers}
use Rattle.elab_connections.proofs.drivers.ordered_drivers.Given as goal

abbrev pub invariant-loop-place : goal.invariant-loop-place
invariant-loop-place l = l.drivers ≡ ordered_drivers l.names l.outer l.first l.ports.directions 0 (take l.place l.es)
