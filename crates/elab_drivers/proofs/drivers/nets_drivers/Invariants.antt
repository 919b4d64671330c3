use Rattle.std.proofs.Common.{◌≡◌, take}
use Rattle.std.specs.Prelude.{flat_map}
use Rattle.elab_drivers.specs.Drivers.{net_drivers}
use Rattle.elab_drivers.proofs.drivers.nets_drivers.Given as goal

abbrev pub invariant-loop-d : goal.invariant-loop-d
invariant-loop-d l = l.drivers ≡ flat_map (net_drivers l.names l.instance) (take l.d-index l.nets)
