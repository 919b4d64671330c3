use Rattle.std.proofs.Common.{◌≡◌, take}
use Rattle.std.specs.Prelude.{flat_map}
use Rattle.elab_drivers.specs.Drivers.{item_drivers}
use Rattle.elab_drivers.proofs.drivers.items_drivers.Given as goal

abbrev pub invariant-loop-i : goal.invariant-loop-i
invariant-loop-i l = l.drivers ≡ flat_map (item_drivers l.names l.instance) (take l.i-index l.items)
