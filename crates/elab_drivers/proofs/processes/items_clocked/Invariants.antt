use Rattle.std.proofs.Common.{◌≡◌, take}
use Rattle.std.specs.Prelude.{flat_map}
use Rattle.elab_drivers.specs.Drivers.{item_clocked}
use Rattle.elab_drivers.proofs.processes.items_clocked.Given as goal

abbrev pub invariant-loop-i : goal.invariant-loop-i
invariant-loop-i l = l.processes ≡ flat_map (item_clocked l.names l.instance) (take l.i-index l.items)
