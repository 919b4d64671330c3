use Rattle.std.proofs.Common.{◌≡◌, take}
use Rattle.std.specs.Prelude.{flat_map}
use Rattle.elab_drivers.specs.Drivers.{listed}
use Rattle.elab_drivers.proofs.processes.listed.Given as goal

abbrev pub invariant-loop-x : goal.invariant-loop-x
invariant-loop-x l = l.signals ≡ flat_map (listed l.names) (take l.x-index l.xs)
