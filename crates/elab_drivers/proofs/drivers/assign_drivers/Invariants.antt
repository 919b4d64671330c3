use Rattle.std.proofs.Common.{◌≡◌, take, map}
use Rattle.elab_drivers.specs.Drivers.{assign_driver}
use Rattle.elab_drivers.proofs.drivers.assign_drivers.Given as goal

abbrev pub invariant-loop-a : goal.invariant-loop-a
invariant-loop-a l = l.drivers ≡ map (assign_driver l.names l.instance) (take l.a-index l.assignments)
