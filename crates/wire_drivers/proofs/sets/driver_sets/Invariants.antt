use Rattle.std.proofs.Common.{take, length}
use Rattle.std.specs.Prelude.{All}
use Rattle.std.specs.Global.{Vec}
use Rattle.bit_sets.specs.declared.Bits.{Bits}
use Rattle.bit_sets.specs.Sets.{IsWithin}
use Rattle.flat_values.specs.Fits.{shapes_of}
use Rattle.wire_drivers.specs.Wires.{AreSetsOf}
use Rattle.wire_drivers.proofs.sets.driver_sets.Given as goal

abbrev pub invariant-loop-driver : goal.invariant-loop-driver
invariant-loop-driver l = record {
  within : All (λ (s : Vec Bits). IsWithin (length l.signals) s.items) l.sets.items;
  sets : AreSetsOf (shapes_of l.signals) l.extent (take l.driver-index l.drivers) l.sets.items;
}
