use Rattle.std.proofs.Common.{take, length}
use Rattle.bit_sets.specs.Sets.{IsWithout, IsWithin}
use Rattle.bit_sets.proofs.lacking.Given as goal

abbrev pub invariant-loop-bits : goal.invariant-loop-bits
invariant-loop-bits l = record { within : IsWithin (length l.table) l.rest.items; lacking : IsWithout l.table (take l.bits-index l.set) l.rest.items }
