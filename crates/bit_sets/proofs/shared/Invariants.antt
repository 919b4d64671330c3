use Rattle.std.proofs.Common.{take, length}
use Rattle.bit_sets.specs.Sets.{IsCommon, IsWithin}
use Rattle.bit_sets.proofs.shared.Given as goal

abbrev pub invariant-loop-bits : goal.invariant-loop-bits
invariant-loop-bits l = record { within : IsWithin (length l.table) l.both.items; shared : IsCommon l.table (take l.bits-index l.set) l.both.items }
