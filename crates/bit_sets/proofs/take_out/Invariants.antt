use Rattle.std.proofs.Common.{◌≡◌, take, vec_len}
use Rattle.bit_sets.specs.Sets.{TakesOut}
use Rattle.bit_sets.proofs.take_out.Given as goal

abbrev pub invariant-loop-bits : goal.invariant-loop-bits
invariant-loop-bits l = record { len : vec_len l.table ≡ vec_len l.initial.table; takes : TakesOut (take l.bits-index l.set) l.initial.table.items l.table.items }
