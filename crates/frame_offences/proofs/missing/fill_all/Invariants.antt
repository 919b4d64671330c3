use Rattle.std.proofs.Common.{◌≡◌, take, vec_len}
use Rattle.frame_offences.specs.Drivers.{IsFilled}
use Rattle.frame_offences.proofs.missing.fill_all.Given as goal

abbrev pub invariant-loop-j : goal.invariant-loop-j
invariant-loop-j l = record { len : vec_len l.table ≡ l.signals; filled : IsFilled (take l.j l.sets) l.table.items }
