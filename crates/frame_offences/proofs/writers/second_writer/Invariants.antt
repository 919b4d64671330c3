use Rattle.std.proofs.Common.{◌≡◌, take, vec_len}
use Rattle.frame_offences.specs.Drivers.{IsFilled, HasNoSecond}
use Rattle.frame_offences.proofs.writers.second_writer.Given as goal

abbrev pub invariant-loop-j : goal.invariant-loop-j
invariant-loop-j l = record { len : vec_len l.table ≡ l.signals; filled : IsFilled (take l.j l.sets) l.table.items; none : HasNoSecond l.sets l.j }
