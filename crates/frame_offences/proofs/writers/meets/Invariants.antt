use Rattle.std.proofs.Common.{take, false}
use Rattle.frame_offences.specs.Drivers.{IsMeeting}
use Rattle.frame_offences.proofs.writers.meets.Given as goal

abbrev pub invariant-loop-bits : goal.invariant-loop-bits
invariant-loop-bits l = IsMeeting l.table (take l.bits-index l.set) false
