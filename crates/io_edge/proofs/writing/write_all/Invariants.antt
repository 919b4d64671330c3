use Rattle.std.proofs.Common.{◌≡◌, ◌≤◌, ◌-◌, length, take}
use Rattle.io_edge.specs.Sink.{Appends}
use Rattle.io_edge.proofs.writing.write_all.Given as goal

-- the front of the bytes up to here was written, and nothing failed
abbrev pub invariant-loop-done : goal.invariant-loop-done
invariant-loop-done g l = record {
  within : l.done ≤ length l.bytes;
  written : Appends (g.K.Sink.stream l.initial.sink).written (g.K.Sink.stream l.sink).written (take l.done l.bytes);
  same_count : (g.K.Sink.stream l.sink).faults ≡ (g.K.Sink.stream l.initial.sink).faults;
}

abbrev pub decreases-loop-done : goal.decreases-loop-done
decreases-loop-done g l = length l.bytes - l.done
