use Rattle.std.proofs.Common.{◌≡◌, drop}
use Rattle.trace_text.specs.Trace.{broken_prop}
use Rattle.trace_text.proofs.broken_prop.Given as goal

abbrev pub invariant-loop-event : goal.invariant-loop-event
invariant-loop-event l = broken_prop l.events ≡ broken_prop (drop l.event-index l.events)
