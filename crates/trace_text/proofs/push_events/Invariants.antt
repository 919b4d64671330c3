use Rattle.std.proofs.Common.{◌≡◌, ◌++◌, take}
use Rattle.std.specs.Prelude.{string_bytes}
use Rattle.std.specs.List.{flat_map}
use Rattle.trace_text.specs.Trace.{event_text}
use Rattle.trace_text.proofs.push_events.Given as goal

abbrev pub invariant-loop-event : goal.invariant-loop-event
invariant-loop-event l = string_bytes l.text ≡ string_bytes l.initial.text ++ flat_map (event_text l.pair) (take l.event-index l.events)
