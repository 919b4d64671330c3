use Rattle.std.proofs.Common.{◌≡◌, ◌++◌, take}
use Rattle.std.specs.Prelude.{string_bytes}
use Rattle.std.specs.List.{flat_map}
use Rattle.trace_text.specs.Trace.{shown_text}
use Rattle.trace_text.proofs.push_all_shown.Given as goal

abbrev pub invariant-loop-x : goal.invariant-loop-x
invariant-loop-x l = string_bytes l.text ≡ string_bytes l.initial.text ++ flat_map (shown_text l.pair) (take l.x-index l.shown)
