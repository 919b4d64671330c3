-- The text of a trace: a line for each event, and one for each word that it shows.
use Rattle.std.specs.Prelude.{ℕ, List, ◌++◌, codes, decimal}
use Rattle.std.specs.List.{flat_map}
use Rattle.hwcbmc_core.specs.Runs.{Shown, Property, Event, Frame, Broke}

-- a line for a word and its value, which is shown in decimal digits
abbrev pub shown_text : Shown → List ℕ
shown_text shown = codes "  " ++ (shown.path ++ (codes " = " ++ (decimal shown.value ++ codes "\n")))

-- a frame by its number with a line for each word that it shows; or the property that broke, by its name and line
abbrev pub event_text : Event → List ℕ
event_text (Frame number shown) = codes "frame " ++ (decimal number ++ (codes "\n" ++ flat_map shown_text shown))
event_text (Broke property) = codes "broken " ++ (property.name ++ (codes " at line " ++ (decimal property.line ++ codes "\n")))

-- the trace of a run that breaks the property
abbrev pub trace_text : Property → List Event → List ℕ
trace_text property events =
    codes "Trace for " ++ (property.name ++ (codes ":\n" ++ (flat_map event_text events ++ codes "VERIFICATION FAILED\n")))
