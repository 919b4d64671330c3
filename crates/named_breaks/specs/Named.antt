-- How the events of a run that breaks a property end.
use Rattle.std.specs.Prelude.{◌≡◌, ℕ, List, [], ◌∷◌, ◌++◌, Option, Some, None}
use Rattle.joint_ir.specs.declared.bounds.Bounds.{Bounds}
use Rattle.joint_ir.specs.declared.event.Event.{Event}
use Rattle.joint_ir.specs.declared.event.Event.TheVariants.{Frame, Driven, Stored, Broke}
use Rattle.joint_ir.specs.declared.event.Outcome.TheVariants.{Broken}
use Rattle.joint_ir.specs.declared.pair.Pair.{Pair}
use Rattle.joint_ir.specs.declared.program.PropId.{PropId}
use Rattle.joint_ir.specs.Effects.{Told, Stops}
use Rattle.joint_ir.specs.Runs.{run_of}
use Rattle.trace_text.specs.Trace.{broken_prop}

-- the first property that breaks among events, if one does
abbrev pub first_broken : List Event → Option PropId
first_broken [] = None
first_broken (Frame n shown ∷ events) = first_broken events
first_broken (Driven shown ∷ events) = first_broken events
first_broken (Stored line slot index value ∷ events) = first_broken events
first_broken (Broke p ∷ events) = Some p

-- The last event is that a property breaks, and none breaks before it. A trace of them names that property.
pub record EndsByBreak (events : List Event) (p : PropId) : Type 0 where
  pub before : List Event
  pub parts : events ≡ before ++ Broke p ∷ []
  pub none_before : first_broken before ≡ None
  pub named : broken_prop events ≡ p

-- where a run breaks a property, its events end by that break and have no other
abbrev pub NamedBreaks : Type 0
NamedBreaks =
    (pair : Pair) (bounds : Bounds) (choices : List ℕ) (p : PropId) (told : Told) (rest : List ℕ) →
    run_of pair bounds choices ≡ Stops (Broken p) told rest → EndsByBreak told.events p
