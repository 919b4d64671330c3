-- What a replay answers.
use Rattle.std.specs.Prelude.{◌≡◌, ℕ, List}
use Rattle.joint_ir.specs.Effects.{Effect, Stops, TooFew}
use Rattle.joint_view.specs.declared.halt.Halt.{Halt}
use Rattle.joint_view.specs.declared.halt.Halt.TheVariants as halt
use Rattle.joint_step.specs.declared.run.ReplayEnd.{ReplayEnd}
use Rattle.joint_step.specs.declared.run.ReplayEnd.TheVariants as end
use Rattle.joint_step.specs.declared.run.Replayed.{Replayed}

-- a run ends so, with these events, having drawn numbers of some widths, and leaves some choices
abbrev pub IsRun : Replayed → Effect → Type 0
IsRun r effect = (widths rest : List ℕ) × (effect ≡ Stops r.outcome (record { events = r.events; widths = widths }) rest)

-- a run draws more choices than there are; want of memory says nothing of it
abbrev pub IsCutOff : ReplayEnd → Effect → Type 0
IsCutOff end.TooFew effect = effect ≡ TooFew
IsCutOff end.Memory effect = Unit {0}

-- a halt that a run is not carried on from
abbrev pub IsShort : ReplayEnd → Halt → Type 0
IsShort end.TooFew h = h ≡ halt.TooFew
IsShort end.Memory h = Unit {0}
