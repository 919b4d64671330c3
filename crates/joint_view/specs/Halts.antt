-- What a halt says of a stretch of a run.
use Rattle.std.specs.Prelude.{◌≡◌, ℕ, List, [], ◌∷◌}
use Rattle.joint_ir.specs.declared.event.Event.{Event}
use Rattle.joint_ir.specs.declared.event.Event.TheVariants.{Broke}
use Rattle.joint_ir.specs.declared.event.Outcome.{Outcome}
use Rattle.joint_ir.specs.declared.event.Outcome.TheVariants.{Ended, Cut, OutOfFrames, Broken}
use Rattle.joint_ir.specs.Effects.{Effect, Told, Goes, Stops, TooFew}
use Rattle.joint_view.specs.declared.halt.Halt.{Halt}
use Rattle.joint_view.specs.declared.halt.Halt.TheVariants as halt

-- events alone are seen
abbrev pub only_seen : List Event → Told
only_seen events = record { events = events; widths = [] }

-- an effect without the widths of its draws, of which whoever carries a run out keeps nothing
abbrev pub unmeasured : Effect → Effect
unmeasured (Goes way s told c) = Goes way s (only_seen told.events) c
unmeasured (Stops o told c) = Stops o (only_seen told.events) c
unmeasured TooFew = TooFew

-- the events of an outcome: a property that breaks is seen
abbrev pub last_events : Outcome → List Event
last_events Ended = []
last_events Cut = []
last_events OutOfFrames = []
last_events (Broken p) = Broke p ∷ []

-- a stretch halts so, with these choices left; want of memory says nothing of it
abbrev pub HaltsAs : Halt → (left : List ℕ) → Effect → Type 0
HaltsAs (halt.Stop o) left e = unmeasured e ≡ Stops o (only_seen (last_events o)) left
HaltsAs halt.TooFew left e = unmeasured e ≡ TooFew
HaltsAs halt.Memory left e = Unit {0}

-- draws give these numbers and leave these choices, whatever goes on from there
abbrev pub Draws : ((List ℕ → List ℕ → Effect) → Effect) → (numbers left : List ℕ) → Type 0
Draws drawing numbers left = (go : List ℕ → List ℕ → Effect) → unmeasured (drawing go) ≡ unmeasured (go numbers left)

-- draws halt so: there are too few choices, or there is no more memory
abbrev pub HaltsDraws : Halt → ((List ℕ → List ℕ → Effect) → Effect) → Type 0
HaltsDraws (halt.Stop o) drawing = ⊥
HaltsDraws halt.TooFew drawing = (go : List ℕ → List ℕ → Effect) → unmeasured (drawing go) ≡ TooFew
HaltsDraws halt.Memory drawing = Unit {0}
