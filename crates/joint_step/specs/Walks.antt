-- What an activation does of a run, on a machine.
use Rattle.std.specs.Prelude.{◌≡◌, ℕ, List, Result, IfOk}
use Rattle.joint_ir.specs.Effects.{Onward}
use Rattle.joint_ir.specs.Steps.{Calls}
use Rattle.joint_ir.specs.Statements.{calls_at}
use Rattle.joint_view.specs.declared.halt.Halt.{Halt}
use Rattle.joint_machine.specs.declared.machine.Machine.{Machine}
use Rattle.joint_ir.specs.declared.way.Way.{Way}
use Rattle.joint_machine.specs.Moments.{Does, Passes, Finds, IsKept, IsReady}
use Rattle.joint_machine.specs.declared.setting.Activation.{Activation}

-- what calls do in an activation, where these functions have activations that stand
abbrev pub calls_in : Activation → (standing : List ℕ) → Calls
calls_in a standing = calls_at a.pair.now a.bounds.now a.left standing

-- a machine did what a stretch with calls does
abbrev pub DoesIn : Activation → Result Way Halt → (old new : Machine) → (Calls → Onward) → Type 0
DoesIn a result old new f = (standing : List ℕ) → old.standing.items ≡ standing → Does result old new (f (calls_in a standing))

-- the same for a stretch that goes on to the next statement if it goes on
abbrev pub PassesIn : Activation → {A : Type 0} → Result A Halt → (old new : Machine) → (Calls → Onward) → Type 0
PassesIn a result old new f = (standing : List ℕ) → old.standing.items ≡ standing → Passes result old new (f (calls_in a standing))

-- a machine found a value, by a stretch with calls
abbrev pub FindsIn : Activation → {A : Type 0} → Result A Halt → (old new : Machine) → (Calls → (A → Onward) → Onward) → Type 0
FindsIn a result old new f = (standing : List ℕ) → old.standing.items ≡ standing → Finds result old new (f (calls_in a standing))

-- what stays the same of a machine that goes on, and what holds of it
abbrev pub GoesOn : Activation → {A : Type 0} → Result A Halt → (old new : Machine) → Type 0
GoesOn a result old new = IfOk result (λ _. IsKept old new × IsReady a.pair.now new)
