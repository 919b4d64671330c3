-- What a machine shows of a run.
use Rattle.std.specs.Prelude.{◌≡◌, ℕ, ◌+◌, ℤ, List, [], ◌∷◌, ◌++◌, drop, Result, Ok, Err}
use Rattle.joint_ir.specs.Types.{InRange}
use Rattle.joint_ir.specs.declared.ctype.IntType.{IntType}
use Rattle.joint_ir.specs.declared.expr.Slot.TheVariants.{Local}
use Rattle.joint_ir.specs.declared.pair.Pair.{Pair}
use Rattle.joint_ir.specs.declared.program.CProgram.{CProgram}
use Rattle.joint_ir.specs.States.{JointState}
use Rattle.joint_ir.specs.Effects.{Effect, Told, Onward, Goes, Stops, TooFew, preceded}
use Rattle.joint_ir.specs.Steps.{Setting, slot_type}
use Rattle.joint_ir.specs.WellFormed.{Scope}
use Rattle.joint_value.specs.Answers.{IsSmall}
use Rattle.joint_value.specs.Evaluable.{KeepsTypes}
use Rattle.joint_view.specs.declared.halt.Halt.{Halt}
use Rattle.joint_view.specs.declared.halt.Halt.TheVariants as halt
use Rattle.joint_view.specs.Conditions.{IsView}
use Rattle.joint_view.specs.Halts.{last_events, only_seen, unmeasured}
use Rattle.joint_machine.specs.declared.machine.Machine.{Machine}
use Rattle.joint_machine.specs.declared.setting.Activation.{Activation}
use Rattle.joint_ir.specs.declared.way.Way.{Way}
use Rattle.joint_ir.specs.declared.way.Way.TheVariants as way

-- the state of a run that a machine holds
abbrev pub state_of : Machine → JointState
state_of m = record { store = m.store; view = m.view; edges = m.edges; returned = m.returned }

-- the choices that are left
abbrev pub left_of : Machine → List ℕ
left_of m = drop m.at m.choices

-- what was seen so far
abbrev pub told_of : Machine → Told
told_of m = only_seen m.events.items

-- an effect ends a run as a machine that halts shows; want of memory says nothing of it
abbrev pub Halts : Halt → Machine → Effect → Type 0
Halts (halt.Stop o) m e = e ≡ Stops o (only_seen (m.events.items ++ last_events o)) (left_of m)
Halts halt.TooFew m e = e ≡ TooFew
Halts halt.Memory m e = Unit {0}

-- a stretch of a run from where a machine is, behind what was seen so far, without the widths that are drawn
abbrev pub from_here : Machine → Onward → Effect
from_here m f = preceded (told_of m) (unmeasured (f (state_of m) (left_of m)))

-- an effect is what a machine shows
abbrev pub Shows : Result Way Halt → Machine → Effect → Type 0
Shows (Ok w) m e = e ≡ Goes w (state_of m) (told_of m) (left_of m)
Shows (Err h) m e = Halts h m e

-- a machine did what a stretch of a run does
abbrev pub Does : Result Way Halt → (old new : Machine) → Onward → Type 0
Does result old new f = Shows result new (from_here old f)

-- the same for a stretch that goes on to the next statement if it goes on
abbrev pub Passes : {A : Type 0} → Result A Halt → (old new : Machine) → Onward → Type 0
Passes (Ok _) old new f = from_here old f ≡ Goes way.Next (state_of new) (told_of new) (left_of new)
Passes (Err h) old new f = Halts h new (from_here old f)

-- a machine found a value, whatever goes on with it
abbrev pub Finds : {A : Type 0} → Result A Halt → (old new : Machine) → ((A → Onward) → Onward) → Type 0
Finds (Ok x) old new f = (go : _ → Onward) → from_here old (f go) ≡ from_here new (go x)
Finds (Err h) old new f = (go : _ → Onward) → Halts h new (from_here old (f go))

-- what no stretch of a run changes
pub record IsKept (old new : Machine) : Type 0 where
  pub choices : new.choices ≡ old.choices
  pub standing : new.standing.items ≡ old.standing.items

-- the objects hold numbers of their types, the words fit the module
pub record IsReady (p : Pair) (m : Machine) : Type 0 where
  pub held : KeepsTypes p.program m.store
  pub view : IsView p.module m.view
  pub small : IsSmall m.returned

-- something stands well-formed in a function of a program
pub record Stands (p : Pair) (here : ℕ) (fits : Scope → Type 0) : Type 0 where
  pub scope : Scope
  pub program : scope.program ≡ p.program
  pub function : scope.here ≡ here
  pub holds : fits scope

-- what the definitions are told of an activation: the pair, the bounds and the function whose body it is
abbrev pub setting_of : Activation → Setting
setting_of a = record { pair = a.pair.now; bounds = a.bounds.now; here = a.here }

-- numbers in the ranges of types
abbrev pub InTypes : List IntType → List ℤ → Type 0
InTypes [] [] = Unit {0}
InTypes [] (n ∷ ns) = ⊥
InTypes (t ∷ ts) [] = ⊥
InTypes (t ∷ ts) (n ∷ ns) = InRange t n × InTypes ts ns

-- numbers in the ranges of the parameters that stand in the locals of a program from the place x on
abbrev pub AreParams : CProgram → (x : ℕ) → List ℤ → Type 0
AreParams p x [] = Unit {0}
AreParams p x (n ∷ ns) = InRange (slot_type p (Local x)) n × AreParams p (x + 1) ns
