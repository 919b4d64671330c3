-- What a stretch of a run does: how it goes on or ends, what is told of it, and the choices that it leaves.
use Rattle.std.specs.Prelude.{ℕ, ◌%◌, ◌^◌, Bool, true, false, List, [], ◌∷◌, ◌++◌, Option, Some, None, ℤ}
use Rattle.joint_ir.specs.declared.event.Event.{Event}
use Rattle.joint_ir.specs.declared.event.Event.TheVariants.{Broke}
use Rattle.joint_ir.specs.declared.event.Outcome.{Outcome}
use Rattle.joint_ir.specs.declared.event.Outcome.TheVariants.{Broken}
use Rattle.joint_ir.specs.declared.expr.TExpr.{TExpr}
use Rattle.joint_ir.specs.declared.program.PropId.{PropId}
use Rattle.joint_ir.specs.declared.way.Way.{Way}
use Rattle.joint_ir.specs.declared.way.Way.TheVariants.{Next, Breaking, Continuing, Returning}
use Rattle.joint_ir.specs.Values.{Answer, Value, Fault, Rows, value_of}
use Rattle.joint_ir.specs.States.{JointState}

-- what is told of a stretch: the events that are seen, and the widths of the numbers that are drawn, both in order. The
-- k-th choice that a run uses up is drawn at the k-th width
pub record Told : Type 0 where
  pub events : List Event
  pub widths : List ℕ

-- nothing is seen or drawn
abbrev pub nothing : Told
nothing = record { events = []; widths = [] }

-- one event is seen
abbrev pub seen : Event → Told
seen event = record { events = event ∷ []; widths = [] }

-- one number of so many bits is drawn
abbrev pub drew : (bits : ℕ) → Told
drew bits = record { events = []; widths = bits ∷ [] }

-- what is told of two stretches, one after the other
abbrev pub joined : Told → Told → Told
joined first second = record { events = first.events ++ second.events; widths = first.widths ++ second.widths }

-- a stretch goes on, or ends the run, or draws more choices than there are
pub data Effect : Type 0 where
  Goes : (way : Way) (state : JointState) (told : Told) (rest : List ℕ) → Effect
  Stops : (outcome : Outcome) (told : Told) (rest : List ℕ) → Effect
  TooFew : Effect

-- what goes on from a state and the choices that are left
abbrev pub Onward : Type 0
Onward = JointState → List ℕ → Effect

-- an effect behind what was told before it
abbrev pub preceded : Told → Effect → Effect
preceded before (Goes way s told c) = Goes way s (joined before told) c
preceded before (Stops o told c) = Stops o (joined before told) c
preceded before TooFew = TooFew

-- goes on where a statement goes on to the next one
abbrev pub then_do : Effect → Onward → Effect
then_do (Goes Next s told c) go = preceded told (go s c)
then_do (Goes Breaking s told c) go = Goes Breaking s told c
then_do (Goes Continuing s told c) go = Goes Continuing s told c
then_do (Goes Returning s told c) go = Goes Returning s told c
then_do (Stops o told c) go = Stops o told c
then_do TooFew go = TooFew

-- after a turn of a loop: `continue` goes on with the loop, and `break` leaves it
abbrev pub after_turn : Effect → Onward → Effect
after_turn (Goes Next s told c) go = preceded told (go s c)
after_turn (Goes Continuing s told c) go = preceded told (go s c)
after_turn (Goes Breaking s told c) go = Goes Next s told c
after_turn (Goes Returning s told c) go = Goes Returning s told c
after_turn (Stops o told c) go = Stops o told c
after_turn TooFew go = TooFew

-- after the groups of a switch: `break` leaves it
abbrev pub after_groups : Effect → Effect
after_groups (Goes Next s told c) = Goes Next s told c
after_groups (Goes Breaking s told c) = Goes Next s told c
after_groups (Goes Continuing s told c) = Goes Continuing s told c
after_groups (Goes Returning s told c) = Goes Returning s told c
after_groups (Stops o told c) = Stops o told c
after_groups TooFew = TooFew

-- a property breaks, which ends the run
abbrev pub broken : PropId → List ℕ → Effect
broken p c = Stops (Broken p) (seen (Broke p)) c

-- a check of a property, where one stands at the statement
abbrev pub check_then : Option PropId → Bool → List ℕ → Effect → Effect
check_then None test c e = e
check_then (Some p) true c e = e
check_then (Some p) false c e = broken p c

-- goes on with a value
abbrev pub with_value : Answer → List ℕ → (ℤ → Effect) → Effect
with_value (Value n) c go = go n
with_value (Fault p) c go = broken p c

-- evaluates expressions from left to right, and goes on with their values
abbrev pub with_values : Rows → List TExpr → List ℕ → (List ℤ → Effect) → Effect
with_values rows [] c go = go []
with_values rows (e ∷ es) c go = with_value (value_of rows e) c (λ n. with_values rows es c (λ ns. go (n ∷ ns)))

-- draws a number of so many bits, at most 64: a choice modulo 2^bits. What has more bits is drawn as two numbers
abbrev pub draw : (bits : ℕ) → List ℕ → (ℕ → List ℕ → Effect) → Effect
draw bits [] go = TooFew
draw bits (n ∷ c) go = preceded (drew bits) (go (n % 2 ^ bits) c)

-- draws one number for each width
abbrev pub draw_all : (widths : List ℕ) → List ℕ → (List ℕ → List ℕ → Effect) → Effect
draw_all [] c go = go [] c
draw_all (bits ∷ widths) c go = draw bits c (λ n rest. draw_all widths rest (λ ns. go (n ∷ ns)))
