-- Stretches of a run that see a break only where they end by it, as the last event, and what is made of them.
use Rattle.std.proofs.Common.{◌≡◌, ℕ, ◌%◌, ◌^◌, List, [], ◌∷◌, ◌++◌, refl, sym, ap, ◌∙◌, append_assoc}
use Rattle.std.specs.Prelude.{ℤ, Option, Some, None, Bool, true, false, if◌then◌else◌}
use Rattle.joint_ir.specs.declared.event.Event.{Event}
use Rattle.joint_ir.specs.declared.event.Event.TheVariants.{Frame, Driven, Stored, Broke}
use Rattle.joint_ir.specs.declared.event.Outcome.{Outcome}
use Rattle.joint_ir.specs.declared.event.Outcome.TheVariants.{Ended, Cut, OutOfFrames, Broken}
use Rattle.joint_ir.specs.declared.expr.TExpr.{TExpr}
use Rattle.joint_ir.specs.declared.program.PropId.{PropId}
use Rattle.joint_ir.specs.Values.{Answer, Value, Fault, Rows, value_of}
use Rattle.joint_ir.specs.States.{JointState}
use Rattle.joint_ir.specs.Effects.{Effect, Told, drew, Onward, Goes, Stops, TooFew, preceded, broken, then_do, after_turn, after_groups, check_then, with_value, with_values, draw, draw_all}
use Rattle.joint_ir.specs.declared.way.Way.{Way}
use Rattle.joint_ir.specs.declared.way.Way.TheVariants.{Next, Breaking, Continuing, Returning}
use Rattle.named_breaks.specs.Named.{first_broken}

-- events that end by the break of a property, and see no other
pub record Last (p : PropId) (events : List Event) : Type 0 where
  pub before : List Event
  pub parts : events ≡ before ++ Broke p ∷ []
  pub none_before : first_broken before ≡ None

-- events see a break just where the outcome is one, and then it is the last of them
abbrev pub IsEnd : Outcome → List Event → Type 0
IsEnd Ended events = first_broken events ≡ None
IsEnd Cut events = first_broken events ≡ None
IsEnd OutOfFrames events = first_broken events ≡ None
IsEnd (Broken p) events = Last p events

-- an effect sees a break only where it ends by it
abbrev pub IsNamed : Effect → Type 0
IsNamed (Goes way s told rest) = first_broken told.events ≡ None
IsNamed (Stops o told rest) = IsEnd o told.events
IsNamed TooFew = Unit {0}

-- the same of f, on any choices
pub record Named (f : List ℕ → Effect) : Type 0 where
  pub at : (choices : List ℕ) → IsNamed (f choices)

-- the same of a stretch, from each state
abbrev pub Steady : Onward → Type 0
Steady f = (s : JointState) → Named (f s)

first_behind : (a b : List Event) → first_broken a ≡ None → first_broken (a ++ b) ≡ first_broken b
first_behind [] b none = refl
first_behind (Frame n shown ∷ a) b none = first_behind a b none
first_behind (Driven shown ∷ a) b none = first_behind a b none
first_behind (Stored line slot index value ∷ a) b none = first_behind a b none
first_behind (Broke p ∷ a) b none = absurd (no_break p none)
  where
    no_break : (p : PropId) → Some p ≡ None → ⊥
    no_break p e = cc

pub goes_named : (way : Way) (s : JointState) (told : Told) → first_broken told.events ≡ None → Named (Goes way s told)
goes_named way s told none = record { at = λ c. none }

pub stops_named : (o : Outcome) (told : Told) → IsEnd o told.events → Named (Stops o told)
stops_named o told is = record { at = λ c. is }

-- a property breaks at once
pub broken_named : (p : PropId) → Named (broken p)
broken_named p = record { at = λ c. record { before = []; parts = refl; none_before = refl } }

end_behind : (o : Outcome) (a b : List Event) → first_broken a ≡ None → IsEnd o b → IsEnd o (a ++ b)
end_behind Ended a b none is = first_behind a b none ∙ is
end_behind Cut a b none is = first_behind a b none ∙ is
end_behind OutOfFrames a b none is = first_behind a b none ∙ is
end_behind (Broken p) a b none is = record {
  before = a ++ is.before;
  parts = ap (λ l. a ++ l) is.parts ∙ sym (append_assoc a is.before (Broke p ∷ []));
  none_before = first_behind a is.before none ∙ is.none_before;
}

-- behind what was told without a break
pub behind_named : (before : Told) (e : Effect) → first_broken before.events ≡ None → IsNamed e → IsNamed (preceded before e)
behind_named before (Goes way s told rest) none is = first_behind before.events told.events none ∙ is
behind_named before (Stops o told rest) none is = end_behind o before.events told.events none is
behind_named before TooFew none is = tt

then_at : (e : Effect) (go : Onward) → IsNamed e → Steady go → IsNamed (then_do e go)
then_at (Goes Next s told rest) go is on = behind_named told (go s rest) is ((on s).at rest)
then_at (Goes Breaking s told rest) go is on = is
then_at (Goes Continuing s told rest) go is on = is
then_at (Goes Returning s told rest) go is on = is
then_at (Stops o told rest) go is on = is
then_at TooFew go is on = tt

pub then_named : (f : List ℕ → Effect) (go : Onward) → Named f → Steady go → Named (λ c. then_do (f c) go)
then_named f go is on = record { at = λ c. then_at (f c) go (is.at c) on }

turn_at : (e : Effect) (go : Onward) → IsNamed e → Steady go → IsNamed (after_turn e go)
turn_at (Goes Next s told rest) go is on = behind_named told (go s rest) is ((on s).at rest)
turn_at (Goes Continuing s told rest) go is on = behind_named told (go s rest) is ((on s).at rest)
turn_at (Goes Breaking s told rest) go is on = is
turn_at (Goes Returning s told rest) go is on = is
turn_at (Stops o told rest) go is on = is
turn_at TooFew go is on = tt

pub turn_named : (f : List ℕ → Effect) (go : Onward) → Named f → Steady go → Named (λ c. after_turn (f c) go)
turn_named f go is on = record { at = λ c. turn_at (f c) go (is.at c) on }

groups_at : (e : Effect) → IsNamed e → IsNamed (after_groups e)
groups_at (Goes Next s told rest) is = is
groups_at (Goes Breaking s told rest) is = is
groups_at (Goes Continuing s told rest) is = is
groups_at (Goes Returning s told rest) is = is
groups_at (Stops o told rest) is = is
groups_at TooFew is = tt

pub groups_named : (f : List ℕ → Effect) → Named f → Named (λ c. after_groups (f c))
groups_named f is = record { at = λ c. groups_at (f c) (is.at c) }

pub check_named : (p : Option PropId) (test : Bool) (f : List ℕ → Effect) → Named f → Named (λ c. check_then p test c (f c))
check_named None test f is = is
check_named (Some p) true f is = is
check_named (Some p) false f is = broken_named p

pub value_named : (a : Answer) (go : ℤ → List ℕ → Effect) → ((n : ℤ) → Named (go n)) → Named (λ c. with_value a c (λ n. go n c))
value_named (Value n) go h = h n
value_named (Fault p) go h = broken_named p

pub values_named : (rows : Rows) (es : List TExpr) (go : List ℤ → List ℕ → Effect) → ((ns : List ℤ) → Named (go ns)) → Named (λ c. with_values rows es c (λ ns. go ns c))
values_named rows [] go h = h []
values_named rows (e ∷ es) go h =
    value_named (value_of rows e) (λ n c. with_values rows es c (λ ns. go (n ∷ ns) c)) (λ n. values_named rows es (λ ns. go (n ∷ ns)) (λ ns. h (n ∷ ns)))

draw_at : (bits : ℕ) (go : ℕ → List ℕ → Effect) → ((n : ℕ) → Named (go n)) → (c : List ℕ) → IsNamed (draw bits c go)
draw_at bits go h [] = tt
draw_at bits go h (n ∷ c) = behind_named (drew bits) (go (n % 2 ^ bits) c) refl ((h (n % 2 ^ bits)).at c)

pub draw_named : (bits : ℕ) (go : ℕ → List ℕ → Effect) → ((n : ℕ) → Named (go n)) → Named (λ c. draw bits c go)
draw_named bits go h = record { at = draw_at bits go h }

pub draw_all_named : (widths : List ℕ) (go : List ℕ → List ℕ → Effect) → ((ns : List ℕ) → Named (go ns)) → Named (λ c. draw_all widths c go)
draw_all_named [] go h = h []
draw_all_named (bits ∷ widths) go h =
    draw_named bits (λ n rest. draw_all widths rest (λ ns. go (n ∷ ns))) (λ n. draw_all_named widths (λ ns. go (n ∷ ns)) (λ ns. h (n ∷ ns)))

pub if_named : (test : Bool) (f g : List ℕ → Effect) → Named f → Named g → Named (λ c. if test then f c else g c)
if_named true f g x y = x
if_named false f g x y = y
