-- How stretches of a run follow one another, behind what was seen before.
use Rattle.std.proofs.Common.{◌≡◌, ℕ, List, ◌++◌, refl, sym, ap, subst, ◌∙◌}
use Rattle.std.specs.Prelude.{Result, Ok, Err, IfOk, IfErr, MatchResult, ℤ}
use Rattle.std.proofs.lemmas.List.{append_assoc, append-nil}
use Rattle.joint_ir.specs.declared.event.Event.{Event}
use Rattle.joint_ir.specs.declared.event.Outcome.TheVariants.{Broken}
use Rattle.joint_ir.specs.declared.program.PropId.{PropId}
use Rattle.joint_ir.specs.Values.{Answer, Value, Fault}
use Rattle.joint_ir.specs.Effects.{Effect, Told, nothing, joined, Onward, Goes, Stops, TooFew, preceded, then_do, after_turn, after_groups, with_value, broken}
use Rattle.joint_ir.specs.declared.way.Way.TheVariants.{Next, Breaking, Continuing, Returning}
use Rattle.joint_ir.specs.Steps.{returning}
use Rattle.joint_ir.specs.States.{JointState}
use Rattle.joint_ir.specs.declared.pair.Pair.{Pair}
use Rattle.joint_value.specs.Evaluable.{KeepsTypes}
use Rattle.joint_view.specs.Conditions.{IsView}
use Rattle.joint_value.specs.Answers.{answer_of, IsSmall}
use Rattle.joint_view.specs.declared.halt.Halt.{Halt}
use Rattle.joint_view.specs.declared.halt.Halt.TheVariants as halt
use Rattle.joint_machine.specs.declared.machine.Machine.{Machine}
use Rattle.joint_view.specs.Halts.{only_seen, unmeasured}
use Rattle.joint_machine.specs.Moments.{state_of, left_of, told_of, Halts, Passes, Finds, IsReady, from_here}

pub joined_assoc : (a b c : Told) → joined (joined a b) c ≡ joined a (joined b c)
joined_assoc a b c =
    ap (λ (es : List Event). told es ((a.widths ++ b.widths) ++ c.widths)) (append_assoc a.events b.events c.events)
    ∙ ap (λ (ws : List ℕ). told (a.events ++ (b.events ++ c.events)) ws) (append_assoc a.widths b.widths c.widths)
  where
    told : List Event → List ℕ → Told
    told es ws = record { events = es; widths = ws }

pub preceded_twice : (a b : Told) (e : Effect) → preceded a (preceded b e) ≡ preceded (joined a b) e
preceded_twice a b (Goes way s more c) = ap (λ (t : Told). Goes way s t c) (sym (joined_assoc a b more))
preceded_twice a b (Stops o more c) = ap (λ (t : Told). Stops o t c) (sym (joined_assoc a b more))
preceded_twice a b TooFew = refl

-- what was told before an effect, without its widths
pub unmeasured_law : (a : Told) (e : Effect) → unmeasured (preceded a e) ≡ preceded (only_seen a.events) (unmeasured e)
unmeasured_law a (Goes way s more c) = refl
unmeasured_law a (Stops o more c) = refl
unmeasured_law a TooFew = refl

pub unmeasured_behind : (a b : Told) (e : Effect) → preceded a (unmeasured (preceded b e)) ≡ preceded (joined a (only_seen b.events)) (unmeasured e)
unmeasured_behind a b e = ap (preceded a) (unmeasured_law b e) ∙ preceded_twice a (only_seen b.events) (unmeasured e)

-- what goes on, without the widths that it draws
abbrev pub onward : Onward → Onward
onward go s c = unmeasured (go s c)

-- what was seen before stays before what follows
pub then_law : (a : Told) (e : Effect) (go : Onward) → preceded a (unmeasured (then_do e go)) ≡ then_do (preceded a (unmeasured e)) (onward go)
then_law a (Goes Next s b c) go = unmeasured_behind a b (go s c)
then_law a (Goes Breaking s b c) go = refl
then_law a (Goes Continuing s b c) go = refl
then_law a (Goes Returning s b c) go = refl
then_law a (Stops o b c) go = refl
then_law a TooFew go = refl

pub turn_law : (a : Told) (e : Effect) (go : Onward) → preceded a (unmeasured (after_turn e go)) ≡ after_turn (preceded a (unmeasured e)) (onward go)
turn_law a (Goes Next s b c) go = unmeasured_behind a b (go s c)
turn_law a (Goes Breaking s b c) go = refl
turn_law a (Goes Continuing s b c) go = unmeasured_behind a b (go s c)
turn_law a (Goes Returning s b c) go = refl
turn_law a (Stops o b c) go = refl
turn_law a TooFew go = refl

pub groups_law : (a : Told) (e : Effect) → preceded a (unmeasured (after_groups e)) ≡ after_groups (preceded a (unmeasured e))
groups_law a (Goes Next s b c) = refl
groups_law a (Goes Breaking s b c) = refl
groups_law a (Goes Continuing s b c) = refl
groups_law a (Goes Returning s b c) = refl
groups_law a (Stops o b c) = refl
groups_law a TooFew = refl

-- a stretch that goes on, and what follows it
pub then_passes : (old new : Machine) (f go : Onward) → from_here old f ≡ Goes Next (state_of new) (told_of new) (left_of new) →
    from_here old (λ s c. then_do (f s c) go) ≡ from_here new go
then_passes old new f go e = then_law (told_of old) (f (state_of old) (left_of old)) go ∙ ap (λ x. then_do x (onward go)) e

-- a run that ends in a stretch ends whatever follows it
pub halts_then : (h : Halt) (m : Machine) (e : Effect) (go : Onward) → Halts h m e → Halts h m (then_do e go)
halts_then (halt.Stop o) m e go p = ap (λ x. then_do x go) p
halts_then halt.TooFew m e go p = ap (λ x. then_do x go) p
halts_then halt.Memory m e go p = p

pub then_halts : (h : Halt) (old new : Machine) (f go : Onward) → Halts h new (from_here old f) → Halts h new (from_here old (λ s c. then_do (f s c) go))
then_halts h old new f go p =
    subst (λ x. Halts h new x) (sym (then_law (told_of old) (f (state_of old) (left_of old)) go)) (halts_then h new (from_here old f) (onward go) p)

pub halts_turn : (h : Halt) (m : Machine) (e : Effect) (go : Onward) → Halts h m e → Halts h m (after_turn e go)
halts_turn (halt.Stop o) m e go p = ap (λ x. after_turn x go) p
halts_turn halt.TooFew m e go p = ap (λ x. after_turn x go) p
halts_turn halt.Memory m e go p = p

pub halts_groups : (h : Halt) (m : Machine) (e : Effect) → Halts h m e → Halts h m (after_groups e)
halts_groups (halt.Stop o) m e p = ap (λ x. after_groups x) p
halts_groups halt.TooFew m e p = ap (λ x. after_groups x) p
halts_groups halt.Memory m e p = p

-- a stretch without an end of its own leaves a machine as it is
pub nothing_done : (m : Machine) → from_here m (λ s c. Goes Next s nothing c) ≡ Goes Next (state_of m) (told_of m) (left_of m)
nothing_done m = ap (λ (es : List Event). Goes Next (state_of m) (only_seen es) (left_of m)) (append-nil m.events.items)

-- a stretch that begins as another one
pub passes_after : {A : Type 0} (r : Result A Halt) (old mid new : Machine) (f g : Onward) → from_here old f ≡ from_here mid g → Passes r mid new g → Passes r old new f
passes_after (Ok x) old mid new f g e p = e ∙ p
passes_after (Err h) old mid new f g e p = subst (λ x. Halts h new x) (sym e) p

pub halts_after : (h : Halt) (old mid new : Machine) (f g : Onward) → from_here old f ≡ from_here mid g → Halts h new (from_here mid g) → Halts h new (from_here old f)
halts_after h old mid new f g e p = subst (λ x. Halts h new x) (sym e) p

pub finds_after : {A : Type 0} (r : Result A Halt) (old mid new : Machine) (f g : (A → Onward) → Onward) →
    ((go : A → Onward) → from_here old (f go) ≡ from_here mid (g go)) → Finds r mid new g → Finds r old new f
finds_after (Ok x) old mid new f g e p = λ go. e go ∙ p go
finds_after (Err h) old mid new f g e p = λ go. halts_after h old mid new (f go) (g go) (e go) (p go)

-- a value that was computed, or a property that breaks
pub found_value : (r : Result ℤ PropId) (a : Result ℤ Halt) (e : Answer) (m : Machine) → answer_of r ≡ e → IfOk a (λ n. r ≡ Ok n) →
    IfErr a (λ h. (p : PropId) × (r ≡ Err p) × (h ≡ halt.Stop (Broken p))) → Finds a m m (λ go s c. with_value e c (λ n. go n s c))
found_value r (Ok n) e m is ok bad = λ go. ap (λ a. from_here m (λ s c. with_value a c (λ n. go n s c))) (sym is ∙ ap answer_of ok)
found_value r (Err h) e m is ok bad = λ go.
    subst (λ h'. Halts h' m (from_here m (λ s c. with_value e c (λ n. go n s c)))) (sym bad.2)
    (ap (λ a. from_here m (λ s c. with_value a c (λ n. go n s c))) (sym is ∙ ap answer_of bad.1))

pub value_found : (a : Answer) (r : Result ℤ Halt) (m : Machine) →
    MatchResult r (λ n. a ≡ Value n) (λ h. (p : PropId) × (h ≡ halt.Stop (Broken p)) × (a ≡ Fault p)) → Finds r m m (λ go s c. with_value a c (λ n. go n s c))
value_found a (Ok n) m is = λ go. ap (λ a. from_here m (λ s c. with_value a c (λ n. go n s c))) is
value_found a (Err h) m is = λ go.
    subst (λ h'. Halts h' m (from_here m (λ s c. with_value a c (λ n. go n s c)))) (sym is.1)
    (ap (λ a. from_here m (λ s c. with_value a c (λ n. go n s c))) is.2)

-- a property that breaks in a stretch ends the run there
pub broken_halts : (h : Halt) (m : Machine) (f : Onward) (p : PropId) → h ≡ halt.Stop (Broken p) → f (state_of m) (left_of m) ≡ broken p (left_of m) →
    Halts h m (from_here m f)
broken_halts h m f p is e = subst (λ h'. Halts h' m (from_here m f)) (sym is) (ap (λ e. preceded (told_of m) (unmeasured e)) e)

pub returned_done : (m : Machine) (v w : ℤ) → v ≡ w →
    from_here m (λ s c. Goes Next (returning s v) nothing c) ≡ Goes Next (returning (state_of m) w) (told_of m) (left_of m)
returned_done m v w is =
    ap (λ (es : List Event). Goes Next (returning (state_of m) v) (only_seen es) (left_of m)) (append-nil m.events.items)
    ∙ ap (λ x. Goes Next (returning (state_of m) x) (told_of m) (left_of m)) is

-- a machine in the same state is as ready
pub ready_same : (p : Pair) (old new : Machine) → state_of new ≡ state_of old → IsReady p old → IsReady p new
ready_same p old new e r = record {
  held = subst (λ (s : JointState). KeepsTypes p.program s.store) (sym e) r.held;
  view = subst (λ (s : JointState). IsView p.module s.view) (sym e) r.view;
  small = subst (λ (s : JointState). IsSmall s.returned) (sym e) r.small;
}
