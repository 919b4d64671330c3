-- The calls that reach the module, as a machine makes them.
use Rattle.std.proofs.Common.{◌≡◌, ◌<◌, ◌+◌, ◌%◌, ◌^◌, ℕ, Bool, true, false, List, [], ◌∷◌, ◌++◌, drop, refl, sym, ap, subst, ◌∙◌, rules, tests}
use Rattle.std.specs.Prelude.{Result, Ok, Err, IfOk, IfErr, if◌then◌else◌, nat_lt}
use Rattle.joint_ir.specs.declared.event.Event.{Event}
use Rattle.joint_ir.specs.declared.pair.Pair.{Pair}
use Rattle.joint_ir.specs.declared.program.PropId.{PropId}
use Rattle.joint_ir.specs.States.{JointState}
use Rattle.joint_ir.specs.declared.event.Event.TheVariants.{Frame, Driven}
use Rattle.joint_ir.specs.declared.module.Role.TheVariants.{Input}
use Rattle.joint_ir.specs.Views.{filled, site_widths, widths_of, driven, changed, next_registers}
use Rattle.joint_ir.specs.Effects.{Effect, Told, nothing, seen, drew, Onward, Goes, Stops, TooFew, preceded, broken, draw, draw_all}
use Rattle.joint_ir.specs.declared.way.Way.TheVariants.{Next}
use Rattle.joint_ir.specs.declared.event.Outcome.TheVariants.{OutOfFrames}
use Rattle.joint_ir.specs.Steps.{Setting, set_inputs, clock_edge, next_frame, settled_view, at_view}
use Rattle.joint_ir.specs.WellFormed.{FitsProgram}
use Rattle.joint_value.specs.Answers.{IsSmall}
use Rattle.joint_value.specs.Evaluable.{KeepsTypes}
use Rattle.joint_value.proofs.Stores.{viewed_kept}
use Rattle.joint_view.specs.Conditions.{IsView}
use Rattle.joint_view.specs.Halts.{HaltsAs, only_seen, unmeasured}
use Rattle.joint_view.specs.Moves.{moved_to, row_items}
use Rattle.joint_view.specs.declared.halt.Halt.{Halt}
use Rattle.joint_view.specs.declared.halt.Halt.TheVariants as halt
use Rattle.joint_view.specs.declared.steps.Moved.{Moved}
use Rattle.joint_machine.specs.declared.machine.Machine.{Machine}
use Rattle.joint_machine.specs.Moments.{state_of, left_of, told_of, Halts, Passes, IsReady, from_here}

-- a halt of a call where a machine is
pub halts_here : (h : Halt) (m : Machine) (f : Onward) → HaltsAs h (left_of m) (f (state_of m) (left_of m)) → Halts h m (from_here m f)
halts_here (halt.Stop o) m f p = ap (λ e. preceded (told_of m) e) p
halts_here halt.TooFew m f p = ap (λ e. preceded (told_of m) e) p
halts_here halt.Memory m f p = p

-- a machine that moved as a call did
pub moves_passes : {A : Type 0} (r : Result A Halt) (old new : Machine) (f : Onward) (edges : ℕ) (m : Moved) →
    unmeasured (f (state_of old) (left_of old)) ≡ Goes Next (moved_to (state_of old) edges m.view (row_items m.members.items)) (only_seen (m.event ∷ [])) (drop m.at old.choices) →
    IfOk r (λ _. state_of new ≡ moved_to (state_of old) edges m.view (row_items m.members.items)) →
    IfOk r (λ _. left_of new ≡ drop m.at old.choices) →
    IfOk r (λ _. new.events.items ≡ old.events.items ++ m.event ∷ []) →
    IfErr r (λ h. h ≡ halt.Memory) → Passes r old new f
moves_passes (Ok x) old new f edges m is state left events memory =
    ap (λ e. preceded (told_of old) e) is
    ∙ ap (λ (s : JointState). Goes Next s (only_seen (old.events.items ++ m.event ∷ [])) (drop m.at old.choices)) (sym state)
    ∙ ap (λ (es : List Event). Goes Next (state_of new) (only_seen es) (drop m.at old.choices)) (sym events)
    ∙ ap (λ (c : List ℕ). Goes Next (state_of new) (told_of new) c) (sym left)
moves_passes (Err h) old new f edges m is state left events memory = subst (λ (x : Halt). Halts x new (from_here old f)) (sym memory) tt

-- ---- the mirror is filled from the view

abbrev pub IsFilled : Pair → Effect → Type 0
IsFilled p (Goes way s told c) = s.store.members ≡ filled p s.view
IsFilled p (Stops o told c) = Unit {0}
IsFilled p TooFew = Unit {0}

pub preceded_filled : (p : Pair) (a : Told) (e : Effect) → IsFilled p e → IsFilled p (preceded a e)
preceded_filled p a (Goes way s told c) h = h
preceded_filled p a (Stops o told c) h = tt
preceded_filled p a TooFew h = tt

pub unmeasured_filled : (p : Pair) (e : Effect) → IsFilled p e → IsFilled p (unmeasured e)
unmeasured_filled p (Goes way s told c) h = h
unmeasured_filled p (Stops o told c) h = tt
unmeasured_filled p TooFew h = tt

draw_filled : (p : Pair) (bits : ℕ) (c : List ℕ) (go : ℕ → List ℕ → Effect) → ((n : ℕ) (rest : List ℕ) → IsFilled p (go n rest)) → IsFilled p (draw bits c go)
draw_filled p bits [] go h = tt
draw_filled p bits (n ∷ c) go h = preceded_filled p (drew bits) (go (n % 2 ^ bits) c) (h _ c)

draws_filled : (p : Pair) (widths : List ℕ) (c : List ℕ) (go : List ℕ → List ℕ → Effect) → ((ns rest : List ℕ) → IsFilled p (go ns rest)) →
    IsFilled p (draw_all widths c go)
draws_filled p [] c go h = h [] c
draws_filled p (bits ∷ widths) c go h =
    draw_filled p bits c (λ n rest. draw_all widths rest (λ ns. go (n ∷ ns))) (λ n rest. draws_filled p widths rest (λ ns. go (n ∷ ns)) (λ ns. h (n ∷ ns)))

pub inputs_filled : (k : Setting) (s : JointState) (c : List ℕ) → IsFilled k.pair (set_inputs k s c)
inputs_filled k s c =
    draws_filled k.pair (site_widths k.pair.module.settle_sites) c
    (λ unknown rest.
    let v = settled_view k.pair.module s.view.registers (driven k.pair s.store.members s.view.inputs) unknown in
    Goes Next (at_view k.pair s s.edges v) (seen (Driven (changed k.pair.module s.view v))) rest)
    (λ unknown rest. refl)

-- a clock edge behind its draws
abbrev edge_end : Setting → JointState → (at_edge inputs unknown rest : List ℕ) → Effect
edge_end k s at_edge inputs unknown rest =
    let v = settled_view k.pair.module (next_registers k.pair.module s.view at_edge) inputs unknown in
    Goes Next (at_view k.pair s (s.edges + 1) v) (seen (Frame (s.edges + 1) (changed k.pair.module s.view v))) rest

edge_filled : (k : Setting) (s : JointState) (c : List ℕ) → IsFilled k.pair (clock_edge k s c)
edge_filled k s c =
    draws_filled k.pair (site_widths k.pair.module.edge_sites) c
    (λ at_edge c'. draw_all (widths_of Input k.pair.module.signals) c' (λ inputs c''. draw_all (site_widths k.pair.module.settle_sites) c'' (edge_end k s at_edge inputs)))
    (λ at_edge c'. draws_filled k.pair (widths_of Input k.pair.module.signals) c'
    (λ inputs c''. draw_all (site_widths k.pair.module.settle_sites) c'' (edge_end k s at_edge inputs))
    (λ inputs c''. draws_filled k.pair (site_widths k.pair.module.settle_sites) c'' (edge_end k s at_edge inputs) (λ unknown rest. refl)))

either_filled : (p : Pair) (b d : Bool) (e f g : Effect) → IsFilled p e → IsFilled p f → IsFilled p g → IsFilled p (if b then e else if d then f else g)
either_filled p true d e f g x y z = x
either_filled p false true e f g x y z = y
either_filled p false false e f g x y z = z

pub frame_filled : (k : Setting) (prop : PropId) (s : JointState) (c : List ℕ) → IsFilled k.pair (next_frame k prop s c)
frame_filled k prop s c =
    either_filled k.pair (nat_lt s.edges k.bounds.frames) k.bounds.check_bound (clock_edge k s c) (broken prop c) (Stops OutOfFrames nothing c) (edge_filled k s c) tt tt

-- ---- an edge is taken only before the last one

abbrev IsGoing : Effect → Type 0
IsGoing (Goes way s told c) = Unit {0}
IsGoing (Stops o told c) = ⊥
IsGoing TooFew = ⊥

goes_before : (b d : Bool) (e : Effect) (prop : PropId) (c : List ℕ) → IsGoing (unmeasured (if b then e else if d then broken prop c else Stops OutOfFrames nothing c)) → b ≡ true
goes_before true d e prop c is = refl
goes_before false true e prop c is = absurd is
goes_before false false e prop c is = absurd is

pub frame_before : (k : Setting) (prop : PropId) (s t : JointState) (c rest : List ℕ) (told : Told) → unmeasured (next_frame k prop s c) ≡ Goes Next t told rest →
    s.edges < k.bounds.frames
frame_before k prop s t c rest told is =
    let b = goes_before (nat_lt s.edges k.bounds.frames) k.bounds.check_bound (clock_edge k s c) prop c (subst (λ (e : Effect). IsGoing e) (sym is) tt) in
    search (rules, tests)

-- ---- what is ready then

pub moved_ready : {A : Type 0} (r : Result A Halt) (p : Pair) (old new : Machine) (edges : ℕ) (m : Moved) → FitsProgram p.program →
    row_items m.members.items ≡ filled p m.view → IsView p.module m.view → IsReady p old →
    IfOk r (λ _. state_of new ≡ moved_to (state_of old) edges m.view (row_items m.members.items)) → IfOk r (λ _. IsReady p new)
moved_ready (Ok x) p old new edges m fits full view ready is = record {
  held = subst (λ (s : JointState). KeepsTypes p.program s.store) (sym is)
      (subst (λ (rows : _). KeepsTypes p.program (record { globals = old.store.globals; locals = old.store.locals; members = rows })) (sym full)
      (viewed_kept p m.view old.store fits ready.held));
  view = subst (λ (s : JointState). IsView p.module s.view) (sym is) view;
  small = subst (λ (s : JointState). IsSmall s.returned) (sym is) ready.small;
}
moved_ready (Err h) p old new edges m fits full view ready is = tt
