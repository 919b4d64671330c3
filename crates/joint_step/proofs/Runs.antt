-- Where a run begins, and how it is told.
use Rattle.std.proofs.Common.{◌≡◌, ◌%◌, ◌^◌, ℕ, List, [], ◌∷◌, ◌++◌, drop, refl, sym, ap, subst, ◌∙◌, arith}
use Rattle.std.specs.Prelude.{ℤ, pos, Option, Some, None, Result, Ok, Err, MatchResult, slice_get}
use Rattle.std.proofs.lemmas.List.{append-nil}
use Rattle.joint_ir.specs.declared.bounds.Bounds.{Bounds}
use Rattle.joint_ir.specs.declared.event.Event.{Event}
use Rattle.joint_ir.specs.declared.event.Event.TheVariants.{Frame}
use Rattle.joint_ir.specs.declared.event.Outcome.{Outcome}
use Rattle.joint_ir.specs.declared.event.Outcome.TheVariants.{Ended}
use Rattle.joint_ir.specs.declared.module.Role.TheVariants.{Input, Register}
use Rattle.joint_ir.specs.declared.pair.Pair.{Pair}
use Rattle.joint_ir.specs.States.{JointState, first_rows}
use Rattle.joint_ir.specs.Views.{widths_of, site_widths, filled, shown}
use Rattle.joint_ir.specs.Effects.{Effect, Onward, nothing, seen, drew, Goes, Stops, TooFew, preceded, then_do, draw, draw_all}
use Rattle.joint_ir.specs.declared.way.Way.TheVariants.{Next}
use Rattle.joint_ir.specs.Steps.{settled_view}
use Rattle.joint_ir.specs.Runs.{draw_registers, with_first_state, main_effect, body_of, ended, run_of}
use Rattle.joint_ir.specs.WellFormed.{FitsProgram}
use Rattle.std.proofs.lemmas.Int.{ints}
use Rattle.joint_value.specs.Answers.{IsSmall}
use Rattle.joint_value.specs.Evaluable.{KeepsTypes}
use Rattle.joint_value.proofs.Stores.{first_kept}
use Rattle.joint_view.specs.declared.halt.Halt.{Halt}
use Rattle.joint_view.specs.declared.halt.Halt.TheVariants as halt
use Rattle.joint_view.specs.declared.steps.Begun.{Begun}
use Rattle.joint_view.specs.Halts.{HaltsAs, last_events, only_seen, unmeasured}
use Rattle.joint_view.specs.Moves.{first_state, row_items}
use Rattle.joint_machine.specs.declared.machine.Machine.{Machine}
use Rattle.joint_ir.specs.declared.way.Way.{Way}
use Rattle.joint_machine.specs.Moments.{state_of, left_of, told_of, Halts, Does, from_here}
use Rattle.joint_machine.proofs.Moves.{IsFilled, preceded_filled, unmeasured_filled}
use Rattle.joint_machine.proofs.Flow.{unmeasured_law}
use Rattle.joint_step.specs.declared.run.ReplayEnd.{ReplayEnd}
use Rattle.joint_step.specs.declared.run.ReplayEnd.TheVariants as end
use Rattle.joint_step.specs.declared.run.Replayed.{Replayed}
use Rattle.joint_step.specs.Ends.{IsRun, IsCutOff, IsShort}

abbrev pub main_of : Pair → Bounds → Onward
main_of p b = main_effect p b (body_of (slice_get p.program.functions p.program.main))

-- ---- the first state

ended_unmeasured : (e : Effect) → unmeasured (ended e) ≡ ended (unmeasured e)
ended_unmeasured (Goes way s told c) = refl
ended_unmeasured (Stops o told c) = refl
ended_unmeasured TooFew = refl

module _ (p : Pair) (choices : List ℕ) (b : Begun)
    (begun : (go : Onward) → unmeasured (with_first_state p choices go) ≡ unmeasured (go (first_state p b) (drop b.at choices))) where
  pub run_begins : (bounds : Bounds) (m : Machine) → state_of m ≡ first_state p b → left_of m ≡ drop b.at choices →
      m.events.items ≡ Frame 0 (shown p.module b.view) ∷ [] → unmeasured (run_of p bounds choices) ≡ ended (from_here m (main_of p bounds))
  run_begins bounds m state left events =
      let first = Frame 0 (shown p.module b.view) in
      begun (λ s c. ended (then_do (Goes Next s (seen (Frame 0 (shown p.module s.view))) c) (main_of p bounds)))
      ∙ ended_unmeasured (preceded (seen first) (main_of p bounds (first_state p b) (drop b.at choices)))
      ∙ ap ended (unmeasured_law (seen first) (main_of p bounds (first_state p b) (drop b.at choices)))
      ∙ ap (λ (es : List Event). ended (preceded (only_seen es) (unmeasured (main_of p bounds (first_state p b) (drop b.at choices))))) (sym events)
      ∙ ap (λ (s : JointState). ended (preceded (told_of m) (unmeasured (main_of p bounds s (drop b.at choices))))) (sym state)
      ∙ ap (λ (c : List ℕ). ended (preceded (told_of m) (unmeasured (main_of p bounds (state_of m) c)))) (sym left)

-- ---- the mirror is filled at first

draw_fills : (p : Pair) (bits : ℕ) (c : List ℕ) (go : ℕ → List ℕ → Effect) → ((n : ℕ) (rest : List ℕ) → IsFilled p (go n rest)) → IsFilled p (draw bits c go)
draw_fills p bits [] go h = tt
draw_fills p bits (n ∷ c) go h = preceded_filled p (drew bits) (go (n % 2 ^ bits) c) (h _ c)

draws_fill : (p : Pair) (widths : List ℕ) (c : List ℕ) (go : List ℕ → List ℕ → Effect) → ((ns rest : List ℕ) → IsFilled p (go ns rest)) →
    IsFilled p (draw_all widths c go)
draws_fill p [] c go h = h [] c
draws_fill p (bits ∷ widths) c go h =
    draw_fills p bits c (λ n rest. draw_all widths rest (λ ns. go (n ∷ ns))) (λ n rest. draws_fill p widths rest (λ ns. go (n ∷ ns)) (λ ns. h (n ∷ ns)))

registers_fill : (p : Pair) (firsts : List (Option ℕ)) (widths : List ℕ) (c : List ℕ) (go : List ℕ → List ℕ → Effect) → ((ns rest : List ℕ) → IsFilled p (go ns rest)) →
    IsFilled p (draw_registers firsts widths c go)
registers_fill p [] widths c go h = h [] c
registers_fill p (first ∷ firsts) [] c go h = h [] c
registers_fill p (Some n ∷ firsts) (bits ∷ widths) c go h = registers_fill p firsts widths c (λ ns. go (n ∷ ns)) (λ ns. h (n ∷ ns))
registers_fill p (None ∷ firsts) (bits ∷ widths) c go h =
    draw_fills p bits c (λ n rest. draw_registers firsts widths rest (λ ns. go (n ∷ ns))) (λ n rest. registers_fill p firsts widths rest (λ ns. go (n ∷ ns)) (λ ns. h (n ∷ ns)))

abbrev first_of : Pair → (registers inputs unknown rest : List ℕ) → Effect
first_of p registers inputs unknown rest =
    let v = settled_view p.module registers inputs unknown in
    Goes Next (record {
      store = record { globals = first_rows p.program.globals; locals = first_rows p.program.locals; members = filled p v };
      view = v;
      edges = 0;
      returned = pos 0;
    }) nothing rest

first_filled : (p : Pair) (c : List ℕ) → IsFilled p (with_first_state p c (λ s rest. Goes Next s nothing rest))
first_filled p c =
    registers_fill p p.module.firsts (widths_of Register p.module.signals) c
    (λ registers c'. draw_all (widths_of Input p.module.signals) c' (λ inputs c''. draw_all (site_widths p.module.settle_sites) c'' (first_of p registers inputs)))
    (λ registers c'. draws_fill p (widths_of Input p.module.signals) c'
    (λ inputs c''. draw_all (site_widths p.module.settle_sites) c'' (first_of p registers inputs))
    (λ inputs c''. draws_fill p (site_widths p.module.settle_sites) c'' (first_of p registers inputs) (λ unknown rest. refl)))

pub begun_kept : (p : Pair) (choices : List ℕ) (b : Begun) → FitsProgram p.program →
    ((go : Onward) → unmeasured (with_first_state p choices go) ≡ unmeasured (go (first_state p b) (drop b.at choices))) → KeepsTypes p.program (first_state p b).store
begun_kept p choices b fits begun =
    let full : row_items b.members.items ≡ filled p b.view = subst (IsFilled p) (begun (λ s rest. Goes Next s nothing rest)) (unmeasured_filled p (with_first_state p choices (λ s rest. Goes Next s nothing rest)) (first_filled p choices)) in
    subst (λ (rows : List (List ℤ)). KeepsTypes p.program (record { globals = first_rows p.program.globals; locals = first_rows p.program.locals; members = rows }))
    (sym full) (first_kept p b.view fits)

-- ---- the end

pub run_ends : (w : Way) (old new : Machine) (f : Onward) → Does (Ok w) old new f → Halts (halt.Stop Ended) new (ended (from_here old f))
run_ends w old new f e =
    ap ended e ∙ ap (λ (es : List Event). Stops Ended (only_seen es) (left_of new)) (sym (append-nil new.events.items))

pub halt_ends : (h : Halt) (m : Machine) (e : Effect) → Halts h m e → Halts h m (ended e)
halt_ends (halt.Stop o) m e p = ap ended p
halt_ends halt.TooFew m e p = ap ended p
halt_ends halt.Memory m e p = p

-- what is told of a halt with these events
abbrev pub IsTold : Result Replayed ReplayEnd → List Event → Halt → Type 0
IsTold result events h = MatchResult result (λ r. (h ≡ halt.Stop r.outcome) × (r.events ≡ events ++ last_events r.outcome)) (λ e. IsShort e h)

abbrev outcome_or : Effect → Outcome
outcome_or (Goes way s told c) = Ended
outcome_or (Stops o told c) = o
outcome_or TooFew = Ended

abbrev events_or : Effect → List Event
events_or (Goes way s told c) = told.events
events_or (Stops o told c) = told.events
events_or TooFew = []

abbrev is_stop : Effect → Type 0
is_stop (Goes way s told c) = ⊥
is_stop (Stops o told c) = Unit {0}
is_stop TooFew = ⊥

abbrev is_short : Effect → Type 0
is_short (Goes way s told c) = ⊥
is_short (Stops o told c) = ⊥
is_short TooFew = Unit {0}

-- how a run ends, whatever the widths of its draws
stops_so : (x : Replayed) (left : List ℕ) (e : Effect) → unmeasured e ≡ Stops x.outcome (only_seen x.events) left → IsRun x e
stops_so x left (Goes way s told c) is = absurd (subst is_stop (sym is) tt)
stops_so x left (Stops o told c) is = (
  told.widths,
  c,
  ap (λ (o : Outcome). Stops o told c) (ap outcome_or is) ∙ ap (λ (es : List Event). Stops x.outcome (record { events = es; widths = told.widths }) c) (ap events_or is),
)
stops_so x left TooFew is = absurd (subst is_stop (sym is) tt)

too_few : (e : Effect) → unmeasured e ≡ TooFew → e ≡ TooFew
too_few (Goes way s told c) is = absurd (subst is_short (sym is) tt)
too_few (Stops o told c) is = absurd (subst is_short (sym is) tt)
too_few TooFew is = refl

pub run_told : (r : Result Replayed ReplayEnd) (h : Halt) (m : Machine) (e : Effect) → Halts h m (unmeasured e) → IsTold r m.events.items h →
    MatchResult r (λ x. IsRun x e) (λ x. IsCutOff x e)
run_told (Ok x) h m e halts told =
    stops_so x (left_of m) e
    (subst (λ (g : Halt). Halts g m (unmeasured e)) told.0 halts ∙ ap (λ (es : List Event). Stops x.outcome (only_seen es) (left_of m)) (sym told.1))
run_told (Err end.TooFew) h m e halts told = too_few e (subst (λ (g : Halt). Halts g m (unmeasured e)) told halts)
run_told (Err end.Memory) h m e halts told = tt

pub start_told : (r : Result Replayed ReplayEnd) (h : Halt) (left : List ℕ) (e : Effect) → HaltsAs h left e → IsTold r [] h →
    MatchResult r (λ x. IsRun x e) (λ x. IsCutOff x e)
start_told (Ok x) h left e halts told =
    stops_so x left e (subst (λ (g : Halt). HaltsAs g left e) told.0 halts ∙ ap (λ (es : List Event). Stops x.outcome (only_seen es) left) (sym told.1))
start_told (Err end.TooFew) h left e halts told = too_few e (subst (λ (g : Halt). HaltsAs g left e) told halts)
start_told (Err end.Memory) h left e halts told = tt

pub zero_small : IsSmall (pos 0)
zero_small = record { low = omega (arith, ints); high = omega (arith, ints) }
