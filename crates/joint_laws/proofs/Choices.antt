-- How many choices a run draws at most.
use Rattle.std.proofs.Common.{◌≢◌, ℕ, zero, suc, ◌+◌, ◌≤◌, List, [], ◌∷◌, ◌++◌, length, le_refl, subst, arith}
use Rattle.std.specs.Prelude.{◌-◌, ℤ, Option, Some, None, Bool, true, false, slice_get}
use Rattle.src_text.specs.declared.refusal.Place.{Place}
use Rattle.joint_ir.specs.declared.bounds.Bounds.{Bounds}
use Rattle.joint_ir.specs.declared.ctype.IntType.{IntType}
use Rattle.joint_ir.specs.declared.event.Event.TheVariants.{Frame}
use Rattle.joint_ir.specs.declared.expr.Slot.TheVariants.{Local}
use Rattle.joint_ir.specs.declared.module.Role.TheVariants.{Input}
use Rattle.joint_ir.specs.declared.pair.Pair.{Pair}
use Rattle.joint_ir.specs.declared.program.Function.{Function}
use Rattle.joint_ir.specs.declared.stmt.TStmt.{TStmt}
use Rattle.joint_ir.specs.Views.{widths_of, site_widths, shown}
use Rattle.joint_ir.specs.States.{JointState}
use Rattle.joint_ir.specs.Effects.{Effect, Told, seen, Onward, Goes, Stops, TooFew, then_do}
use Rattle.joint_ir.specs.declared.way.Way.TheVariants.{Next, Breaking, Continuing, Returning}
use Rattle.joint_ir.specs.Steps.{Calls, store_at, with_locals}
use Rattle.joint_ir.specs.Statements.{ACTIVATIONS, set_params, closing, after_body, any_result, body_effect, entered_body, entered_function, is_below_limit, no_calls, calls_at}
use Rattle.joint_ir.specs.Runs.{draw_registers, with_first_state, body_of, main_effect, ended, run_of}
use Rattle.joint_laws.specs.Choices.{EnoughChoices}
use Rattle.joint_laws.proofs.Leaves.{Leaves, DrawsAtMost, Bounded, then_leaves, draw_leaves, draws_leave}
use Rattle.joint_laws.proofs.Statements.{CallsBounded, after_bounded}

params_draw : (line x : ℕ) (args : List ℤ) → DrawsAtMost 0 (set_params line x args)
params_draw line x [] = λ j s c le. omega arith
params_draw line x (n ∷ args) = λ j s c le.
    let le' : j ≤ length c = omega arith in
    then_leaves j j (store_at line (Local x) None n s c) (set_params line (x + 1) args) (le_refl j) le'
    (λ s' c' le''. params_draw line (x + 1) args j s' c' (omega arith))

closing_draws : (is_main : Bool) (result : Option IntType) → DrawsAtMost 1 (closing is_main result)
closing_draws true result = λ j s c le. omega arith
closing_draws false None = λ j s c le. omega arith
closing_draws false (Some t) = λ j s c le. draw_leaves j j t.bits c _ le (λ n rest le'. le')

body_leaves : (j : ℕ) (is_main : Bool) (result : Option IntType) (locals : List (List ℤ)) (e : Effect) → Leaves (1 + j) e → Leaves j (after_body is_main result locals e)
body_leaves j is_main result locals (Goes Returning s told c) h = omega arith
body_leaves j is_main result locals (Goes Next s told c) h =
    then_leaves j (1 + j) (Goes Next (with_locals s locals) told c) _ (omega arith) h (closing_draws is_main result j)
body_leaves j is_main result locals (Goes Breaking s told c) h =
    then_leaves j (1 + j) (Goes Next (with_locals s locals) told c) _ (omega arith) h (closing_draws is_main result j)
body_leaves j is_main result locals (Goes Continuing s told c) h =
    then_leaves j (1 + j) (Goes Next (with_locals s locals) told c) _ (omega arith) h (closing_draws is_main result j)
body_leaves j is_main result locals (Stops o told c) h = tt
body_leaves j is_main result locals TooFew h = h

any_draws : (result : Option IntType) → DrawsAtMost 1 (any_result result)
any_draws None = λ j s c le. omega arith
any_draws (Some t) = λ j s c le. draw_leaves j j t.bits c _ le (λ n rest le'. le')

-- a number of choices for one function, whatever its arguments
record CallBounded (f : Place → List ℤ → Onward) : Type 0 where
  most : ℕ
  draws : (p : Place) (args : List ℤ) → DrawsAtMost most (f p args)

module _ (pair : Pair) (b : Bounds) where
  module _ (inner : Calls) (x : CallsBounded inner) (f : ℕ) (fn : Function) where
    body_bounded : (body : TStmt) → CallBounded (λ p args. body_effect pair b inner f fn body p args)
    body_bounded body =
        let y = after_bounded (record { pair = pair; bounds = b; here = f }) inner x body.place body.node in
        record {
          most = y.most + 1;
          draws = λ p args j s c le. body_leaves j _ fn.result s.store.locals _
              (then_leaves (1 + j) (y.most + (1 + j)) (set_params p.line fn.first args _ c) _ (omega arith)
              (params_draw p.line fn.first args (y.most + (1 + j)) _ c (omega arith)) (y.draws (1 + j)));
        }

    entered_bounded : (may_enter : Bool) (body : Option TStmt) → CallBounded (λ p args. entered_body pair b may_enter inner f fn body p args)
    entered_bounded may_enter None = record { most = 1; draws = λ p args. any_draws fn.result }
    entered_bounded true (Some body) = body_bounded body
    entered_bounded false (Some body) = record { most = 0; draws = λ p args j s c le. tt }

  refused_bounded : (f : ℕ) (fn : Function) (body : Option TStmt) → CallBounded (λ p args. entered_body pair b false no_calls f fn body p args)
  refused_bounded f fn None = record { most = 1; draws = λ p args. any_draws fn.result }
  refused_bounded f fn (Some body) = record { most = 0; draws = λ p args j s c le. tt }

  last_bounded : (f : ℕ) (fn : Option Function) → CallBounded (λ p args. entered_function pair b (λ fn. false) no_calls f fn p args)
  last_bounded f None = record { most = 0; draws = λ p args j s c le. omega arith }
  last_bounded f (Some fn) = refused_bounded f fn fn.body

  function_bounded : (may_enter : Function → Bool) (inner : Calls) → CallsBounded inner → (f : ℕ) (fn : Option Function) →
      CallBounded (λ p args. entered_function pair b may_enter inner f fn p args)
  function_bounded may_enter inner x f None = record { most = 0; draws = λ p args j s c le. omega arith }
  function_bounded may_enter inner x f (Some fn) = entered_bounded inner x f fn (may_enter fn) fn.body

  more_bounded : (left : ℕ) (standing : List ℕ) (f : ℕ) → CallsBounded (calls_at pair b left (standing ++ f ∷ [])) →
      CallBounded (λ p args. calls_at pair b (suc left) standing p f args)
  more_bounded left standing f x =
      function_bounded (is_below_limit pair b standing f) (calls_at pair b left (standing ++ f ∷ [])) x f (slice_get pair.program.functions f)

  calls_bounded : (left : ℕ) (standing : List ℕ) → CallsBounded (calls_at pair b left standing)
  calls_bounded zero standing = record {
    most = λ f. (last_bounded f (slice_get pair.program.functions f)).most;
    draws = λ p f args. (last_bounded f (slice_get pair.program.functions f)).draws p args;
  }
  calls_bounded (suc left) standing = record {
    most = λ f. (more_bounded left standing f (calls_bounded left (standing ++ f ∷ []))).most;
    draws = λ p f args. (more_bounded left standing f (calls_bounded left (standing ++ f ∷ []))).draws p args;
  }

  main_bounded : (body : Option TStmt) → Bounded (main_effect pair b body)
  main_bounded None = record { most = 0; draws = λ j s c le. omega arith }
  main_bounded (Some body) =
      after_bounded (record { pair = pair; bounds = b; here = pair.program.main }) (calls_at pair b (ACTIVATIONS - 1) (pair.program.main ∷ [])) (calls_bounded (ACTIVATIONS - 1) (pair.program.main ∷ []))
      body.place body.node

registers_leave : (i j : ℕ) (firsts : List (Option ℕ)) (widths c : List ℕ) (go : List ℕ → List ℕ → Effect) → length firsts + j ≤ length c →
    ((ns rest : List ℕ) → j ≤ length rest → Leaves i (go ns rest)) → Leaves i (draw_registers firsts widths c go)
registers_leave i j [] widths c go le next = next [] c (omega arith)
registers_leave i j (first ∷ firsts) [] c go le next = next [] c (omega arith)
registers_leave i j (Some n ∷ firsts) (bits ∷ widths) c go le next = registers_leave i j firsts widths c _ (omega arith) (λ ns. next (n ∷ ns))
registers_leave i j (None ∷ firsts) (bits ∷ widths) c go le next =
    draw_leaves i (length firsts + j) bits c _ (omega arith) (λ n rest le'. registers_leave i j firsts widths rest _ le' (λ ns. next (n ∷ ns)))

-- the first state draws no more than this
first_most : Pair → ℕ
first_most pair = length pair.module.firsts + (length (widths_of Input pair.module.signals) + length (site_widths pair.module.settle_sites))

ended_leaves : (e : Effect) → Leaves 0 e → Leaves 0 (ended e)
ended_leaves (Goes way s told c) h = tt
ended_leaves (Stops o told c) h = tt
ended_leaves TooFew h = h

not_too_few : (e : Effect) → Leaves 0 e → e ≢ TooFew
not_too_few e h is = subst (λ x. Leaves 0 x) is h

-- what goes on from the first state, where n choices are left for it
first_leaves : (pair : Pair) (n : ℕ) (c : List ℕ) (go : Onward) → first_most pair + n ≤ length c →
    ((s : JointState) (rest : List ℕ) → n ≤ length rest → Leaves 0 (go s rest)) → Leaves 0 (with_first_state pair c go)
unfolding first_most
first_leaves pair n c go le next =
    let inputs = widths_of Input pair.module.signals in
    let sites = site_widths pair.module.settle_sites in
    registers_leave 0 (length inputs + (length sites + n)) pair.module.firsts _ c _ (omega arith)
    (λ registers c' h. draws_leave 0 (length sites + n) inputs c' _ (omega arith)
    (λ ns c'' h'. draws_leave 0 n sites c'' _ h' (λ unknown rest enough_left. next _ rest enough_left)))

started_leaves : (n : ℕ) (s : JointState) (told : Told) (c : List ℕ) (go : Onward) → DrawsAtMost n go → n ≤ length c →
    Leaves 0 (ended (then_do (Goes Next s told c) go))
started_leaves n s told c go h le =
    ended_leaves (then_do (Goes Next s told c) go) (then_leaves 0 n (Goes Next s told c) go (omega arith) le (λ s' c' le'. h 0 s' c' (omega arith)))

pub enough : EnoughChoices
enough pair b =
    let go = main_effect pair b (body_of (slice_get pair.program.functions pair.program.main)) in
    let x = main_bounded pair b (body_of (slice_get pair.program.functions pair.program.main)) in (
      first_most pair + x.most,
      λ choices le. not_too_few (run_of pair b choices)
          (first_leaves pair x.most choices _ le (λ s c le'. started_leaves x.most s (seen (Frame 0 (shown pair.module s.view))) c go x.draws le')),
    )
