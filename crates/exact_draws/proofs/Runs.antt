-- Runs draw just what they tell.
use Rattle.std.proofs.Common.{ℕ, zero, suc, ◌+◌, List, [], ◌∷◌, ◌++◌, refl}
use Rattle.std.specs.Prelude.{◌-◌, ℤ, Option, Some, None, Bool, true, false, slice_get}
use Rattle.src_text.specs.declared.refusal.Place.{Place}
use Rattle.joint_ir.specs.declared.bounds.Bounds.{Bounds}
use Rattle.joint_ir.specs.declared.ctype.IntType.{IntType}
use Rattle.joint_ir.specs.declared.expr.Slot.TheVariants.{Local}
use Rattle.joint_ir.specs.declared.event.Event.TheVariants.{Frame}
use Rattle.joint_ir.specs.declared.event.Outcome.TheVariants.{Ended}
use Rattle.joint_ir.specs.declared.module.Role.TheVariants.{Input, Register}
use Rattle.joint_ir.specs.declared.pair.Pair.{Pair}
use Rattle.joint_ir.specs.declared.program.Function.{Function}
use Rattle.joint_ir.specs.declared.stmt.TStmt.{TStmt}
use Rattle.joint_ir.specs.Views.{widths_of, site_widths, shown}
use Rattle.joint_ir.specs.Effects.{Effect, Goes, Stops, TooFew, nothing, seen}
use Rattle.joint_ir.specs.declared.way.Way.TheVariants.{Next, Breaking, Continuing, Returning}
use Rattle.joint_ir.specs.Steps.{Calls, store_at, with_locals}
use Rattle.joint_ir.specs.Statements.{ACTIVATIONS, set_params, closing, after_body, any_result, body_effect, entered_body, entered_function, is_below_limit, no_calls, calls_at}
use Rattle.joint_ir.specs.Runs.{draw_registers, body_of, main_effect, ended}
use Rattle.exact_draws.specs.Draws.{DrawsIn, Draws, ExactDraws}
use Rattle.exact_draws.proofs.Parts.{Steady, kept, on_behind, goes_draws, stops_draws, then_draws, draw_draws, draw_all_draws}
use Rattle.exact_draws.proofs.Statements.{CallsSteady, at_draws, after_steady}

params_steady : (line x : ℕ) (args : List ℤ) → Steady (set_params line x args)
params_steady line x [] = λ s. goes_draws Next s nothing refl
params_steady line x (n ∷ args) = λ s. then_draws (store_at line (Local x) None n s) (set_params line (x + 1) args) (at_draws line (Local x) None n s) (params_steady line (x + 1) args)

closing_steady : (is_main : Bool) (result : Option IntType) → Steady (closing is_main result)
closing_steady true result = λ s. goes_draws Next _ nothing refl
closing_steady false None = λ s. goes_draws Next _ nothing refl
closing_steady false (Some t) = λ s. draw_draws t.bits _ (λ n. goes_draws Next _ nothing refl)

module _ (f : List ℕ → Effect) (is_main : Bool) (result : Option IntType) (locals : List (List ℤ)) where
  body_at : (c : List ℕ) (e : Effect) → DrawsIn f c e → DrawsIn (λ c. after_body is_main result locals (f c)) c (after_body is_main result locals e)
  body_at c (Goes Returning s told rest) d = kept f (after_body is_main result locals) c rest told (Goes Returning s told) (Goes Next (with_locals s locals) told) (λ r. refl) d
  body_at c (Goes Next s told rest) d = on_behind f (after_body is_main result locals) (closing is_main result (with_locals s locals)) c rest told (Goes Next s told) (λ r. refl) d (closing_steady is_main result (with_locals s locals))
  body_at c (Goes Breaking s told rest) d = on_behind f (after_body is_main result locals) (closing is_main result (with_locals s locals)) c rest told (Goes Breaking s told) (λ r. refl) d (closing_steady is_main result (with_locals s locals))
  body_at c (Goes Continuing s told rest) d = on_behind f (after_body is_main result locals) (closing is_main result (with_locals s locals)) c rest told (Goes Continuing s told) (λ r. refl) d (closing_steady is_main result (with_locals s locals))
  body_at c (Stops o told rest) d = kept f (after_body is_main result locals) c rest told (Stops o told) (Stops o told) (λ r. refl) d
  body_at c TooFew d = tt

  body_draws : Draws f → Draws (λ c. after_body is_main result locals (f c))
  body_draws d = record { at = λ c. body_at c (f c) (d.at c) }

any_steady : (result : Option IntType) → Steady (any_result result)
any_steady None = λ s. goes_draws Next s nothing refl
any_steady (Some t) = λ s. draw_draws t.bits _ (λ n. goes_draws Next _ nothing refl)

module _ (pair : Pair) (b : Bounds) where
  body_steady : (inner : Calls) → CallsSteady inner → (f : ℕ) (fn : Function) (body : TStmt) (p : Place) (args : List ℤ) → Steady (body_effect pair b inner f fn body p args)
  body_steady inner x f fn body p args = λ s.
      body_draws _ _ fn.result s.store.locals
      (then_draws (set_params p.line fn.first args _) _ (params_steady p.line fn.first args _) (after_steady (record { pair = pair; bounds = b; here = f }) inner x body.place body.node))

  entered_steady : (inner : Calls) → CallsSteady inner → (may_enter : Bool) (f : ℕ) (fn : Function) (body : Option TStmt) (p : Place) (args : List ℤ) → Steady (entered_body pair b may_enter inner f fn body p args)
  entered_steady inner x may_enter f fn None p args = any_steady fn.result
  entered_steady inner x true f fn (Some body) p args = body_steady inner x f fn body p args
  entered_steady inner x false f fn (Some body) p args = λ s. stops_draws _ _ refl

  function_steady : (may_enter : Function → Bool) (inner : Calls) → CallsSteady inner → (f : ℕ) (fn : Option Function) (p : Place) (args : List ℤ) → Steady (entered_function pair b may_enter inner f fn p args)
  function_steady may_enter inner x f None p args = λ s. goes_draws Next s nothing refl
  function_steady may_enter inner x f (Some fn) p args = entered_steady inner x (may_enter fn) f fn fn.body p args

  none_steady : CallsSteady no_calls
  none_steady p f args = λ s. record { at = λ c. tt }

  calls_steady : (left : ℕ) (standing : List ℕ) → CallsSteady (calls_at pair b left standing)
  calls_steady zero standing p f args = function_steady (λ fn. false) no_calls none_steady f (slice_get pair.program.functions f) p args
  calls_steady (suc left) standing p f args =
      function_steady (is_below_limit pair b standing f) (calls_at pair b left (standing ++ f ∷ [])) (calls_steady left (standing ++ f ∷ [])) f (slice_get pair.program.functions f) p args

  main_steady : (body : Option TStmt) → Steady (main_effect pair b body)
  main_steady None = λ s. goes_draws Next s nothing refl
  main_steady (Some body) =
      after_steady (record { pair = pair; bounds = b; here = pair.program.main }) (calls_at pair b (ACTIVATIONS - 1) (pair.program.main ∷ [])) (calls_steady (ACTIVATIONS - 1) (pair.program.main ∷ [])) body.place body.node

registers_draw : (firsts : List (Option ℕ)) (widths : List ℕ) (go : List ℕ → List ℕ → Effect) → ((ns : List ℕ) → Draws (go ns)) → Draws (λ c. draw_registers firsts widths c go)
registers_draw [] widths go h = h []
registers_draw (first ∷ firsts) [] go h = h []
registers_draw (Some n ∷ firsts) (bits ∷ widths) go h = registers_draw firsts widths _ (λ ns. h (n ∷ ns))
registers_draw (None ∷ firsts) (bits ∷ widths) go h = draw_draws bits _ (λ n. registers_draw firsts widths _ (λ ns. h (n ∷ ns)))

module _ (f : List ℕ → Effect) where
  ended_at : (c : List ℕ) (e : Effect) → DrawsIn f c e → DrawsIn (λ c. ended (f c)) c (ended e)
  ended_at c (Goes way s told rest) d = kept f ended c rest told (Goes way s told) (Stops Ended told) (λ r. refl) d
  ended_at c (Stops o told rest) d = kept f ended c rest told (Stops o told) (Stops o told) (λ r. refl) d
  ended_at c TooFew d = tt

  ended_draws : Draws f → Draws (λ c. ended (f c))
  ended_draws d = record { at = λ c. ended_at c (f c) (d.at c) }

pub run_draws : ExactDraws
run_draws pair b =
    let go = main_effect pair b (body_of (slice_get pair.program.functions pair.program.main)) in
    registers_draw pair.module.firsts (widths_of Register pair.module.signals) _ (λ registers.
    draw_all_draws (widths_of Input pair.module.signals) _ (λ inputs.
    draw_all_draws (site_widths pair.module.settle_sites) _ (λ unknown.
    ended_draws _ (then_draws (Goes Next _ (seen (Frame 0 (shown pair.module _)))) go (goes_draws Next _ _ refl) (main_steady pair b (body_of (slice_get pair.program.functions pair.program.main)))))))
