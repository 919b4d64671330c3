-- Runs see a break only where they end by it.
use Rattle.std.proofs.Common.{ℕ, zero, suc, ◌+◌, List, [], ◌∷◌, ◌++◌, ◌≡◌, refl, ap, ◌∙◌, subst}
use Rattle.std.specs.Prelude.{◌-◌, ℤ, Option, Some, None, Bool, true, false, slice_get}
use Rattle.src_text.specs.declared.refusal.Place.{Place}
use Rattle.joint_ir.specs.declared.bounds.Bounds.{Bounds}
use Rattle.joint_ir.specs.declared.ctype.IntType.{IntType}
use Rattle.joint_ir.specs.declared.expr.Slot.TheVariants.{Local}
use Rattle.joint_ir.specs.declared.event.Event.{Event}
use Rattle.joint_ir.specs.declared.event.Event.TheVariants.{Frame, Driven, Stored, Broke}
use Rattle.joint_ir.specs.declared.module.Role.TheVariants.{Input, Register}
use Rattle.joint_ir.specs.declared.pair.Pair.{Pair}
use Rattle.joint_ir.specs.declared.program.PropId.{PropId}
use Rattle.joint_ir.specs.declared.program.Function.{Function}
use Rattle.joint_ir.specs.declared.stmt.TStmt.{TStmt}
use Rattle.joint_ir.specs.Views.{widths_of, site_widths, shown}
use Rattle.joint_ir.specs.Effects.{Effect, Goes, Stops, TooFew, nothing, seen}
use Rattle.joint_ir.specs.declared.way.Way.TheVariants.{Next, Breaking, Continuing, Returning}
use Rattle.joint_ir.specs.Steps.{Calls, store_at, with_locals}
use Rattle.joint_ir.specs.Statements.{ACTIVATIONS, set_params, closing, after_body, any_result, body_effect, entered_body, entered_function, is_below_limit, no_calls, calls_at}
use Rattle.joint_ir.specs.Runs.{draw_registers, body_of, main_effect, ended, run_of}
use Rattle.trace_text.specs.Trace.{broken_prop}
use Rattle.named_breaks.specs.Named.{first_broken, NamedBreaks}
use Rattle.named_breaks.proofs.Parts.{Last, IsNamed, Named, Steady, behind_named, goes_named, broken_named, then_named, draw_named, draw_all_named}
use Rattle.named_breaks.proofs.Statements.{CallsSteady, at_named, after_steady}

params_steady : (line x : ℕ) (args : List ℤ) → Steady (set_params line x args)
params_steady line x [] = λ s. goes_named Next s nothing refl
params_steady line x (n ∷ args) = λ s. then_named (store_at line (Local x) None n s) (set_params line (x + 1) args) (at_named line (Local x) None n s) (params_steady line (x + 1) args)

closing_steady : (is_main : Bool) (result : Option IntType) → Steady (closing is_main result)
closing_steady true result = λ s. goes_named Next _ nothing refl
closing_steady false None = λ s. goes_named Next _ nothing refl
closing_steady false (Some t) = λ s. draw_named t.bits _ (λ n. goes_named Next _ nothing refl)

module _ (is_main : Bool) (result : Option IntType) (locals : List (List ℤ)) where
  body_at : (e : Effect) → IsNamed e → IsNamed (after_body is_main result locals e)
  body_at (Goes Returning s told rest) is = is
  body_at (Goes Next s told rest) is = behind_named told _ is ((closing_steady is_main result (with_locals s locals)).at rest)
  body_at (Goes Breaking s told rest) is = behind_named told _ is ((closing_steady is_main result (with_locals s locals)).at rest)
  body_at (Goes Continuing s told rest) is = behind_named told _ is ((closing_steady is_main result (with_locals s locals)).at rest)
  body_at (Stops o told rest) is = is
  body_at TooFew is = tt

  body_named : (f : List ℕ → Effect) → Named f → Named (λ c. after_body is_main result locals (f c))
  body_named f is = record { at = λ c. body_at (f c) (is.at c) }

any_steady : (result : Option IntType) → Steady (any_result result)
any_steady None = λ s. goes_named Next s nothing refl
any_steady (Some t) = λ s. draw_named t.bits _ (λ n. goes_named Next _ nothing refl)

module _ (pair : Pair) (b : Bounds) where
  body_steady : (inner : Calls) → CallsSteady inner → (f : ℕ) (fn : Function) (body : TStmt) (p : Place) (args : List ℤ) → Steady (body_effect pair b inner f fn body p args)
  body_steady inner x f fn body p args = λ s.
      body_named _ fn.result s.store.locals _
      (then_named (set_params p.line fn.first args _) _ (params_steady p.line fn.first args _) (after_steady (record { pair = pair; bounds = b; here = f }) inner x body.place body.node))

  entered_steady : (inner : Calls) → CallsSteady inner → (may_enter : Bool) (f : ℕ) (fn : Function) (body : Option TStmt) (p : Place) (args : List ℤ) → Steady (entered_body pair b may_enter inner f fn body p args)
  entered_steady inner x may_enter f fn None p args = any_steady fn.result
  entered_steady inner x true f fn (Some body) p args = body_steady inner x f fn body p args
  entered_steady inner x false f fn (Some body) p args = λ s. broken_named _

  function_steady : (may_enter : Function → Bool) (inner : Calls) → CallsSteady inner → (f : ℕ) (fn : Option Function) (p : Place) (args : List ℤ) → Steady (entered_function pair b may_enter inner f fn p args)
  function_steady may_enter inner x f None p args = λ s. goes_named Next s nothing refl
  function_steady may_enter inner x f (Some fn) p args = entered_steady inner x (may_enter fn) f fn fn.body p args

  none_steady : CallsSteady no_calls
  none_steady p f args = λ s. record { at = λ c. tt }

  calls_steady : (left : ℕ) (standing : List ℕ) → CallsSteady (calls_at pair b left standing)
  calls_steady zero standing p f args = function_steady (λ fn. false) no_calls none_steady f (slice_get pair.program.functions f) p args
  calls_steady (suc left) standing p f args =
      function_steady (is_below_limit pair b standing f) (calls_at pair b left (standing ++ f ∷ [])) (calls_steady left (standing ++ f ∷ [])) f (slice_get pair.program.functions f) p args

  main_steady : (body : Option TStmt) → Steady (main_effect pair b body)
  main_steady None = λ s. goes_named Next s nothing refl
  main_steady (Some body) =
      after_steady (record { pair = pair; bounds = b; here = pair.program.main }) (calls_at pair b (ACTIVATIONS - 1) (pair.program.main ∷ [])) (calls_steady (ACTIVATIONS - 1) (pair.program.main ∷ [])) body.place body.node

registers_named : (firsts : List (Option ℕ)) (widths : List ℕ) (go : List ℕ → List ℕ → Effect) → ((ns : List ℕ) → Named (go ns)) → Named (λ c. draw_registers firsts widths c go)
registers_named [] widths go h = h []
registers_named (first ∷ firsts) [] go h = h []
registers_named (Some n ∷ firsts) (bits ∷ widths) go h = registers_named firsts widths _ (λ ns. h (n ∷ ns))
registers_named (None ∷ firsts) (bits ∷ widths) go h = draw_named bits _ (λ n. registers_named firsts widths _ (λ ns. h (n ∷ ns)))

ended_at : (e : Effect) → IsNamed e → IsNamed (ended e)
ended_at (Goes way s told rest) is = is
ended_at (Stops o told rest) is = is
ended_at TooFew is = tt

ended_named : (f : List ℕ → Effect) → Named f → Named (λ c. ended (f c))
ended_named f is = record { at = λ c. ended_at (f c) (is.at c) }

run_named : (pair : Pair) (b : Bounds) → Named (run_of pair b)
run_named pair b =
    let go = main_effect pair b (body_of (slice_get pair.program.functions pair.program.main)) in
    registers_named pair.module.firsts (widths_of Register pair.module.signals) _ (λ registers.
    draw_all_named (widths_of Input pair.module.signals) _ (λ inputs.
    draw_all_named (site_widths pair.module.settle_sites) _ (λ unknown.
    ended_named _ (then_named (Goes Next _ (seen (Frame 0 (shown pair.module _)))) go (goes_named Next _ _ refl) (main_steady pair b (body_of (slice_get pair.program.functions pair.program.main)))))))

-- the property that is named is the one whose break is the last event, if none stands before it
named_behind : (before : List Event) (p : PropId) → first_broken before ≡ None → broken_prop (before ++ Broke p ∷ []) ≡ p
named_behind [] p none = refl
named_behind (Frame n shown ∷ before) p none = named_behind before p none
named_behind (Driven shown ∷ before) p none = named_behind before p none
named_behind (Stored line slot index value ∷ before) p none = named_behind before p none
named_behind (Broke q ∷ before) p none = absurd (no_break q none)
  where
    no_break : (q : PropId) → Some q ≡ None → ⊥
    no_break q e = cc

pub break_named : NamedBreaks
break_named pair b choices p told rest is =
    let last : Last p told.events = subst IsNamed is ((run_named pair b).at choices) in
    record {
      before = last.before;
      parts = last.parts;
      none_before = last.none_before;
      named = ap broken_prop last.parts ∙ named_behind last.before p last.none_before;
    }
