-- Calls in a body: one more activation.
use Rattle.std.proofs.Common.{◌≡◌, ℕ, zero, suc, ◌+◌, ◌-◌, ◌<◌, List, [], ◌∷◌, Bool, true, false, Some, length, map, sym, ap, ◌∙◌, subst, arith}
use Rattle.std.specs.Prelude.{All, nat_lt, ◌&&◌, slice_get}
use Rattle.std.proofs.lemmas.Bool.{false≢true}
use Rattle.std.proofs.lemmas.List.{length-map}
use Rattle.joint_ir.specs.declared.expr.Slot.TheVariants.{Local}
use Rattle.joint_ir.specs.declared.expr.TExpr.{TExpr}
use Rattle.joint_ir.specs.declared.program.CProgram.{CProgram}
use Rattle.joint_ir.specs.declared.program.Function.{Function}
use Rattle.joint_ir.specs.declared.stmt.TCall.{TCall}
use Rattle.joint_ir.specs.declared.stmt.TStmt.{TStmt}
use Rattle.joint_ir.specs.Statements.{is_below_limit}
use Rattle.joint_ir.specs.Weights.{slot_length}
use Rattle.joint_ir.specs.WellFormed.{Scope, FitsArgs, FitsCall, FitsExpr, IsWellFormed, places_from}
use Rattle.sized_terms.specs.declared.SizedTerm.{SizedTerm}
use Rattle.unwind_simple.specs.declared.simple.Activation.{Activation}
use Rattle.unwind_simple.specs.Simple.{is_in}
use Rattle.unwind_calls.specs.Arguments.{FitParams}
use Rattle.unwind_calls.specs.Calls.{may_enter}
use Rattle.unwind_calls.proofs.Beginning.{body_fits}
use Rattle.unwind_calls.proofs.Entering.{args_fit, callee_fits}
use Rattle.std.proofs.lemmas.List.Elements.{All-head, All-tail}

-- what lets a call begin an activation
one_left : (left : ℕ) (below : Bool) → (nat_lt 0 left && below) ≡ true → 0 < left
one_left zero below h = absurd (false≢true h)
one_left (suc left) below h = omega arith

one_below : (first below : Bool) → (first && below) ≡ true → below ≡ true
one_below true below h = h
one_below false below h = absurd (false≢true h)

module _ (a : Activation) (f : ℕ) (fn : Function) (may : may_enter a f fn ≡ true) where
  pub some_left : 0 < a.left
  some_left = one_left a.left (is_below_limit a.pair.now a.bounds.now a.standing.now f fn) may

  pub next_left : a.left ≡ suc (a.left - 1)
  next_left = let h = one_left a.left (is_below_limit a.pair.now a.bounds.now a.standing.now f fn) may in omega (arith, h)

  pub below_limit : is_below_limit a.pair.now a.bounds.now a.standing.now f fn ≡ true
  below_limit = one_below (nat_lt 0 a.left) (is_below_limit a.pair.now a.bounds.now a.standing.now f fn) may

-- arguments fit parameters
fit_params : (c : Scope) (x : ℕ) (es : List TExpr) (ts : List SizedTerm) → map (λ (t : SizedTerm). t.width) ts ≡ map (λ (e : TExpr). e.ty.bits) es → FitsArgs c x es →
    All (λ y. slot_length c.program (Local y) ≡ 0) (places_from x (length es)) → FitParams c.program x ts
fit_params c x [] [] w h p = tt
fit_params c x [] (t ∷ ts) w h p = let d : t.width ∷ map (λ (t : SizedTerm). t.width) ts ≡ [] = w in cc
fit_params c x (e ∷ es) [] w h p = let d : [] ≡ e.ty.bits ∷ map (λ (e : TExpr). e.ty.bits) es = w in cc
fit_params c x (e ∷ es) (t ∷ ts) w h p =
    let d : t.width ∷ map (λ (t : SizedTerm). t.width) ts ≡ e.ty.bits ∷ map (λ (e : TExpr). e.ty.bits) es = w in
    let here : t.width ≡ e.ty.bits = cc in
    let rest : map (λ (t : SizedTerm). t.width) ts ≡ map (λ (e : TExpr). e.ty.bits) es = cc in
    let next : suc x ≡ x + 1 = omega arith in (
      here ∙ ap (λ ty. ty.bits) h.0.0,
      All-head (λ y. slot_length c.program (Local y) ≡ 0) x (places_from (suc x) (length es)) p,
      fit_params c (x + 1) es ts rest h.1 (subst (λ y. All (λ z. slot_length c.program (Local z) ≡ 0) (places_from y (length es))) next (All-tail (λ y. slot_length c.program (Local y) ≡ 0) x (places_from (suc x) (length es)) p)),
    )

module _ (a : Activation) (call : TCall) (fn : Function) (body : TStmt) (well : IsWellFormed a.pair.now) (found : slice_get a.pair.now.program.functions call.function ≡ Some fn) (some : fn.body ≡ Some body)
    (c : Scope) (inside : is_in a c) (fits : FitsCall c call) where
  pub args_may : All (FitsExpr c) call.args
  args_may = args_fit c fn.first call.args (callee_fits c a.pair.now.program call fn inside.0 found fits).1

  module _ (ts : List SizedTerm) (widths : map (λ (t : SizedTerm). t.width) ts ≡ map (λ (e : TExpr). e.ty.bits) call.args) where
    pub args_count : length ts ≡ fn.params
    args_count = sym (length-map ts (λ (t : SizedTerm). t.width)) ∙ ap length widths ∙ length-map call.args (λ (e : TExpr). e.ty.bits) ∙ (callee_fits c a.pair.now.program call fn inside.0 found fits).0

    pub args_params : FitParams a.pair.now.program fn.first ts
    args_params =
        let callee = callee_fits c a.pair.now.program call fn inside.0 found fits in
        let plain = (body_fits a.pair.now call.function fn body well found some).1 in
        subst (λ p. FitParams p fn.first ts) inside.0
        (fit_params c fn.first call.args ts widths callee.1
        (subst (λ (p : CProgram). All (λ y. slot_length p (Local y) ≡ 0) (places_from fn.first (length call.args))) (sym inside.0)
        (subst (λ n. All (λ y. slot_length a.pair.now.program (Local y) ≡ 0) (places_from fn.first n)) (sym callee.0) plain)))
