-- Calls, and what objects are set to, are well-formed where nothing in them is an offence.
use Rattle.std.proofs.Common.{◌≡◌, ℕ, suc, ◌+◌, ◌≤◌, List, [], ◌∷◌, ◌++◌, length, get_or, Bool, true, false, refl, sym, ap, subst, ◌∙◌, arith}
use Rattle.std.specs.Prelude.{Option, Some, None, cond, eqb, slice_get, IsTrue, IsSome}
use Rattle.std.proofs.lemmas.Option.{slice_get-get_or}
use Rattle.std.proofs.lemmas.Bool.Decides.{nat_tests}
use Rattle.src_text.specs.declared.refusal.Place.{Place}
use Rattle.src_text.specs.declared.kind.Kind.TheVariants.{CArgCount, CNotInteger}
use Rattle.c_tree.specs.declared.declarations.Initializer.{Initializer}
use Rattle.c_tree.specs.declared.declarations.Initializer.TheVariants as initializer
use Rattle.c_tree.specs.declared.expressions.Call.{Call}
use Rattle.c_tree.specs.declared.expressions.Expression.{Expression}
use Rattle.joint_ir.specs.declared.ctype.IntType.{IntType}
use Rattle.joint_ir.specs.declared.expr.Slot.TheVariants.{Local}
use Rattle.joint_ir.specs.Types.{IsType}
use Rattle.joint_ir.specs.Steps.{slot_type}
use Rattle.joint_ir.specs.WellFormed as well
use Rattle.joint_ir.specs.WellFormed.{FitsAs, FitsArgs, FitsCall, FitsCallee, FitsInit, FitsResult}
use Rattle.offence_order.specs.declared.Offence.{Offence}
use Rattle.c_words.specs.declared.notes.Site.{Site}
use Rattle.offence_order.specs.Order.{at}
use Rattle.c_names.specs.Scope.{Scope}
use Rattle.c_expressions.specs.Expressions.{typed_of, sites_in, converted_to}
use Rattle.c_expressions.specs.Values.{StandAt}
use Rattle.c_statements.specs.declared.calls.Callee.{Callee}
use Rattle.c_statements.specs.declared.calls.Callee.TheVariants.{Unknown, NotFunction, SetInputs, NextFrame, Declared}
use Rattle.c_statements.specs.declared.calls.Signature.{Signature}
use Rattle.c_statements.specs.Calls.{callee, count_offences, body_offences, signature_offences, callee_offences, result_offences, void_offences, params_in, params_of, as_param, args_typed, args_offences, args_sites, call_offences, call_typed, called, init_offences, init_sites, init_typed}
use Rattle.c_meaning.specs.Sound.{AreThere, AreProps}
use Rattle.c_statement_laws.specs.Agreeing.{Agrees, Agree, AllBytes, InitBytes, HasSignature}
use Rattle.c_meaning.proofs.Means.{stand_left, stand_right}
use Rattle.c_meaning.proofs.Fits.{expression_fits, converted_fits}

pub none_left : (a b : List Offence) → a ++ b ≡ [] → a ≡ []
none_left [] b h = refl
none_left (x ∷ a) b h = cc

pub none_right : (a b : List Offence) → a ++ b ≡ [] → b ≡ []
none_right [] b h = h
none_right (x ∷ a) b h = cc

count_right : (p : Place) (n m : ℕ) → count_offences p n m ≡ [] → n ≡ m
count_right p n m h = pick (eqb n m) refl h
  where
    pick : (q : Bool) → eqb n m ≡ q → cond q [] (at p CArgCount) ≡ [] → n ≡ m
    pick true e g = grind (arith, nat_tests)
    pick false e g = absurd (cc)

may_call : (p : Place) (b : Bool) → body_offences p b ≡ [] → IsTrue b
may_call p true h = refl
may_call p false h = absurd (cc)

module _ (c : well.Scope) (all : List Site) (props : AreProps all c.program) (env : List Scope) (names : AreThere c env) where
  -- an argument for a parameter
  args_fit : (first : ℕ) (params : List IntType) → ((i : ℕ) (t : IntType) → slice_get params i ≡ Some t → (t ≡ slot_type c.program (Local (first + i))) × IsType t) →
      (i base : ℕ) (args : List Expression) → i + length args ≤ length params → AllBytes args → StandAt all base (args_sites env args) →
      FitsArgs c (first + i) (args_typed env base params i args)
  args_fit first params are i base [] few v s = tt
  args_fit first params are i base (e ∷ es) few v s =
      let x = typed_of env base e in
      let there : slice_get params i ≡ Some (get_or params i x.ty) = slice_get-get_or params i x.ty (omega (arith, few)) in
      let t = get_or params i x.ty in
      let is = are i t there in
      let fit : FitsAs c t (converted_to t x) = converted_fits c all props t x is.1 (expression_fits c all props env names base e v.0 (stand_left all base (sites_in env e) (args_sites env es) s)) in
      let rest : FitsArgs c (first + (i + 1)) (args_typed env (base + length (sites_in env e)) params (i + 1) es) =
      args_fit first params are (i + 1) (base + length (sites_in env e)) es (omega (arith, few)) v.1 (stand_right all base (sites_in env e) (args_sites env es) s) in (
        subst (λ o. FitsAs c (slot_type c.program (Local (first + i))) (as_param o x)) (sym there) (subst (λ u. FitsAs c u (converted_to t x)) is.0 fit),
        subst (λ n. FitsArgs c n (args_typed env (base + length (sites_in env e)) params (i + 1) es)) (omega arith) rest,
      )

  args_count : (base : ℕ) (params : List IntType) (i : ℕ) (args : List Expression) → length (args_typed env base params i args) ≡ length args
  args_count base params i [] = refl
  args_count base params i (e ∷ es) = ap suc (args_count (base + length (sites_in env e)) params (i + 1) es)

  some_result : (p : Place) (s : Signature) → result_offences p (Some s) ≡ [] → IsSome s.result
  some_result p s h = pick s.result h
    where
      pick : (o : Option IntType) → (let os : List Offence = elim o [ None ↦ at p CNotInteger | Some t ↦ [] ] in os) ≡ [] → IsSome o
      pick None h = absurd (cc)
      pick (Some t) h = refl

  pub call_fits : (fns : List Signature) → Agree c.program fns → (p : Place) (f : ℕ) (s : Signature) (base : ℕ) (args : List Expression) → slice_get fns f ≡ Some s →
      signature_offences p (length args) (Some s) ≡ [] → AllBytes args → StandAt all base (args_sites env args) → FitsCall c (call_typed p f (args_typed env base s.params 0 args))
  call_fits fns agree p f s base args is none v st =
      let a = agree f s is (may_call p s.callable (none_right (count_offences p (length s.params) (length args)) (body_offences p s.callable) none)) in
      let g : Agrees c.program s a.0 = a.2 in
      let few : length s.params ≡ length args = count_right p (length s.params) (length args) (none_left (count_offences p (length s.params) (length args)) (body_offences p s.callable) none) in (
        a.0,
        a.1,
        (
          args_count base s.params 0 args ∙ sym few ∙ sym g.count,
          subst (λ n. FitsArgs c n (args_typed env base s.params 0 args)) (omega arith) (args_fit a.0.first s.params g.params 0 base args (omega (arith, few)) v st),
          g.body,
        ),
      )

  called_fits : (fns : List Signature) → Agree c.program fns → (p : Place) (at : Callee) (t : IntType) (base : ℕ) (args : List Expression) → HasSignature fns at → void_offences fns p at ≡ [] →
      callee_offences fns p (length args) at ≡ [] → AllBytes args → StandAt all base (args_sites env args) → FitsInit c false t (called p at (args_typed env base (params_of fns at) 0 args))
  called_fits fns agree p Unknown t base args has void none v st = absurd (cc)
  called_fits fns agree p NotFunction t base args has void none v st = absurd (cc)
  called_fits fns agree p SetInputs t base args has void none v st = absurd (cc)
  called_fits fns agree p NextFrame t base args has void none v st = absurd (cc)
  called_fits fns agree p (Declared f) t base args has void none v st =
      let s = has.0 in
      let known = subst (λ o. signature_offences p (length args) o ≡ []) has.1 none in
      let a = agree f s has.1 (may_call p s.callable (none_right (count_offences p (length s.params) (length args)) (body_offences p s.callable) known)) in
      let g : Agrees c.program s a.0 = a.2 in
      let call = call_fits fns agree p f s base args has.1 known v st in
      let result = some_result p s (subst (λ o. result_offences p o ≡ []) has.1 void) in
      (subst (λ o. FitsCall c (call_typed p f (args_typed env base (params_in o) 0 args))) (sym has.1) call, (a.0, a.1, subst IsSome (sym g.result) result))

  -- what an object of a type is set to
  pub init_fits : (fns : List Signature) → Agree c.program fns → (t : IntType) → IsType t → (base : ℕ) (i : Initializer) → ((call : Call) → i ≡ initializer.Called call → HasSignature fns (callee env call)) →
      init_offences fns env i ≡ [] → InitBytes i → StandAt all base (init_sites env i) → FitsInit c false t (init_typed fns env base t i)
  init_fits fns agree t is base (initializer.Value e) has none v st =
      (converted_to t (typed_of env base e), refl, converted_fits c all props t (typed_of env base e) is (expression_fits c all props env names base e v st))
  init_fits fns agree t is base (initializer.Called call) has none v st =
      let p = call.name.place in
      let at = callee env call in
      let rest = none_right (void_offences fns p at) (call_offences fns env call) none in
      called_fits fns agree p at t base call.arguments (has call refl) (none_left (void_offences fns p at) (call_offences fns env call) none)
      (none_left (callee_offences fns p (length call.arguments) at) (args_offences env call.arguments) rest) v st
