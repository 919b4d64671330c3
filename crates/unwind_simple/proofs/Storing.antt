-- Stores to objects that are no arrays.
use Rattle.std.proofs.Common.{◌≡◌, ℕ, zero, suc, ◌<◌, true, false, List, length, Option, Some, None, refl, sym, ap, ◌∙◌, subst, arith}
use Rattle.std.specs.Prelude.{ℤ, nat_lt, slice_get}
use Rattle.std.proofs.lemmas.Bool.Decides.{nat_tests}
use Rattle.bits_core.specs.Word.{number}
use Rattle.word_eqs.specs.declared.term.TermId.{TermId}
use Rattle.word_eqs.specs.Meaning.{Values}
use Rattle.joint_ir.specs.declared.ctype.IntType.{IntType}
use Rattle.joint_ir.specs.declared.event.Event.TheVariants.{Stored}
use Rattle.joint_ir.specs.declared.expr.TExpr.{TExpr}
use Rattle.joint_ir.specs.declared.program.CProgram.{CProgram}
use Rattle.joint_ir.specs.declared.stmt.TInit.{TInit}
use Rattle.joint_ir.specs.declared.stmt.TTarget.{TTarget}
use Rattle.joint_ir.specs.declared.way.Way.TheVariants.{Next}
use Rattle.joint_ir.specs.Effects.{Onward, seen, Goes}
use Rattle.joint_ir.specs.States.{JointState, element_count, put}
use Rattle.joint_ir.specs.Steps.{slot_type, store_effect, with_init, with_store}
use Rattle.joint_ir.specs.Types.{IsType}
use Rattle.joint_ir.specs.Weights.{slot_length}
use Rattle.joint_ir.specs.WellFormed.{Scope, FitsInit, FitsTarget, is_array, is_some}
use Rattle.sized_terms.specs.declared.SizedTerm.{SizedTerm}
use Rattle.sized_terms.specs.Sized.{Has, bits}
use Rattle.unrolled.specs.declared.Objects.{Objects}
use Rattle.unrolled.specs.declared.Unrolled.{Unrolled}
use Rattle.unrolled.specs.Elements.{terms_of}
use Rattle.element_terms.specs.Elements.{sized}
use Rattle.trails.specs.Following.{goes}
use Rattle.unwind_state.specs.declared.state.Flow.{Flow}
use Rattle.unwind_state.specs.declared.state.Guard.{Guard}
use Rattle.unwind_state.specs.declared.state.State.{State}
use Rattle.unwind_state.specs.Guards.{HasGuard, flow_at}
use Rattle.unwind_state.specs.Unwinding.{Grows}
use Rattle.unwind_state.specs.Writing.{IsPut, with_objects}
use Rattle.unwind_state.proofs.Pieces.{changed}
use Rattle.unwind_state.proofs.Puts.{put_changes, put_has}
use Rattle.unwind_state.proofs.Stretches.{unwinds_as}
use Rattle.unwind_simple.specs.declared.simple.Activation.{Activation}
use Rattle.unwind_simple.specs.Obtaining.{IsObtained}
use Rattle.unwind_simple.specs.Simple.{setting_of, calls_in, is_in, stored_type, MayRun, IsDone}
use Rattle.unwind_simple.proofs.Obtaining.{obtain}
use Rattle.unwind_simple.proofs.Returning.{fits_free}
use Rattle.unwind_simple.proofs.Statements.{fixed, state, behind, stays, there_in, grown_guard, grown_objects, grown_result, next_flow}
use Rattle.unwind_simple.proofs.Types.{has_types}

-- where a store fits
abbrev pub FitsStore : Activation → TTarget → TInit → Scope → Type 0
FitsStore a target init c = FitsTarget c target × FitsInit c false (stored_type a target) init

module _ (a : Activation) where
  -- a target that is no array has one term
  some_lt : (n : ℕ) → 0 < n → nat_lt 0 n ≡ true
  some_lt n h = grind (arith, nat_tests)

  one_element : (n : ℕ) → nat_lt 0 n ≡ false → element_count n ≡ 1
  one_element zero e = refl
  one_element (suc n) e = let d : true ≡ false = sym (some_lt (suc n) (omega arith)) ∙ e in cc

  plain_target : (n : Unrolled) (st : State) (target : TTarget) (init : TInit) (g : Guard) → MayRun a n st g (FitsStore a target init) → target.index ≡ None → length (terms_of st.objects target.slot) ≡ 1
  plain_target n st target init g M plain =
      let F = M.fits.0 in
      let shape : is_array M.scope.program target.slot ≡ false = F.object.shape ∙ ap is_some plain in
      M.objects.count target.slot (there_in a M.scope target.slot M.program F.object.visible F.stored)
      ∙ one_element (slot_length a.pair.now.program target.slot) (ap (λ (q : CProgram). is_array q target.slot) (sym M.program.0) ∙ shape)

  -- what a store needs of the value's term

  pub store_obtains : (n : Unrolled) (st : State) (target : TTarget) (init : TInit) (g : Guard) (ty : IntType) → ty ≡ stored_type a target → MayRun a n st g (FitsStore a target init) → MayRun a n st g (λ c. FitsInit c true ty init)
  store_obtains n st target init g ty is M =
      record { well = M.well; scope = M.scope; program = M.program; fits = subst (λ (u : IntType). FitsInit M.scope true u init) (sym is) (fits_free M.scope (stored_type a target) init M.fits.1); objects = M.objects; result = M.result; guard = M.guard }

  pub store_typed : (n : Unrolled) (st : State) (target : TTarget) (init : TInit) (g : Guard) (ty : IntType) → ty ≡ stored_type a target → MayRun a n st g (FitsStore a target init) → IsType ty
  store_typed n st target init g ty is M = subst IsType (sym is) (has_types a.pair.now M.well target.slot (there_in a M.scope target.slot M.program M.fits.0.object.visible M.fits.0.stored))

  pub store_guard : (n0 n1 : Unrolled) (st : State) (target : TTarget) (init : TInit) (g : Guard) (ty : IntType) (t : SizedTerm) → MayRun a n0 st g (FitsStore a target init) → IsObtained a n0 n1 st ty init g t → HasGuard n1.terms g
  store_guard n0 n1 st target init g ty t M V = grown_guard a n0 n1 g V.grows M.guard

  pub store_there : (n : Unrolled) (st : State) (target : TTarget) (init : TInit) (g : Guard) → MayRun a n st g (FitsStore a target init) → target.index ≡ None → 0 < length (terms_of st.objects target.slot)
  store_there n st target init g M plain = let q = plain_target n st target init g M plain in omega arith

  value_width : (n0 n1 : Unrolled) (st : State) (target : TTarget) (init : TInit) (g : Guard) (ty : IntType) (t : SizedTerm) → ty ≡ stored_type a target → IsObtained a n0 n1 st ty init g t → t.width ≡ (slot_type a.pair.now.program target.slot).bits
  value_width n0 n1 st target init g ty t is V = V.width ∙ ap (λ (u : IntType). u.bits) is

  pub store_old : (n0 n1 : Unrolled) (st : State) (target : TTarget) (init : TInit) (g : Guard) (ty : IntType) (t : SizedTerm) → ty ≡ stored_type a target → MayRun a n0 st g (FitsStore a target init) → IsObtained a n0 n1 st ty init g t →
      (u : TermId) → slice_get (terms_of st.objects target.slot) 0 ≡ Some u → Has n1.terms (sized u t.width)
  store_old n0 n1 st target init g ty t is M V u at =
      let h = M.objects.has target.slot (there_in a M.scope target.slot M.program M.fits.0.object.visible M.fits.0.stored) 0 u at in
      subst (λ w. Has n1.terms (sized u w)) (sym (value_width n0 n1 st target init g ty t is V)) (V.grows.kept (sized u (slot_type a.pair.now.program target.slot).bits) h)

  -- what a store to an object that is no array does
  store_is : (target : TTarget) (init : TInit) (i : Option TExpr) → i ≡ None → (s : JointState) (c : List ℕ) →
      store_effect (setting_of a) (calls_in a) (record { place = target.place; slot = target.slot; index = i; bounds = target.bounds }) init s c
      ≡ with_init (setting_of a) (calls_in a) (stored_type a target) init s c (λ n s' rest. Goes Next (with_store s' (put s'.store target.slot 0 n)) (seen (Stored target.place.line target.slot None n)) rest)
  store_is target init None q s c = refl
  store_is target init (Some i) q s c = let d : Some i ≡ None = q in cc

  pub done_store : (n0 n1 n2 : Unrolled) (st : State) (o : Objects) (target : TTarget) (init : TInit) (g : Guard) (ty : IntType) (t : SizedTerm) (f : Flow) → f ≡ flow_at Next g → ty ≡ stored_type a target → MayRun a n0 st g (FitsStore a target init) → target.index ≡ None →
      IsObtained a n0 n1 st ty init g t → IsPut n1 n2 st.objects o target.slot 0 t g →
      (c : Scope) → is_in a c → FitsTarget c target → FitsInit c false (stored_type a target) init → IsDone a n0 n2 st (with_objects st o) g f c.locals c.locals (store_effect (setting_of a) (calls_in a) target init)
  done_store n0 n1 n2 st o target init g ty t f is typed M plain V P c inside fits_target fits =
      let k = setting_of a in
      let all : Grows n0.terms n2.terms = record { grown = λ v r. V.grows.grown v (P.adds.grown v r); kept = λ x h. P.adds.kept x (V.grows.kept x h); proper = P.adds.proper } in
      subst (λ (f : Flow). IsDone a n0 n2 st (with_objects st o) g f c.locals c.locals (store_effect k (calls_in a) target init)) (sym is) (record {
        grows = all;
        objects = put_has a.pair.now.program n1 n2 st.objects o target.slot 0 t g (value_width n0 n1 st target init g ty t typed V) P (grown_objects a n0 n1 st.objects V.grows M.objects);
        result = grown_result a n0.terms n2.terms st.result all;
        flow = next_flow a n2.terms g (grown_guard a n0 n2 g all M.guard);
        does =
            let next : ℤ → JointState → JointState = λ n s. with_store s (put s.store target.slot 0 n) in
            let K : ℤ → Onward = λ n s c. Goes Next (next n s) (seen (Stored target.place.line target.slot None n)) c in
            let n : Values → IntType → ℤ = λ v u. number u.signed u.bits (bits v t) in
            let own = stored_type a target in
            let C = put_changes a.pair.now c.locals n1 n2 st o target.slot 0 t g (store_there n0 st target init g M plain) P in
            let B = changed (fixed a) n1 n2 st (with_objects st o) Next g (state a c.locals) (state a c.locals) (λ v s. next (n v own) s) (λ v s. seen (Stored target.place.line target.slot None (n v own))) (behind a c.locals) (λ v s. refl) (stays a c.locals) C in
            let B' = unwinds_as (fixed a) n1 n2 st (with_objects st o) (λ v. K (n v own)) (λ v. K (n v ty)) g (flow_at Next g) (state a c.locals) (state a c.locals) (behind a c.locals) (behind a c.locals) goes goes
            (λ x s h. h) (λ v r s h c. ap (λ u. K (n v u) s c) (sym typed)) (λ w x s h. h) (λ w s c. refl) B in
            let D = obtain (fixed a) n0 n1 n2 st (with_objects st o) ty (λ s choices go. with_init k (calls_in a) ty init s choices go) K g t (flow_at Next g) (state a c.locals) (behind a c.locals) goes
            (V.obtains c inside (fits_free c ty init (subst (λ (u : IntType). FitsInit c false u init) (sym typed) fits))) B' in
            unwinds_as (fixed a) n0 n2 st (with_objects st o) (λ v s c. with_init k (calls_in a) ty init s c K) (λ v. store_effect k (calls_in a) target init) g (flow_at Next g) (state a c.locals) (state a c.locals) (behind a c.locals) (behind a c.locals) goes goes
            (λ x s h. h) (λ v r s h c. ap (λ (u : IntType). with_init k (calls_in a) u init s c K) typed ∙ sym (store_is target init target.index plain s c)) (λ w x s h. h) (λ w s c. refl) D;
      })
