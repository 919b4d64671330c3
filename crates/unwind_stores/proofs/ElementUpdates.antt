-- Updates of elements, from what their parts promise.
use Rattle.std.proofs.Common.{◌≡◌, ℕ, ◌<◌, List, length, Option, Some, None, true, refl, sym, ap, ◌∙◌, subst, arith}
use Rattle.std.specs.Prelude.{ℤ, pos, slice_index_or}
use Rattle.word_eqs.specs.Meaning.{Values}
use Rattle.joint_ir.specs.declared.ctype.IntType.{IntType}
use Rattle.joint_ir.specs.declared.event.Event.TheVariants.{Stored}
use Rattle.joint_ir.specs.declared.expr.TExpr.{TExpr}
use Rattle.joint_ir.specs.declared.stmt.TTarget.{TTarget}
use Rattle.joint_ir.specs.declared.stmt.TUpdate.{TUpdate}
use Rattle.joint_ir.specs.declared.way.Way.TheVariants.{Next}
use Rattle.joint_ir.specs.Effects.{Onward, seen, Goes, with_value, check_then}
use Rattle.joint_ir.specs.States.{JointState, put}
use Rattle.joint_ir.specs.Steps.{rows_in, slot_type, store_at, right_value, element_of, within_bounds, is_within, low_part, update_effect, with_store}
use Rattle.joint_ir.specs.Types.{converted}
use Rattle.joint_ir.specs.Values.{value_of, binary_value}
use Rattle.joint_ir.specs.Weights.{slot_length}
use Rattle.joint_ir.specs.WellFormed.{Scope, FitsTarget, FitsUpdate, right_type}
use Rattle.sized_terms.specs.declared.SizedTerm.{SizedTerm}
use Rattle.sized_terms.specs.Sized.{bits}
use Rattle.checked_terms.specs.Checked.{stands}
use Rattle.unrolled.specs.declared.Objects.{Objects}
use Rattle.unrolled.specs.declared.Unrolled.{Unrolled}
use Rattle.unrolled.specs.Elements.{terms_of}
use Rattle.trails.specs.Following.{goes}
use Rattle.unwind_state.specs.declared.state.Flow.{Flow}
use Rattle.unwind_state.specs.declared.state.Guard.{Guard}
use Rattle.unwind_state.specs.declared.state.State.{State}
use Rattle.unwind_state.specs.Guards.{bit_at, flow_at}
use Rattle.unwind_state.specs.Unwinding.{Grows}
use Rattle.unwind_state.specs.Writing.{IsPutAt, with_objects}
use Rattle.unwind_state.proofs.Stretches.{unwinds_as, added_before}
use Rattle.unwind_state.proofs.Pieces.{changed}
use Rattle.unwind_state.proofs.Sequences.{ask_in, asks_any}
use Rattle.unwind_state.proofs.Places.{put_at_changes}
use Rattle.unwind_simple.specs.declared.simple.Activation.{Activation}
use Rattle.unwind_simple.specs.Simple.{setting_of, is_in, IsValued, IsDone, MayRun}
use Rattle.unwind_simple.proofs.Statements.{fixed, state, behind, stays, there_in, grown_guard, grown_objects, grown_result, next_flow}
use Rattle.unwind_stores.specs.Elements.{IsBounded, IsReadAt}
use Rattle.unwind_stores.specs.Stores.{FitsBoth, IsAnswered, IsRight, updated}
use Rattle.unwind_stores.proofs.Answered.{grows_then, grows_adds, asked}
use Rattle.unwind_stores.proofs.Bounds.{same_check, bounded_then, low_is, index_fits, index_prop, row_count}
use Rattle.unwind_stores.proofs.Reading.{low_within, read_found}
use Rattle.unwind_stores.proofs.Rows.{declared_in, some_terms}
use Rattle.unwind_stores.proofs.Storing.{bounded_grows, array_terms}
use Rattle.unwind_stores.proofs.Updating.{value_then, same_go}

module _ (a : Activation) where
  -- what is done with the index of an element that is updated
  abbrev update_at : TTarget → TUpdate → ℤ → Onward
  update_at target u m s c =
      let k = setting_of a in
      within_bounds k target (Some m) s c (λ index.
      with_value (right_value (rows_in k s) u.right) c (λ y.
      with_value (binary_value u.op u.ty u.division u.other (converted u.ty (slice_index_or (rows_in k s target.slot) (element_of index) (pos 0))) y) c (λ n.
      store_at target.place.line target.slot index (converted (slot_type a.pair.now.program target.slot) n) s c)))

  -- what an update of an element does
  update_element_is : (target : TTarget) (u : TUpdate) (e : TExpr) (i : Option TExpr) → i ≡ Some e → (s : JointState) (c : List ℕ) →
      with_value (value_of (rows_in (setting_of a) s) e) c (λ m. update_at target u m s c) ≡ update_effect (setting_of a) (record { place = target.place; slot = target.slot; index = i; bounds = target.bounds }) u s c
  update_element_is target u e None q s c = let d : None ≡ Some e = q in cc
  update_element_is target u e (Some x) q s c =
      let d : Some x ≡ Some e = q in
      let same : e ≡ x = cc in
      ap (λ (y : TExpr). with_value (value_of (rows_in (setting_of a) s) y) c (λ m. update_at target u m s c)) same

  pub done_update_element : (n0 n1 n2 n3 n4 n5 n6 : Unrolled) (st : State) (o : Objects) (target : TTarget) (e : TExpr) (u : TUpdate) (g : Guard) (i old y new : SizedTerm) (ty : IntType) (count : ℕ) (f : Flow) → f ≡ flow_at Next g → ty ≡ slot_type a.pair.now.program target.slot → count ≡ slot_length a.pair.now.program target.slot → target.index ≡ Some e →
      MayRun a n0 st g (FitsBoth target u) → IsValued a n0 n1 st e g i → IsBounded n1 n2 target.bounds i e.ty count g → IsReadAt n2 n3 (terms_of st.objects target.slot) ty.bits i old → IsRight a n3 n4 st u g y →
      IsAnswered n4 n5 ty g new (λ v. updated ty u (stands ty v old) (stands (right_type u.ty u.right) v y)) → IsPutAt n5 n6 st.objects o target.slot i new (λ v. bit_at v g) →
      (c : Scope) → is_in a c → FitsTarget c target → FitsUpdate c u → IsDone a n0 n6 st (with_objects st o) g f c.locals c.locals (update_effect (setting_of a) target u)
  done_update_element n0 n1 n2 n3 n4 n5 n6 st o target e u g i old y new ty count f is is_ty is_count some M V D R' Y O' P c inside fits_target fits =
      let k = setting_of a in
      let slot = target.slot in
      let line = target.place.line in
      let t = slot_type a.pair.now.program slot in
      let rty = right_type u.ty u.right in
      let R : IsReadAt n2 n3 (terms_of st.objects slot) t.bits i old = subst (λ (w : IntType). IsReadAt n2 n3 (terms_of st.objects slot) w.bits i old) is_ty R' in
      let O : IsAnswered n4 n5 t g new (λ v. updated t u (stands t v old) (stands rty v y)) = subst (λ (w : IntType). IsAnswered n4 n5 w g new (λ v. updated w u (stands w v old) (stands rty v y))) is_ty O' in
      let there = there_in a M.scope slot M.program M.fits.target_fits.object.visible M.fits.target_fits.stored in
      let two = grows_then n0.terms n1.terms n2.terms V.grows (bounded_grows n1 n2 target.bounds i e.ty count g D) in
      let three = grows_then n0.terms n2.terms n3.terms two (grows_adds n2 n3 R.adds) in
      let four = grows_then n0.terms n3.terms n4.terms three Y.grows in
      let five = grows_then n0.terms n4.terms n5.terms four O.grows in
      let all = grows_then n0.terms n5.terms n6.terms five (grows_adds n5 n6 P.adds) in
      let flow = flow_at Next g in
      let id = index_prop c target e some fits_target in
      subst (λ (f : Flow). IsDone a n0 n6 st (with_objects st o) g f c.locals c.locals (update_effect k target u)) (sym is) (record {
        grows = all;
        objects = P.objects a.pair.now.program O.width (grown_objects a n0 n5 st.objects five M.objects);
        result = grown_result a n0.terms n6.terms st.result all;
        flow = next_flow a n6.terms g (grown_guard a n0 n6 g all M.guard);
        does =
            let next : Values → ℤ → JointState → JointState = λ v n s. with_store s (put s.store slot (bits v i) n) in
            let K : Values → ℤ → Onward = λ v n s c. Goes Next (next v n s) (seen (Stored line slot (Some (bits v i)) n)) c in
            let K2 : Values → ℤ → Onward = λ v m s c. with_value (updated t u (stands t v old) m) c (λ n. K v n s c) in
            let K3 : Values → Onward = λ v s c. with_value (right_value (rows_in k s) u.right) c (λ m. K2 v m s c) in
            let C = put_at_changes a.pair.now c.locals n5 n6 st o slot i new g (some_terms a.pair.now.program n0.terms st.objects slot M.objects there) P in
            let B1 = changed (fixed a) n5 n6 st (with_objects st o) Next g (state a c.locals) (state a c.locals) (λ v s. next v (stands t v new) s) (λ v s. seen (Stored line slot (Some (bits v i)) (stands t v new))) (behind a c.locals) (λ v s. refl) (stays a c.locals) C in
            let B2 = ask_in (fixed a) n4 n5 n6 st (with_objects st o) t (λ v s. updated t u (stands t v old) (stands rty v y)) K g new flow (state a c.locals) (behind a c.locals) goes
            (asked (fixed a) n4 n5 st t g new (λ v. updated t u (stands t v old) (stands rty v y)) (state a c.locals) O) B1 in
            let B3 = ask_in (fixed a) n3 n4 n6 st (with_objects st o) rty (λ v s. right_value (rows_in k s) u.right) K2 g y flow (state a c.locals) (behind a c.locals) goes
            (asks_any (fixed a) n3 n4 st rty (λ s. right_value (rows_in k s) u.right) g y (state a c.locals) (Y.asks c inside fits)) B2 in
            let B4 = added_before (fixed a) n2 n3 n6 st (with_objects st o) K3 g flow (state a c.locals) (behind a c.locals) goes R.adds B3 in
            let B5 = bounded_then (fixed a) n1 n2 n6 st (with_objects st o) id.0 target.bounds id.1 i e.ty count K3 g flow (state a c.locals) (behind a c.locals) goes D B4 in
            let B6 = unwinds_as (fixed a) n1 n6 st (with_objects st o) (λ v s c. check_then target.bounds (is_within count (stands e.ty v i)) c (K3 v s c)) (λ v. update_at target u (stands e.ty v i)) g flow (state a c.locals) (state a c.locals) (behind a c.locals) (behind a c.locals) goes goes
            (λ x s h. h)
            (λ v r s h d.
            let declared = declared_in c slot fits_target.object.visible in
            let terms : length (terms_of st.objects slot) ≡ slot_length a.pair.now.program slot = array_terms a M.scope target e n0 st.objects M.program M.fits.target_fits some M.objects in
            let len : count ≡ length (rows_in k s slot) = is_count ∙ sym terms ∙ sym (row_count a.pair.now c.locals a.bounds.now.frames v st s slot declared h fits_target.stored) in
            let r3 = Y.grows.grown v (O.grows.grown v (P.adds.grown v r)) in
            let final : ℕ → ℕ → Onward = λ j at s d. with_value (right_value (rows_in k s) u.right) d (λ m. with_value (binary_value u.op u.ty u.division u.other (converted u.ty (slice_index_or (rows_in k s slot) at (pos 0))) m) d (λ n. store_at line slot (Some j) (converted t n) s d)) in
            same_check target.bounds id.0 id.1 (is_within count (stands e.ty v i)) d (K3 v s d) (final (low_part (stands e.ty v i)) (low_part (stands e.ty v i)) s d)
            (λ q.
            let lt : bits v i < length (terms_of st.objects slot) = subst (λ n. bits v i < n) (is_count ∙ sym terms) (low_within e.ty.signed e.ty.bits (bits v i) count q) in
            let was : stands t v old ≡ slice_index_or (rows_in k s slot) (bits v i) (pos 0) = read_found a.pair.now c.locals a.bounds.now.frames n2 n3 v st s slot i old declared h r3 R lt in
            same_go (right_value (rows_in k s) u.right) d (λ m. K2 v m s d) (λ m. with_value (binary_value u.op u.ty u.division u.other (converted u.ty (slice_index_or (rows_in k s slot) (bits v i) (pos 0))) m) d (λ n. store_at line slot (Some (bits v i)) (converted t n) s d))
            (λ m.
            value_then (binary_value u.op u.ty u.division u.other (converted u.ty (stands t v old)) m) (converted t) d (λ n. K v n s d)
            ∙ ap (λ z. with_value (binary_value u.op u.ty u.division u.other (converted u.ty z) m) d (λ n. K v (converted t n) s d)) was)
            ∙ ap (λ j. final j j s d) (sym (low_is e.ty.signed e.ty.bits (bits v i) count q)))
            ∙ ap (λ l. check_then target.bounds (is_within l (stands e.ty v i)) d (final (low_part (stands e.ty v i)) (low_part (stands e.ty v i)) s d)) len)
            (λ w x s h. h) (λ w s c. refl) B5 in
            let B7 = ask_in (fixed a) n0 n1 n6 st (with_objects st o) e.ty (λ v s. value_of (rows_in k s) e) (λ v. update_at target u) g i flow (state a c.locals) (behind a c.locals) goes
            (asks_any (fixed a) n0 n1 st e.ty (λ s. value_of (rows_in k s) e) g i (state a c.locals) (V.asks c inside (index_fits c target e some fits_target).0)) B6 in
            unwinds_as (fixed a) n0 n6 st (with_objects st o) (λ v s c. with_value (value_of (rows_in k s) e) c (λ m. update_at target u m s c)) (λ v. update_effect k target u) g flow (state a c.locals) (state a c.locals) (behind a c.locals) (behind a c.locals) goes goes
            (λ x s h. h) (λ v r s h d. update_element_is target u e target.index some s d) (λ w x s h. h) (λ w s c. refl) B7;
      })
