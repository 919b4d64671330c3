-- Stores, through an index or not.
use Rattle.std.proofs.Common.{◌≡◌, ℕ, zero, suc, List, length, Option, Some, None, true, false, refl, sym, ap, ◌∙◌, subst}
use Rattle.std.specs.Prelude.{ℤ, nat_lt}
use Rattle.word_eqs.specs.Meaning.{Values}
use Rattle.joint_ir.specs.declared.ctype.IntType.{IntType}
use Rattle.joint_ir.specs.declared.event.Event.TheVariants.{Stored}
use Rattle.joint_ir.specs.declared.expr.TExpr.{TExpr}
use Rattle.joint_ir.specs.declared.stmt.TInit.{TInit}
use Rattle.joint_ir.specs.declared.stmt.TTarget.{TTarget}
use Rattle.joint_ir.specs.declared.way.Way.TheVariants.{Next}
use Rattle.joint_ir.specs.Effects.{Onward, seen, Goes, with_value, check_then}
use Rattle.joint_ir.specs.States.{JointState, element_count, put}
use Rattle.joint_ir.specs.Steps.{Calls, rows_in, slot_type, store_at, with_init, within_bounds, is_within, low_part, store_effect, with_store}
use Rattle.joint_ir.specs.Values.{value_of}
use Rattle.joint_ir.specs.Weights.{slot_length}
use Rattle.joint_ir.specs.WellFormed.{Scope, FitsTarget, FitsInit, is_array, is_some}
use Rattle.sized_terms.specs.declared.SizedTerm.{SizedTerm}
use Rattle.sized_terms.specs.Sized.{bits}
use Rattle.checked_terms.specs.Checked.{stands}
use Rattle.unrolled.specs.declared.Objects.{Objects}
use Rattle.unrolled.specs.declared.Unrolled.{Unrolled}
use Rattle.unrolled.specs.Elements.{terms_of}
use Rattle.trails.specs.Following.{goes}
use Rattle.unwind_state.specs.declared.state.Flow.{Flow}
use Rattle.unwind_state.specs.declared.state.Guard.{Guard}
use Rattle.unwind_state.specs.declared.state.State.{State}
use Rattle.unwind_state.specs.Guards.{bit_at, flow_at}
use Rattle.unwind_state.specs.Unwinding.{Grows}
use Rattle.unwind_state.specs.Writing.{HasObjects, IsPutAt, with_objects}
use Rattle.unwind_state.proofs.Stretches.{unwinds_as}
use Rattle.unwind_state.proofs.Pieces.{changed}
use Rattle.unwind_state.proofs.Sequences.{ask_in, asks_any}
use Rattle.unwind_state.proofs.Places.{put_at_changes}
use Rattle.unwind_simple.specs.declared.simple.Activation.{Activation}
use Rattle.unwind_simple.specs.Simple.{setting_of, is_in, stored_type, IsValued, IsDone, MayRun, calls_in}
use Rattle.unwind_simple.proofs.Statements.{fixed, state, behind, stays, there_in, grown_guard, grown_objects, grown_result, next_flow}
use Rattle.unwind_simple.specs.Obtaining.{IsObtained}
use Rattle.unwind_simple.proofs.Storing.{FitsStore}
use Rattle.unwind_simple.proofs.Returning.{fits_free}
use Rattle.unwind_stores.proofs.Opening.{obtain_in}
use Rattle.unwind_stores.specs.Elements.{IsBounded}
use Rattle.unwind_stores.proofs.Answered.{grows_then, grows_adds, tested_grows}
use Rattle.unwind_stores.proofs.Rows.{declared_in, some_terms}
use Rattle.unwind_stores.proofs.Bounds.{same_check, bounded_then, low_is, index_fits, index_prop, row_count}

-- an array has as many elements as its length
array_count : (n : ℕ) → nat_lt 0 n ≡ true → element_count n ≡ n
array_count zero e = let d : false ≡ true = e in cc
array_count (suc n) e = refl

pub bounded_grows : (n0 n1 : Unrolled) (bounds : _) (index : SizedTerm) (from : IntType) (count : ℕ) (g : Guard) → IsBounded n0 n1 bounds index from count g → Grows n0.terms n1.terms
bounded_grows n0 n1 bounds index from count g D = grows_then n0.terms D.between.terms n1.terms (grows_adds n0 D.between D.adds) (tested_grows D.between n1 g _ D.adds.proper D.tested)

module _ (a : Activation) where
  -- the terms of an array
  pub array_terms : (c : Scope) (target : TTarget) (e : TExpr) (n : Unrolled) (o : Objects) → is_in a c → FitsTarget c target → target.index ≡ Some e → HasObjects a.pair.now.program n.terms o → length (terms_of o target.slot) ≡ slot_length a.pair.now.program target.slot
  array_terms c target e n o inside fits is H =
      H.count target.slot (there_in a c target.slot inside fits.object.visible fits.stored)
      ∙ array_count (slot_length a.pair.now.program target.slot) (ap (λ p. is_array p target.slot) (sym inside.0) ∙ fits.object.shape ∙ ap is_some is)

  -- what a store to an element does
  pub store_is : (calls : Calls) (target : TTarget) (init : TInit) (e : TExpr) (i : Option TExpr) → i ≡ Some e → (s : JointState) (c : List ℕ) →
      with_value (value_of (rows_in (setting_of a) s) e) c
      (λ m. with_init (setting_of a) calls (slot_type a.pair.now.program target.slot) init s c (λ n s' rest. within_bounds (setting_of a) target (Some m) s' rest (λ index. store_at target.place.line target.slot index n s' rest)))
      ≡ store_effect (setting_of a) calls (record { place = target.place; slot = target.slot; index = i; bounds = target.bounds }) init s c
  store_is calls target init e None q s c = let d : None ≡ Some e = q in cc
  store_is calls target init e (Some x) q s c =
      let d : Some x ≡ Some e = q in
      let same : e ≡ x = cc in
      ap (λ (y : TExpr). with_value (value_of (rows_in (setting_of a) s) y) c
      (λ m. with_init (setting_of a) calls (slot_type a.pair.now.program target.slot) init s c (λ n s' rest. within_bounds (setting_of a) target (Some m) s' rest (λ index. store_at target.place.line target.slot index n s' rest)))) same

  pub done_store_element : (n0 n1 n2 n3 n4 : Unrolled) (st : State) (o : Objects) (target : TTarget) (e : TExpr) (init : TInit) (g : Guard) (i t : SizedTerm) (ty : IntType) (count : ℕ) (f : Flow) → f ≡ flow_at Next g → ty ≡ slot_type a.pair.now.program target.slot → count ≡ slot_length a.pair.now.program target.slot → target.index ≡ Some e →
      MayRun a n0 st g (FitsStore a target init) → IsValued a n0 n1 st e g i → IsObtained a n1 n2 st ty init g t → IsBounded n2 n3 target.bounds i e.ty count g → IsPutAt n3 n4 st.objects o target.slot i t (λ v. bit_at v g) →
      (c : Scope) → is_in a c → FitsTarget c target → FitsInit c false (stored_type a target) init → IsDone a n0 n4 st (with_objects st o) g f c.locals c.locals (store_effect (setting_of a) (calls_in a) target init)
  done_store_element n0 n1 n2 n3 n4 st o target e init g i t ty count f is is_ty is_count some M V I' D P c inside fits_target fits_init =
      let k = setting_of a in
      let slot = target.slot in
      let line = target.place.line in
      let w = slot_type a.pair.now.program slot in
      let I : IsObtained a n1 n2 st w init g t = subst (λ (u : IntType). IsObtained a n1 n2 st u init g t) is_ty I' in
      let there = there_in a M.scope slot M.program M.fits.0.object.visible M.fits.0.stored in
      let two = grows_then n0.terms n1.terms n2.terms V.grows I.grows in
      let three = grows_then n0.terms n2.terms n3.terms two (bounded_grows n2 n3 target.bounds i e.ty count g D) in
      let all = grows_then n0.terms n3.terms n4.terms three (grows_adds n3 n4 P.adds) in
      let flow = flow_at Next g in
      let id = index_prop c target e some fits_target in
      subst (λ (f : Flow). IsDone a n0 n4 st (with_objects st o) g f c.locals c.locals (store_effect k (calls_in a) target init)) (sym is) (record {
        grows = all;
        objects = P.objects a.pair.now.program I.width (grown_objects a n0 n3 st.objects three M.objects);
        result = grown_result a n0.terms n4.terms st.result all;
        flow = next_flow a n4.terms g (grown_guard a n0 n4 g all M.guard);
        does =
            let next : Values → ℤ → JointState → JointState = λ v n s. with_store s (put s.store slot (bits v i) n) in
            let inner : ℤ → ℤ → Onward = λ m n s c. within_bounds k target (Some m) s c (λ index. store_at line slot index n s c) in
            let C = put_at_changes a.pair.now c.locals n3 n4 st o slot i t g (some_terms a.pair.now.program n0.terms st.objects slot M.objects there) P in
            let B1 = changed (fixed a) n3 n4 st (with_objects st o) Next g (state a c.locals) (state a c.locals) (λ v s. next v (stands w v t) s) (λ v s. seen (Stored line slot (Some (bits v i)) (stands w v t))) (behind a c.locals) (λ v s. refl) (stays a c.locals) C in
            let B2 = bounded_then (fixed a) n2 n3 n4 st (with_objects st o) id.0 target.bounds id.1 i e.ty count (λ v s c. Goes Next (next v (stands w v t) s) (seen (Stored line slot (Some (bits v i)) (stands w v t))) c) g flow (state a c.locals) (behind a c.locals) goes D B1 in
            let B3 = unwinds_as (fixed a) n2 n4 st (with_objects st o) (λ v s c. check_then target.bounds (is_within count (stands e.ty v i)) c (Goes Next (next v (stands w v t) s) (seen (Stored line slot (Some (bits v i)) (stands w v t))) c)) (λ v. inner (stands e.ty v i) (stands w v t)) g flow (state a c.locals) (state a c.locals) (behind a c.locals) (behind a c.locals) goes goes
            (λ x s h. h)
            (λ v r s h d.
            let len : count ≡ length (rows_in k s slot) =
            is_count ∙ sym (array_terms M.scope target e n0 st.objects M.program M.fits.0 some M.objects) ∙ sym (row_count a.pair.now c.locals a.bounds.now.frames v st s slot (declared_in c slot fits_target.object.visible) h fits_target.stored) in
            same_check target.bounds id.0 id.1 (is_within count (stands e.ty v i)) d (store_at line slot (Some (bits v i)) (stands w v t) s d) (store_at line slot (Some (low_part (stands e.ty v i))) (stands w v t) s d)
            (λ q. ap (λ j. store_at line slot (Some j) (stands w v t) s d) (sym (low_is e.ty.signed e.ty.bits (bits v i) count q)))
            ∙ ap (λ l. check_then target.bounds (is_within l (stands e.ty v i)) d (store_at line slot (Some (low_part (stands e.ty v i))) (stands w v t) s d)) len)
            (λ w x s h. h) (λ w s c. refl) B2 in
            let B4 = obtain_in (fixed a) n1 n2 n4 st (with_objects st o) w (λ s choices go. with_init k (calls_in a) w init s choices go) (λ v. inner (stands e.ty v i)) g t flow (state a c.locals) (behind a c.locals) goes
            (I.obtains c inside (fits_free c w init fits_init)) B3 in
            let B5 = ask_in (fixed a) n0 n1 n4 st (with_objects st o) e.ty (λ v s. value_of (rows_in k s) e) (λ v m s c. with_init k (calls_in a) w init s c (inner m)) g i flow (state a c.locals) (behind a c.locals) goes
            (asks_any (fixed a) n0 n1 st e.ty (λ s. value_of (rows_in k s) e) g i (state a c.locals) (V.asks c inside (index_fits c target e some fits_target).0)) B4 in
            unwinds_as (fixed a) n0 n4 st (with_objects st o) (λ v s c. with_value (value_of (rows_in k s) e) c (λ m. with_init k (calls_in a) w init s c (inner m))) (λ v. store_effect k (calls_in a) target init) g flow (state a c.locals) (state a c.locals) (behind a c.locals) (behind a c.locals) goes goes
            (λ x s h. h) (λ v r s h d. store_is (calls_in a) target init e target.index some s d) (λ w x s h. h) (λ w s c. refl) B5;
      })
