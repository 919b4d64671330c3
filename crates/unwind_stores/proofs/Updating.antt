-- Updates, from what their parts promise.
use Rattle.std.proofs.Common.{◌≡◌, ℕ, List, Option, Some, None, refl, sym, ap, ◌∙◌, subst}
use Rattle.std.specs.Prelude.{ℤ, pos, slice_get, slice_index_or}
use Rattle.word_eqs.specs.declared.term.TermId.{TermId}
use Rattle.word_eqs.specs.Meaning.{Values}
use Rattle.joint_ir.specs.declared.ctype.IntType.{IntType}
use Rattle.joint_ir.specs.declared.event.Event.TheVariants.{Stored}
use Rattle.joint_ir.specs.declared.stmt.TTarget.{TTarget}
use Rattle.joint_ir.specs.declared.expr.TExpr.{TExpr}
use Rattle.joint_ir.specs.declared.stmt.TUpdate.{TUpdate}
use Rattle.joint_ir.specs.declared.way.Way.TheVariants.{Next}
use Rattle.joint_ir.specs.Effects.{Effect, Onward, seen, Goes, with_value}
use Rattle.joint_ir.specs.States.{JointState, put}
use Rattle.joint_ir.specs.Steps.{rows_in, slot_type, store_at, right_value, update_effect, with_store}
use Rattle.joint_ir.specs.Types.{converted}
use Rattle.joint_ir.specs.Values.{Answer, Value, Fault, and_then, binary_value}
use Rattle.joint_ir.specs.WellFormed.{Scope, FitsTarget, FitsUpdate, right_type}
use Rattle.sized_terms.specs.declared.SizedTerm.{SizedTerm}
use Rattle.checked_terms.specs.Checked.{stands}
use Rattle.unrolled.specs.declared.Objects.{Objects}
use Rattle.unrolled.specs.declared.Unrolled.{Unrolled}
use Rattle.unrolled.specs.Elements.{terms_of}
use Rattle.trails.specs.Following.{goes}
use Rattle.unwind_state.specs.declared.state.Flow.{Flow}
use Rattle.unwind_state.specs.declared.state.Guard.{Guard}
use Rattle.unwind_state.specs.declared.state.State.{State}
use Rattle.unwind_state.specs.Guards.{flow_at}
use Rattle.unwind_state.specs.Writing.{IsPut, sized, with_objects}
use Rattle.unwind_state.proofs.Stretches.{unwinds_as}
use Rattle.unwind_state.proofs.Pieces.{changed}
use Rattle.unwind_state.proofs.Sequences.{ask_in, asks_any}
use Rattle.unwind_state.proofs.Puts.{put_changes, put_has}
use Rattle.unwind_simple.specs.declared.simple.Activation.{Activation}
use Rattle.unwind_simple.specs.Simple.{setting_of, is_in, IsDone, MayRun}
use Rattle.unwind_simple.proofs.Statements.{fixed, state, behind, stays, there_in, grown_guard, grown_objects, grown_result, next_flow}
use Rattle.unwind_stores.specs.Stores.{FitsBoth, IsAnswered, IsRight, updated}
use Rattle.unwind_stores.proofs.Answered.{grows_then, grows_adds, asked}
use Rattle.unwind_stores.proofs.Rows.{element_found, declared_in, some_terms}

-- with an answer's number, of which something is made
pub value_then : (an : Answer) (f : ℤ → ℤ) (c : List ℕ) (go : ℤ → Effect) → with_value (and_then an (λ n. Value (f n))) c go ≡ with_value an c (λ n. go (f n))
value_then (Value n) f c go = refl
value_then (Fault p) f c go = refl

pub same_go : (an : Answer) (c : List ℕ) (go go' : ℤ → Effect) → ((n : ℤ) → go n ≡ go' n) → with_value an c go ≡ with_value an c go'
same_go (Value n) c go go' e = e n
same_go (Fault p) c go go' e = refl

module _ (a : Activation) where
  -- what an update of an object that is no array does
  update_is : (target : TTarget) (u : TUpdate) (i : Option TExpr) → i ≡ None → (s : JointState) (c : List ℕ) →
      update_effect (setting_of a) (record { place = target.place; slot = target.slot; index = i; bounds = target.bounds }) u s c
      ≡ with_value (right_value (rows_in (setting_of a) s) u.right) c
      (λ y. with_value (binary_value u.op u.ty u.division u.other (converted u.ty (slice_index_or (rows_in (setting_of a) s target.slot) 0 (pos 0))) y) c
      (λ n. store_at target.place.line target.slot None (converted (slot_type a.pair.now.program target.slot) n) s c))
  update_is target u None q s c = refl
  update_is target u (Some i) q s c = let d : Some i ≡ None = q in cc

  pub done_update : (n0 n1 n2 n3 : Unrolled) (st : State) (o : Objects) (target : TTarget) (u : TUpdate) (g : Guard) (y new : SizedTerm) (old : TermId) (ty : IntType) (f : Flow) → f ≡ flow_at Next g → ty ≡ slot_type a.pair.now.program target.slot → target.index ≡ None →
      MayRun a n0 st g (FitsBoth target u) → IsRight a n0 n1 st u g y → slice_get (terms_of st.objects target.slot) 0 ≡ Some old →
      IsAnswered n1 n2 ty g new (λ v. updated ty u (stands ty v (sized old ty.bits)) (stands (right_type u.ty u.right) v y)) → IsPut n2 n3 st.objects o target.slot 0 new g →
      (c : Scope) → is_in a c → FitsTarget c target → FitsUpdate c u → IsDone a n0 n3 st (with_objects st o) g f c.locals c.locals (update_effect (setting_of a) target u)
  done_update n0 n1 n2 n3 st o target u g y new old ty f is is_ty none M R at O P c inside fits_target fits =
      let k = setting_of a in
      let slot = target.slot in
      let line = target.place.line in
      let t = slot_type a.pair.now.program slot in
      let rty = right_type u.ty u.right in
      let O' : IsAnswered n1 n2 t g new (λ v. updated t u (stands t v (sized old t.bits)) (stands rty v y)) = subst (λ (w : IntType). IsAnswered n1 n2 w g new (λ v. updated w u (stands w v (sized old w.bits)) (stands rty v y))) is_ty O in
      let there = there_in a M.scope slot M.program M.fits.target_fits.object.visible M.fits.target_fits.stored in
      let two = grows_then n0.terms n1.terms n2.terms R.grows O'.grows in
      let all = grows_then n0.terms n2.terms n3.terms two (grows_adds n2 n3 P.adds) in
      let flow = flow_at Next g in
      subst (λ (f : Flow). IsDone a n0 n3 st (with_objects st o) g f c.locals c.locals (update_effect k target u)) (sym is) (record {
        grows = all;
        objects = put_has a.pair.now.program n2 n3 st.objects o slot 0 new g O'.width P (grown_objects a n0 n2 st.objects two M.objects);
        result = grown_result a n0.terms n3.terms st.result all;
        flow = next_flow a n3.terms g (grown_guard a n0 n3 g all M.guard);
        does =
            let next : ℤ → JointState → JointState = λ n s. with_store s (put s.store slot 0 n) in
            let K : ℤ → Onward = λ n s c. Goes Next (next n s) (seen (Stored line slot None n)) c in
            let K2 : Values → ℤ → Onward = λ v m s c. with_value (updated t u (stands t v (sized old t.bits)) m) c (λ n. K n s c) in
            let C = put_changes a.pair.now c.locals n2 n3 st o slot 0 new g (some_terms a.pair.now.program n0.terms st.objects slot M.objects there) P in
            let B1 = changed (fixed a) n2 n3 st (with_objects st o) Next g (state a c.locals) (state a c.locals) (λ v s. next (stands t v new) s) (λ v s. seen (Stored line slot None (stands t v new))) (behind a c.locals) (λ v s. refl) (stays a c.locals) C in
            let B2 = ask_in (fixed a) n1 n2 n3 st (with_objects st o) t (λ v s. updated t u (stands t v (sized old t.bits)) (stands rty v y)) (λ v. K) g new flow (state a c.locals) (behind a c.locals) goes
            (asked (fixed a) n1 n2 st t g new (λ v. updated t u (stands t v (sized old t.bits)) (stands rty v y)) (state a c.locals) O') B1 in
            let B3 = ask_in (fixed a) n0 n1 n3 st (with_objects st o) rty (λ v s. right_value (rows_in k s) u.right) K2 g y flow (state a c.locals) (behind a c.locals) goes
            (asks_any (fixed a) n0 n1 st rty (λ s. right_value (rows_in k s) u.right) g y (state a c.locals) (R.asks c inside fits)) B2 in
            unwinds_as (fixed a) n0 n3 st (with_objects st o) (λ v s c. with_value (right_value (rows_in k s) u.right) c (λ m. K2 v m s c)) (λ v. update_effect k target u) g flow (state a c.locals) (state a c.locals) (behind a c.locals) (behind a c.locals) goes goes
            (λ x s h. h)
            (λ v r s h d.
            let was : stands t v (sized old t.bits) ≡ slice_index_or (rows_in k s slot) 0 (pos 0) = element_found a.pair.now c.locals a.bounds.now.frames v st s slot 0 old (declared_in c slot fits_target.object.visible) h at in
            same_go (right_value (rows_in k s) u.right) d (λ m. K2 v m s d) (λ m. with_value (binary_value u.op u.ty u.division u.other (converted u.ty (slice_index_or (rows_in k s slot) 0 (pos 0))) m) d (λ n. store_at line slot None (converted t n) s d))
            (λ m.
            value_then (binary_value u.op u.ty u.division u.other (converted u.ty (stands t v (sized old t.bits))) m) (converted t) d (λ n. K n s d)
            ∙ ap (λ z. with_value (binary_value u.op u.ty u.division u.other (converted u.ty z) m) d (λ n. K (converted t n) s d)) was)
            ∙ sym (update_is target u target.index none s d))
            (λ w x s h. h) (λ w s c. refl) B3;
      })
