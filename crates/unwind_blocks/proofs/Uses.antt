-- What is done with a call's result: it is returned, or an object is set to it.
use Rattle.std.proofs.Common.{◌≡◌, ℕ, List, ◌∷◌, ◌++◌, length, Option, Some, None, refl, sym, ap, ◌∙◌, subst, append_assoc}
use Rattle.std.specs.Prelude.{ℤ, false, slice_get}
use Rattle.bits_core.specs.Word.{number, at_zero}
use Rattle.word_eqs.specs.Meaning.{Values, Respects}
use Rattle.joint_ir.specs.declared.ctype.IntType.{IntType}
use Rattle.joint_ir.specs.declared.event.Event.TheVariants.{Stored}
use Rattle.joint_ir.specs.declared.expr.Slot.TheVariants.{Local}
use Rattle.joint_ir.specs.declared.expr.TExpr.{TExpr}
use Rattle.joint_ir.specs.declared.program.CProgram.{CProgram}
use Rattle.joint_ir.specs.declared.stmt.SNode.{Return}
use Rattle.joint_ir.specs.declared.stmt.TCall.{TCall}
use Rattle.joint_ir.specs.declared.stmt.TInit.{TInit}
use Rattle.joint_ir.specs.declared.stmt.TInit.TheVariants.{Called}
use Rattle.joint_ir.specs.declared.stmt.TTarget.{TTarget}
use Rattle.joint_ir.specs.declared.way.Way.{Way}
use Rattle.joint_ir.specs.declared.way.Way.TheVariants.{Next, Returning}
use Rattle.joint_ir.specs.Effects.{Effect, Onward, nothing, seen, Goes, with_value, check_then}
use Rattle.joint_ir.specs.Values.{value_of}
use Rattle.joint_ir.specs.States.{JointState, element_count, put}
use Rattle.joint_ir.specs.Steps.{slot_type, result_of, store_at, type_or_int, with_init, with_store, returning, declare_effect, return_effect, store_effect, rows_in, within_bounds, is_within, low_part}
use Rattle.joint_ir.specs.Weights.{slot_length}
use Rattle.joint_ir.specs.WellFormed.{Scope, FitsCall, FitsDeclare, FitsInit, FitsReturn, FitsStmt, FitsTarget}
use Rattle.sized_terms.specs.declared.SizedTerm.{SizedTerm}
use Rattle.sized_terms.specs.Sized.{bits}
use Rattle.checked_terms.specs.Checked.{stands}
use Rattle.unrolled.specs.declared.Objects.{Objects}
use Rattle.unrolled.specs.declared.Unrolled.{Unrolled}
use Rattle.unrolled.specs.Elements.{terms_of}
use Rattle.trails.specs.Following.{way_bit, goes, Follows}
use Rattle.trails.specs.Trails.{Trail, Through, Halts, trail_then, trail}
use Rattle.trails.proofs.Walking.{then_nothing, trail-append}
use Rattle.trails.proofs.Ways.{bind_follows}
use Rattle.unwind_state.specs.declared.state.Flow.{Flow}
use Rattle.unwind_state.specs.declared.state.Guard.{Guard}
use Rattle.unwind_state.specs.declared.state.State.{State}
use Rattle.unwind_state.specs.Guards.{bit_at, bits_of, flow_at}
use Rattle.unwind_state.specs.Images.{Image, look, HasReturned}
use Rattle.unwind_state.specs.Unwinding.{Changes, Unwinds}
use Rattle.unwind_state.specs.Writing.{HasResult, IsChosen, IsPut, IsPutAt, with_objects}
use Rattle.unwind_state.proofs.Pieces.{changed}
use Rattle.unwind_state.proofs.Puts.{put_changes, put_has}
use Rattle.unwind_state.proofs.Stretches.{unwinds_as}
use Rattle.unwind_simple.specs.declared.simple.Activation.{Activation}
use Rattle.unwind_simple.specs.Obtaining.{Valuing, ComesTo}
use Rattle.unwind_simple.specs.Simple.{setting_of, calls_in, result_in, is_in, stored_type, IsValued, MayRun, IsDone}
use Rattle.unwind_simple.proofs.Returning.{with_result}
use Rattle.unwind_simple.proofs.Statements.{fixed, state, behind, stays, there_in, grown_guard, grown_objects, grown_result, next_flow}
use Rattle.unwind_simple.proofs.Storing.{FitsStore}
use Rattle.unwind_state.proofs.Places.{put_at_changes}
use Rattle.unwind_state.proofs.Sequences.{ask_in, asks_any}
use Rattle.unwind_stores.specs.Elements.{IsBounded}
use Rattle.unwind_stores.proofs.Answered.{grows_then, grows_adds}
use Rattle.unwind_stores.proofs.Bounds.{same_check, bounded_then, low_is, index_fits, index_prop, row_count}
use Rattle.unwind_stores.proofs.Storing.{bounded_grows, array_terms, store_is as element_is}
use Rattle.unwind_stores.proofs.Declared.{local_found, local_there, init_fits, declare_is, declares}
use Rattle.unwind_stores.proofs.Rows.{declared_in, some_terms}
use Rattle.unwind_calls.specs.Calls.{Returns, IsReceived}
use Rattle.unwind_blocks.proofs.Branches.{only_has}

-- ---- a number that a run comes to, and what is done with it

received_follows : (run : List ℕ → (ℤ → Onward) → Effect) (t1 t2 : Trail) (n : ℤ) (K : ℤ → Onward) (guards : Way → ℕ) (mid : JointState → Type 0) (holds : Way → JointState → Type 0) (out : Way → Onward) → ComesTo run t1 n mid →
    ((s : JointState) → mid s → Follows (K n s) t2 guards holds out) → Follows (λ c. run c K) (trail_then t1 t2) guards holds out
received_follows run t1 t2 n K guards mid holds out C go = bind_follows (λ c. run c K) t1 t2 (λ w. way_bit w Next) guards (λ way. mid) holds (λ way. K n) out (first t1 C) (λ way at s q. go s q)
  where
    first : (t : Trail) → ComesTo run t n mid → Follows (λ c. run c K) t (λ w. way_bit w Next) (λ way. mid) (λ way. K n)
    first (Through reads) h = record { way = Next; state = h.state; told = h.told; at = λ w. refl; held = h.held; widths = h.widths; runs = λ rest. h.runs K rest }
    first (Halts reads stop) h = h K

pub receive : (fixed : Image → Type 0) (n0 n1 n2 : Unrolled) (s0 s1 s2 : State) (ty : IntType) (run : Valuing) (K : Values → ℤ → Onward) (g : Guard) (t : SizedTerm) (f : Flow) (before mid : Image → JointState → Type 0) (behind : Way → Image → JointState → Type 0) (out : Way → Onward) →
    Returns fixed n0 n1 s0 s1 ty (λ v. run) g t before mid → Unwinds fixed n1 n2 s1 s2 (λ v. K v (number ty.signed ty.bits (bits v t))) g f mid behind out → Unwinds fixed n0 n2 s0 s2 (λ v s c. run s c (K v)) g f before behind out
receive fixed n0 n1 n2 s0 s1 s2 ty run K g t f before mid behind out A B = record {
  grown = λ v r. A.grown v (B.grown v r);
  more = A.more ++ B.more;
  list = B.list ∙ ap (λ l. l ++ B.more) A.list ∙ append_assoc n0.list A.more B.more;
  settled = λ v r x. B.settled v r (A.settled v (B.grown v r) x);
  idle = λ v r o x.
      let b = B.idle v r o (A.settled v (B.grown v r) x) in
      record {
        passes = trail-append v A.more B.more ∙ ap (λ t. trail_then t (trail v B.more)) (A.passes v (B.grown v r) o x) ∙ then_nothing (trail v B.more) ∙ b.passes;
        off = b.off;
        kept = b.kept ∙ A.kept v (B.grown v r) o x;
      };
  live = λ v r l x s h.
      subst (λ t. Follows (λ c. run s c (K v)) t (bits_of v f) (λ w. behind w (look v s2)) out) (sym (trail-append v A.more B.more))
      (received_follows (run s) (trail v A.more) (trail v B.more) (number ty.signed ty.bits (bits v t)) (K v) (bits_of v f) (mid (look v s1)) (λ w. behind w (look v s2)) out (A.live v (B.grown v r) l x s h)
      (λ s' q. B.live v r l (A.settled v (B.grown v r) x) s' q));
}

module _ (a : Activation) where
  -- ---- a `return`

  -- the call of a `return` fits
  pub returned_fits : (ty : IntType) (call : TCall) → result_in a ≡ Some ty → (c : Scope) → is_in a c → FitsStmt c (Return (Some (Called call))) → FitsCall c call
  returned_fits ty call own c inside (fn, found, h) =
      let here : result_in a ≡ fn.result = ap (λ (q : CProgram). result_of (slice_get q.functions a.here)) (sym inside.0) ∙ ap (λ i. result_of (slice_get c.program.functions i)) (sym inside.1) ∙ ap result_of found in
      (subst (λ (o : Option IntType). FitsReturn c o (Some (Called call))) (sym here ∙ own) h).0

  returned_back : (xs : List ℕ) (v : Values) (st : State) (new : SizedTerm) (n : ℤ) (s : JointState) → state a xs (look v st) s → state a xs (look v (with_result st new)) (returning s n)
  returned_back xs v st new n s h = record {
    globals = h.globals;
    locals = h.locals;
    members = h.members;
    global_count = h.global_count;
    local_count = h.local_count;
    member_count = h.member_count;
    local_lengths = h.local_lengths;
    registers = h.registers;
    inputs = h.inputs;
    wires = h.wires;
    edges = h.edges;
  }

  abbrev result_number : Image → ℕ → Image
  result_number x m = record { globals = x.globals; locals = x.locals; members = x.members; registers = x.registers; inputs = x.inputs; unknown = x.unknown; wires = x.wires; edges = x.edges; result = m }

  pub done_returned : (n0 n1 n2 : Unrolled) (s0 s1 : State) (ty : IntType) (call : TCall) (g : Guard) (t new : SizedTerm) (f : Flow) → f ≡ flow_at Returning g → result_in a ≡ Some ty → MayRun a n0 s0 g (λ c. FitsStmt c (Return (Some (Called call)))) → IsReceived a n0 n1 s0 s1 ty call g t →
      IsChosen n1 n2 t.width new (λ v. at_zero (bit_at v g) (bits v s1.result) (bits v t)) →
      (c : Scope) → is_in a c → FitsStmt c (Return (Some (Called call))) → IsDone a n0 n2 s0 (with_result s1 new) g f c.locals c.locals (return_effect (setting_of a) (calls_in a) (Some (Called call)))
  done_returned n0 n1 n2 s0 s1 ty call g t new f is own M V C c inside fits =
      let k = setting_of a in
      let xs = c.locals in
      let all = grows_then n0.terms n1.terms n2.terms V.grows (grows_adds n1 n2 C.adds) in
      let number_in : Values → ℤ = λ v. number ty.signed ty.bits (bits v t) in
      let K : ℤ → Onward = λ n s c. Goes Returning (returning s n) nothing c in
      let returned : (v : Values) → Respects v n2.terms → bit_at v g ≡ 1 → (s : JointState) → (r : Option IntType) → r ≡ Some ty → HasReturned r Returning (look v (with_result s1 new)) (returning s (number_in v)) = λ v r l s o e.
      subst (λ (o : Option IntType). HasReturned o Returning (look v (with_result s1 new)) (returning s (number_in v))) (sym e)
      (ap (number ty.signed ty.bits) (sym (C.value v r ∙ ap (λ b. at_zero b (bits v s1.result) (bits v t)) l))) in
      let D : Changes (fixed a) n1 n2 s1 (with_result s1 new) g (state a xs) (behind a xs Returning) (λ v s. returning s (number_in v)) = record {
        grown = C.adds.grown;
        list = C.adds.list;
        settled = λ v r x. x;
        kept = λ v r o x. ap (λ m. result_number (look v s1) m) (C.value v r ∙ ap (λ b. at_zero b (bits v s1.result) (bits v t)) o);
        changed = λ v r l x s h. record { state = returned_back xs v s1 new (number_in v) s h; returned = returned v r l s (result_in a) own };
      } in
      let B = changed (fixed a) n1 n2 s1 (with_result s1 new) Returning g (state a xs) (behind a xs Returning) (λ v s. returning s (number_in v)) (λ v s. nothing) (behind a xs) (λ v s. refl) (λ x s h. h) D in
      let E = receive (fixed a) n0 n1 n2 s0 s1 (with_result s1 new) ty (λ s choices go. with_init k (calls_in a) ty (Called call) s choices go) (λ v. K) g t (flow_at Returning g) (state a xs) (state a xs) (behind a xs) goes
      (V.receives c inside (returned_fits ty call own c inside fits)) B in
      subst (λ (h : Flow). IsDone a n0 n2 s0 (with_result s1 new) g h xs xs (return_effect k (calls_in a) (Some (Called call)))) (sym is) (record {
        grows = all;
        objects = grown_objects a n1 n2 s1.objects (grows_adds n1 n2 C.adds) V.objects;
        result = λ h. subst (λ (o : Option IntType). HasResult o n2.terms new) (sym own) (C.has, C.width ∙ V.width);
        flow = only_has n2.terms Returning g (grown_guard a n0 n2 g all M.guard);
        does = unwinds_as (fixed a) n0 n2 s0 (with_result s1 new) (λ v s c. with_init k (calls_in a) ty (Called call) s c K) (λ v. return_effect k (calls_in a) (Some (Called call))) g (flow_at Returning g) (state a xs) (state a xs) (behind a xs) (behind a xs) goes goes
            (λ x s h. h) (λ v r s h c. ap (λ (u : IntType). with_init k (calls_in a) u (Called call) s c K) (sym (ap type_or_int own))) (λ w x s h. h) (λ w s c. refl) E;
      })

  -- ---- a store

  store_is : (target : TTarget) (init : TInit) (i : Option TExpr) → i ≡ None → (s : JointState) (c : List ℕ) →
      store_effect (setting_of a) (calls_in a) (record { place = target.place; slot = target.slot; index = i; bounds = target.bounds }) init s c
      ≡ with_init (setting_of a) (calls_in a) (stored_type a target) init s c (λ n s' rest. Goes Next (with_store s' (put s'.store target.slot 0 n)) (seen (Stored target.place.line target.slot None n)) rest)
  store_is target init None q s c = refl
  store_is target init (Some i) q s c = let d : Some i ≡ None = q in cc

  pub done_stored : (n0 n1 n2 : Unrolled) (s0 s1 : State) (o : Objects) (target : TTarget) (call : TCall) (g : Guard) (t : SizedTerm) (f : Flow) → f ≡ flow_at Next g → MayRun a n0 s0 g (FitsStore a target (Called call)) → target.index ≡ None →
      IsReceived a n0 n1 s0 s1 (stored_type a target) call g t → IsPut n1 n2 s1.objects o target.slot 0 t g →
      (c : Scope) → is_in a c → FitsTarget c target → FitsInit c false (stored_type a target) (Called call) → IsDone a n0 n2 s0 (with_objects s1 o) g f c.locals c.locals (store_effect (setting_of a) (calls_in a) target (Called call))
  done_stored n0 n1 n2 s0 s1 o target call g t f is M plain V P c inside fits_target fits =
      let k = setting_of a in
      let own = stored_type a target in
      let all = grows_then n0.terms n1.terms n2.terms V.grows (grows_adds n1 n2 P.adds) in
      let there = there_in a M.scope target.slot M.program M.fits.0.object.visible M.fits.0.stored in
      subst (λ (f : Flow). IsDone a n0 n2 s0 (with_objects s1 o) g f c.locals c.locals (store_effect k (calls_in a) target (Called call))) (sym is) (record {
        grows = all;
        objects = put_has a.pair.now.program n1 n2 s1.objects o target.slot 0 t g V.width P V.objects;
        result = λ h. subst (HasResult (result_in a) n2.terms) (sym V.outer) (grown_result a n0.terms n2.terms s0.result all h);
        flow = next_flow a n2.terms g (grown_guard a n0 n2 g all M.guard);
        does =
            let next : ℤ → JointState → JointState = λ n s. with_store s (put s.store target.slot 0 n) in
            let K : ℤ → Onward = λ n s c. Goes Next (next n s) (seen (Stored target.place.line target.slot None n)) c in
            let C = put_changes a.pair.now c.locals n1 n2 s1 o target.slot 0 t g (some_terms a.pair.now.program n1.terms s1.objects target.slot V.objects there) P in
            let B = changed (fixed a) n1 n2 s1 (with_objects s1 o) Next g (state a c.locals) (state a c.locals) (λ v s. next (stands own v t) s) (λ v s. seen (Stored target.place.line target.slot None (stands own v t))) (behind a c.locals) (λ v s. refl) (stays a c.locals) C in
            let D = receive (fixed a) n0 n1 n2 s0 s1 (with_objects s1 o) own (λ s choices go. with_init k (calls_in a) own (Called call) s choices go) (λ v. K) g t (flow_at Next g) (state a c.locals) (state a c.locals) (behind a c.locals) goes (V.receives c inside fits.0) B in
            unwinds_as (fixed a) n0 n2 s0 (with_objects s1 o) (λ v s c. with_init k (calls_in a) own (Called call) s c K) (λ v. store_effect k (calls_in a) target (Called call)) g (flow_at Next g) (state a c.locals) (state a c.locals) (behind a c.locals) (behind a c.locals) goes goes
            (λ x s h. h) (λ v r s h c. sym (store_is target (Called call) target.index plain s c)) (λ w x s h. h) (λ w s c. refl) D;
      })

  pub done_stored_at : (n0 n1 n2 n3 n4 : Unrolled) (s0 s1 : State) (o : Objects) (target : TTarget) (e : TExpr) (call : TCall) (g : Guard) (i t : SizedTerm) (count : ℕ) (f : Flow) → f ≡ flow_at Next g → count ≡ slot_length a.pair.now.program target.slot → target.index ≡ Some e →
      MayRun a n0 s0 g (FitsStore a target (Called call)) → IsValued a n0 n1 s0 e g i → IsReceived a n1 n2 s0 s1 (stored_type a target) call g t → IsBounded n2 n3 target.bounds i e.ty count g → IsPutAt n3 n4 s1.objects o target.slot i t (λ v. bit_at v g) →
      (c : Scope) → is_in a c → FitsTarget c target → FitsInit c false (stored_type a target) (Called call) → IsDone a n0 n4 s0 (with_objects s1 o) g f c.locals c.locals (store_effect (setting_of a) (calls_in a) target (Called call))
  done_stored_at n0 n1 n2 n3 n4 s0 s1 o target e call g i t count f is is_count some M V R D P c inside fits_target fits =
      let k = setting_of a in
      let slot = target.slot in
      let line = target.place.line in
      let w = stored_type a target in
      let there = there_in a M.scope slot M.program M.fits.0.object.visible M.fits.0.stored in
      let tests = bounded_grows n2 n3 target.bounds i e.ty count g D in
      let two = grows_then n0.terms n1.terms n2.terms V.grows R.grows in
      let three = grows_then n0.terms n2.terms n3.terms two tests in
      let all = grows_then n0.terms n3.terms n4.terms three (grows_adds n3 n4 P.adds) in
      let flow = flow_at Next g in
      let id = index_prop c target e some fits_target in
      subst (λ (f : Flow). IsDone a n0 n4 s0 (with_objects s1 o) g f c.locals c.locals (store_effect k (calls_in a) target (Called call))) (sym is) (record {
        grows = all;
        objects = P.objects a.pair.now.program R.width (grown_objects a n2 n3 s1.objects tests R.objects);
        result = λ h. subst (HasResult (result_in a) n4.terms) (sym R.outer) (grown_result a n0.terms n4.terms s0.result all h);
        flow = next_flow a n4.terms g (grown_guard a n0 n4 g all M.guard);
        does =
            let next : Values → ℤ → JointState → JointState = λ v n s. with_store s (put s.store slot (bits v i) n) in
            let inner : ℤ → ℤ → Onward = λ m n s c. within_bounds k target (Some m) s c (λ index. store_at line slot index n s c) in
            let C = put_at_changes a.pair.now c.locals n3 n4 s1 o slot i t g (some_terms a.pair.now.program n2.terms s1.objects slot R.objects there) P in
            let B1 = changed (fixed a) n3 n4 s1 (with_objects s1 o) Next g (state a c.locals) (state a c.locals) (λ v s. next v (stands w v t) s) (λ v s. seen (Stored line slot (Some (bits v i)) (stands w v t))) (behind a c.locals) (λ v s. refl) (stays a c.locals) C in
            let B2 = bounded_then (fixed a) n2 n3 n4 s1 (with_objects s1 o) id.0 target.bounds id.1 i e.ty count (λ v s c. Goes Next (next v (stands w v t) s) (seen (Stored line slot (Some (bits v i)) (stands w v t))) c) g flow (state a c.locals) (behind a c.locals) goes D B1 in
            let B3 = unwinds_as (fixed a) n2 n4 s1 (with_objects s1 o) (λ v s c. check_then target.bounds (is_within count (stands e.ty v i)) c (Goes Next (next v (stands w v t) s) (seen (Stored line slot (Some (bits v i)) (stands w v t))) c)) (λ v. inner (stands e.ty v i) (stands w v t)) g flow (state a c.locals) (state a c.locals) (behind a c.locals) (behind a c.locals) goes goes
            (λ x s h. h)
            (λ v r s h d.
            let len : count ≡ length (rows_in k s slot) =
            is_count ∙ sym (array_terms a M.scope target e n2 s1.objects M.program M.fits.0 some R.objects) ∙ sym (row_count a.pair.now c.locals a.bounds.now.frames v s1 s slot (declared_in c slot fits_target.object.visible) h fits_target.stored) in
            same_check target.bounds id.0 id.1 (is_within count (stands e.ty v i)) d (store_at line slot (Some (bits v i)) (stands w v t) s d) (store_at line slot (Some (low_part (stands e.ty v i))) (stands w v t) s d)
            (λ q. ap (λ j. store_at line slot (Some j) (stands w v t) s d) (sym (low_is e.ty.signed e.ty.bits (bits v i) count q)))
            ∙ ap (λ l. check_then target.bounds (is_within l (stands e.ty v i)) d (store_at line slot (Some (low_part (stands e.ty v i))) (stands w v t) s d)) len)
            (λ w x s h. h) (λ w s c. refl) B2 in
            let B4 = receive (fixed a) n1 n2 n4 s0 s1 (with_objects s1 o) w (λ s choices go. with_init k (calls_in a) w (Called call) s choices go) (λ v. inner (stands e.ty v i)) g t flow (state a c.locals) (state a c.locals) (behind a c.locals) goes (R.receives c inside fits.0) B3 in
            let B5 = ask_in (fixed a) n0 n1 n4 s0 (with_objects s1 o) e.ty (λ v s. value_of (rows_in k s) e) (λ v m s c. with_init k (calls_in a) w (Called call) s c (inner m)) g i flow (state a c.locals) (behind a c.locals) goes
            (asks_any (fixed a) n0 n1 s0 e.ty (λ s. value_of (rows_in k s) e) g i (state a c.locals) (V.asks c inside (index_fits c target e some fits_target).0)) B4 in
            unwinds_as (fixed a) n0 n4 s0 (with_objects s1 o) (λ v s c. with_value (value_of (rows_in k s) e) c (λ m. with_init k (calls_in a) w (Called call) s c (inner m))) (λ v. store_effect k (calls_in a) target (Called call)) g flow (state a c.locals) (state a c.locals) (behind a c.locals) (behind a c.locals) goes goes
            (λ x s h. h) (λ v r s h d. element_is a (calls_in a) target (Called call) e target.index some s d) (λ w x s h. h) (λ w s c. refl) B5;
      })

  -- ---- a declaration

  pub done_set : (n0 n1 n2 : Unrolled) (s0 s1 : State) (o : Objects) (x : ℕ) (call : TCall) (g : Guard) (t : SizedTerm) (f : Flow) → f ≡ flow_at Next g → slot_length a.pair.now.program (Local x) ≡ 0 →
      MayRun a n0 s0 g (λ c. FitsDeclare c x (Called call)) → IsReceived a n0 n1 s0 s1 (slot_type a.pair.now.program (Local x)) call g t → IsPut n1 n2 s1.objects o (Local x) 0 t g →
      (line : ℕ) (c : Scope) → is_in a c → FitsDeclare c x (Called call) → IsDone a n0 n2 s0 (with_objects s1 o) g f c.locals (x ∷ c.locals) (declare_effect (setting_of a) (calls_in a) line x (Called call))
  done_set n0 n1 n2 s0 s1 o x call g t f is plain M V P line c inside fits =
      let w = slot_type a.pair.now.program (Local x) in
      let there = local_there a M.scope x (Called call) M.program M.fits in
      let all = grows_then n0.terms n1.terms n2.terms V.grows (grows_adds n1 n2 P.adds) in
      let H = put_has a.pair.now.program n1 n2 s1.objects o (Local x) 0 t g V.width P V.objects in
      let one : length (terms_of o (Local x)) ≡ 1 = H.count (Local x) there ∙ ap element_count plain in
      subst (λ (f : Flow). IsDone a n0 n2 s0 (with_objects s1 o) g f c.locals (x ∷ c.locals) (declare_effect (setting_of a) (calls_in a) line x (Called call))) (sym is) (record {
        grows = all;
        objects = H;
        result = λ h. subst (HasResult (result_in a) n2.terms) (sym V.outer) (grown_result a n0.terms n2.terms s0.result all h);
        flow = next_flow a n2.terms g (grown_guard a n0 n2 g all M.guard);
        does =
            let next : ℤ → JointState → JointState = λ n s. with_store s (put s.store (Local x) 0 n) in
            let C = declares a c.locals x n1 n2 s1 o t g (some_terms a.pair.now.program n1.terms s1.objects (Local x) V.objects there) one P in
            let B = changed (fixed a) n1 n2 s1 (with_objects s1 o) Next g (state a c.locals) (state a (x ∷ c.locals)) (λ v s. next (stands w v t) s) (λ v s. seen (Stored line (Local x) None (stands w v t))) (behind a (x ∷ c.locals)) (λ v s. refl) (stays a (x ∷ c.locals)) C in
            let D = receive (fixed a) n0 n1 n2 s0 s1 (with_objects s1 o) w (λ s choices go. with_init (setting_of a) (calls_in a) w (Called call) s choices go) (λ v. store_at line (Local x) None) g t (flow_at Next g) (state a c.locals) (state a c.locals) (behind a (x ∷ c.locals)) goes
            (V.receives c inside (init_fits a c x (Called call) inside plain fits).0) B in
            unwinds_as (fixed a) n0 n2 s0 (with_objects s1 o) (λ v s c. with_init (setting_of a) (calls_in a) w (Called call) s c (store_at line (Local x) None)) (λ v. declare_effect (setting_of a) (calls_in a) line x (Called call)) g (flow_at Next g) (state a c.locals) (state a c.locals) (behind a (x ∷ c.locals)) (behind a (x ∷ c.locals)) goes goes
            (λ x s h. h) (λ v r s h d. declare_is a (calls_in a) line x (Called call) fits.0 s d (local_found a c x (Called call) inside fits) plain) (λ w x s h. h) (λ w s c. refl) D;
      })
