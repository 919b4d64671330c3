-- Declarations of locals.
use Rattle.std.proofs.Common.{◌≡◌, ℕ, zero, suc, ◌<◌, List, [], ◌∷◌, length, Some, None, true, refl, sym, ap, ◌∙◌, subst, arith}
use Rattle.std.specs.Prelude.{ℤ, slice_get}
use Rattle.std.proofs.lemmas.List.{length-map}
use Rattle.word_eqs.specs.declared.term.TermId.{TermId}
use Rattle.joint_ir.specs.declared.ctype.IntType.{IntType}
use Rattle.joint_ir.specs.declared.event.Event.TheVariants.{Stored}
use Rattle.joint_ir.specs.declared.expr.Slot.TheVariants.{Local}
use Rattle.joint_ir.specs.declared.program.CProgram.{CProgram}
use Rattle.joint_ir.specs.declared.program.Var.{Var}
use Rattle.joint_ir.specs.declared.stmt.TInit.{TInit}
use Rattle.joint_ir.specs.declared.way.Way.TheVariants.{Next}
use Rattle.joint_ir.specs.Effects.{seen}
use Rattle.joint_ir.specs.States.{JointState, element_count, put}
use Rattle.joint_ir.specs.Steps.{Calls, var_type, slot_type, store_at, with_store, with_init, declare_object, declare_var, declare_effect}
use Rattle.joint_ir.specs.Types.{IsType}
use Rattle.joint_ir.specs.Weights.{var_length, slot_length}
use Rattle.joint_ir.specs.WellFormed.{Scope, FitsInit, FitsObject, FitsDeclare}
use Rattle.sized_terms.specs.declared.SizedTerm.{SizedTerm}
use Rattle.checked_terms.specs.Checked.{stands}
use Rattle.unrolled.specs.declared.Objects.{Objects}
use Rattle.unrolled.specs.declared.Unrolled.{Unrolled}
use Rattle.unrolled.specs.Elements.{terms_of}
use Rattle.trails.specs.Following.{goes}
use Rattle.unwind_state.specs.declared.state.Flow.{Flow}
use Rattle.unwind_state.specs.declared.state.Guard.{Guard}
use Rattle.unwind_state.specs.declared.state.State.{State}
use Rattle.unwind_state.specs.Guards.{flow_at}
use Rattle.unwind_state.specs.Images.{words_at, look}
use Rattle.unwind_state.specs.Unwinding.{Changes}
use Rattle.unwind_state.specs.Writing.{IsThere, IsPut, with_objects}
use Rattle.unwind_state.proofs.Pieces.{changed}
use Rattle.unwind_state.proofs.Stretches.{unwinds_as}
use Rattle.unwind_state.proofs.Puts.{put_has}
use Rattle.unwind_state.proofs.Firsts.{first_changes, firsts_none, firsts_all, local_words}
use Rattle.unwind_simple.specs.declared.simple.Activation.{Activation}
use Rattle.unwind_simple.specs.Simple.{setting_of, is_in, IsDone, MayRun, calls_in}
use Rattle.unwind_simple.proofs.Statements.{fixed, state, behind, stays, grown_guard, grown_objects, grown_result, next_flow}
use Rattle.unwind_simple.proofs.Types.{has_types}
use Rattle.unwind_simple.specs.Obtaining.{IsObtained}
use Rattle.unwind_simple.proofs.Obtaining.{obtain}
use Rattle.unwind_stores.proofs.Answered.{grows_then, grows_adds}
use Rattle.unwind_stores.proofs.Rows.{some_terms}

-- what is found stands within a list
pub found_within : (vars : List Var) (i : ℕ) (x : Var) → slice_get vars i ≡ Some x → i < length vars
found_within [] zero x e = let d : None ≡ Some x = e in cc
found_within [] (suc i) x e = let d : None ≡ Some x = e in cc
found_within (y ∷ vars) zero x e = omega arith
found_within (y ∷ vars) (suc i) x e = let h = found_within vars i x e in omega arith

module _ (a : Activation) where
  -- a declared local in the program that is unwound
  pub local_found : (c : Scope) (x : ℕ) (init : TInit) → is_in a c → (fits : FitsDeclare c x init) → slice_get a.pair.now.program.locals x ≡ Some fits.0
  local_found c x init inside fits = ap (λ (p : CProgram). slice_get p.locals x) (sym inside.0) ∙ fits.1

  pub local_there : (c : Scope) (x : ℕ) (init : TInit) → is_in a c → FitsDeclare c x init → IsThere a.pair.now.program (Local x)
  local_there c x init inside fits = found_within a.pair.now.program.locals x fits.0 (local_found c x init inside fits)

  -- what a local that is no array is set to
  pub init_fits : (c : Scope) (x : ℕ) (init : TInit) → is_in a c → slot_length a.pair.now.program (Local x) ≡ 0 → FitsDeclare c x init → FitsInit c true (slot_type a.pair.now.program (Local x)) init
  init_fits c x init inside plain fits =
      let at = local_found c x init inside fits in
      let len : fits.0.length ≡ 0 = sym (ap var_length at) ∙ plain in
      subst (λ (t : IntType). FitsInit c true t init) (sym (ap var_type at)) (subst (λ n. FitsObject c fits.0.ty n init) len fits.2)

  pub init_may : (n : Unrolled) (st : State) (x : ℕ) (init : TInit) (g : Guard) (ty : IntType) → ty ≡ slot_type a.pair.now.program (Local x) → slot_length a.pair.now.program (Local x) ≡ 0 → MayRun a n st g (λ c. FitsDeclare c x init) → MayRun a n st g (λ c. FitsInit c true ty init)
  init_may n st x init g ty is plain M =
      record { well = M.well; scope = M.scope; program = M.program; fits = subst (λ (t : IntType). FitsInit M.scope true t init) (sym is) (init_fits M.scope x init M.program plain M.fits); objects = M.objects; result = M.result; guard = M.guard }

  pub local_typed : (n : Unrolled) (st : State) (x : ℕ) (init : TInit) (g : Guard) (ty : IntType) → ty ≡ slot_type a.pair.now.program (Local x) → MayRun a n st g (λ c. FitsDeclare c x init) → IsType ty
  local_typed n st x init g ty is M = subst IsType (sym is) (has_types a.pair.now M.well (Local x) (local_there M.scope x init M.program M.fits))

  pub declare_is : (calls : Calls) (line x : ℕ) (init : TInit) (var : Var) (s : JointState) (c : List ℕ) → slice_get a.pair.now.program.locals x ≡ Some var → slot_length a.pair.now.program (Local x) ≡ 0 →
      with_init (setting_of a) calls (slot_type a.pair.now.program (Local x)) init s c (store_at line (Local x) None) ≡ declare_effect (setting_of a) calls line x init s c
  declare_is calls line x init var s c at plain =
      let len : var.length ≡ 0 = sym (ap var_length at) ∙ plain in
      ap (λ (t : IntType). with_init (setting_of a) calls t init s c (store_at line (Local x) None)) (ap var_type at) ∙ ap (λ n. declare_object (setting_of a) calls line x var.ty n init s c) (sym len)
      ∙ ap (λ o. declare_var (setting_of a) calls line x o init s c) (sym at)

  -- a local's one element takes a value, and it is declared
  pub declares : (visible : List ℕ) (x : ℕ) (n0 n1 : Unrolled) (st : State) (o : Objects) (value : SizedTerm) (g : Guard) → 0 < length (terms_of st.objects (Local x)) → length (terms_of o (Local x)) ≡ 1 → IsPut n0 n1 st.objects o (Local x) 0 value g →
      Changes (fixed a) n0 n1 st (with_objects st o) g (state a visible) (state a (x ∷ visible)) (λ v s. with_store s (put s.store (Local x) 0 (stands (slot_type a.pair.now.program (Local x)) v value)))
  declares visible x n0 n1 st o value g some one P =
      let C = first_changes a.pair.now visible x n0 n1 st o 0 value g some P in
      record {
        grown = C.grown;
        list = C.list;
        settled = C.settled;
        kept = C.kept;
        changed = λ v r e im s h.
            let len : length (words_at (look v (with_objects st o)).locals x) ≡ 1 = ap length (local_words v (with_objects st o) x) ∙ length-map (terms_of o (Local x)) (λ (u : TermId). (v.term u.0).value) ∙ one in
            firsts_all a.pair.now visible x 1 (look v (with_objects st o)) _ len (C.changed v r e im s (firsts_none a.pair.now visible x (look v st) s h));
      }

  pub done_declare : (n0 n1 n2 : Unrolled) (st : State) (o : Objects) (x : ℕ) (init : TInit) (g : Guard) (t : SizedTerm) (ty : IntType) (f : Flow) → f ≡ flow_at Next g → ty ≡ slot_type a.pair.now.program (Local x) → slot_length a.pair.now.program (Local x) ≡ 0 →
      MayRun a n0 st g (λ c. FitsDeclare c x init) → IsObtained a n0 n1 st ty init g t → IsPut n1 n2 st.objects o (Local x) 0 t g →
      (line : ℕ) (c : Scope) → is_in a c → FitsDeclare c x init → IsDone a n0 n2 st (with_objects st o) g f c.locals (x ∷ c.locals) (declare_effect (setting_of a) (calls_in a) line x init)
  done_declare n0 n1 n2 st o x init g t ty f is is_ty plain M I' P line c inside fits =
      let w = slot_type a.pair.now.program (Local x) in
      let I : IsObtained a n0 n1 st w init g t = subst (λ (u : IntType). IsObtained a n0 n1 st u init g t) is_ty I' in
      let there = local_there M.scope x init M.program M.fits in
      let all = grows_then n0.terms n1.terms n2.terms I.grows (grows_adds n1 n2 P.adds) in
      let H = put_has a.pair.now.program n1 n2 st.objects o (Local x) 0 t g I.width P (grown_objects a n0 n1 st.objects I.grows M.objects) in
      let one : length (terms_of o (Local x)) ≡ 1 = H.count (Local x) there ∙ ap element_count plain in
      let flow = flow_at Next g in
      subst (λ (f : Flow). IsDone a n0 n2 st (with_objects st o) g f c.locals (x ∷ c.locals) (declare_effect (setting_of a) (calls_in a) line x init)) (sym is) (record {
        grows = all;
        objects = H;
        result = grown_result a n0.terms n2.terms st.result all;
        flow = next_flow a n2.terms g (grown_guard a n0 n2 g all M.guard);
        does =
            let next : ℤ → JointState → JointState = λ n s. with_store s (put s.store (Local x) 0 n) in
            let C = declares c.locals x n1 n2 st o t g (some_terms a.pair.now.program n0.terms st.objects (Local x) M.objects there) one P in
            let B = changed (fixed a) n1 n2 st (with_objects st o) Next g (state a c.locals) (state a (x ∷ c.locals)) (λ v s. next (stands w v t) s) (λ v s. seen (Stored line (Local x) None (stands w v t))) (behind a (x ∷ c.locals)) (λ v s. refl) (stays a (x ∷ c.locals)) C in
            let D = obtain (fixed a) n0 n1 n2 st (with_objects st o) w (λ s choices go. with_init (setting_of a) (calls_in a) w init s choices go) (store_at line (Local x) None) g t flow (state a c.locals) (behind a (x ∷ c.locals)) goes
            (I.obtains c inside (init_fits c x init inside plain fits)) B in
            unwinds_as (fixed a) n0 n2 st (with_objects st o) (λ v s c. with_init (setting_of a) (calls_in a) w init s c (store_at line (Local x) None)) (λ v. declare_effect (setting_of a) (calls_in a) line x init) g flow (state a c.locals) (state a c.locals) (behind a (x ∷ c.locals)) (behind a (x ∷ c.locals)) goes goes
            (λ x s h. h) (λ v r s h d. declare_is (calls_in a) line x init fits.0 s d (local_found c x init inside fits) plain) (λ w x s h. h) (λ w s c. refl) D;
      })
