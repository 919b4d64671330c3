-- Declarations of arrays, element by element.
use Rattle.std.proofs.Common.{◌≡◌, ℕ, zero, suc, ◌+◌, ◌<◌, ◌≤◌, ◌^◌, List, [], ◌∷◌, length, drop, Option, Some, None, false, true, refl, sym, ap, ◌∙◌, subst, append-nil, arith}
use Rattle.std.specs.Prelude.{ℤ, pos, slice_get, All}
use Rattle.std.proofs.lemmas.List.Elements.{All-head, All-tail}
use Rattle.std.proofs.lemmas.List.{length-map}
use Rattle.word_eqs.specs.declared.term.TermId.{TermId}
use Rattle.word_eqs.specs.Graph.{IsGraph}
use Rattle.word_eqs.specs.Meaning.{Values, Respects}
use Rattle.joint_ir.specs.declared.ctype.IntType.{IntType}
use Rattle.joint_ir.specs.declared.event.Event.TheVariants.{Stored}
use Rattle.joint_ir.specs.declared.expr.Slot.TheVariants.{Local}
use Rattle.joint_ir.specs.declared.expr.TExpr.{TExpr}
use Rattle.joint_ir.specs.declared.pair.Pair.{Pair}
use Rattle.joint_ir.specs.declared.program.Var.{Var}
use Rattle.joint_ir.specs.declared.stmt.TInit.{TInit}
use Rattle.joint_ir.specs.declared.stmt.TInit.TheVariants.{Free, Values as Exprs, Called}
use Rattle.joint_ir.specs.declared.way.Way.{Way}
use Rattle.joint_ir.specs.declared.way.Way.TheVariants.{Next}
use Rattle.joint_ir.specs.Effects.{Effect, Told, Onward, nothing, seen, Goes, preceded, with_value}
use Rattle.joint_ir.specs.States.{JointState, element_count, put}
use Rattle.joint_ir.specs.Steps.{Setting, Calls, rows_in, slot_type, var_type, first_value, set_elements, store_at, with_store, declare_object, declare_var, declare_effect}
use Rattle.joint_ir.specs.Types.{IsType, converted}
use Rattle.joint_ir.specs.Values.{Answer, Value, value_of}
use Rattle.joint_ir.specs.Weights.{var_length, slot_length}
use Rattle.joint_ir.specs.WellFormed.{Scope, FitsAs, FitsExpr, FitsElements, FitsObject, FitsDeclare}
use Rattle.sized_terms.specs.declared.SizedTerm.{SizedTerm}
use Rattle.sized_terms.specs.Sized.{Has, bits}
use Rattle.checked_terms.specs.Checked.{stands}
use Rattle.unrolled.specs.declared.Objects.{Objects}
use Rattle.unrolled.specs.declared.Unrolled.{Unrolled}
use Rattle.unrolled.specs.Elements.{terms_of}
use Rattle.trails.specs.Following.{goes}
use Rattle.unwind_state.specs.declared.state.Flow.{Flow}
use Rattle.unwind_state.specs.declared.state.Guard.{Guard}
use Rattle.unwind_state.specs.declared.state.State.{State}
use Rattle.unwind_state.specs.Guards.{HasGuard, flow_at}
use Rattle.unwind_state.specs.Images.{Image, words_at, look, IsState, IsSettled}
use Rattle.unwind_state.specs.Unwinding.{Grows, Asks, Unwinds, IsDrawn, Changes}
use Rattle.unwind_state.specs.Writing.{HasObjects, HasResult, IsThere, IsPut, with_objects}
use Rattle.unwind_state.proofs.Gates.{adds_none}
use Rattle.unwind_state.proofs.Stretches.{unwinds_as, begun}
use Rattle.unwind_state.proofs.Sequences.{seq, changed_then, begun_at}
use Rattle.unwind_state.proofs.Puts.{put_has}
use Rattle.unwind_state.proofs.Firsts.{HasFirsts, first_changes, firsts_none, firsts_all, local_words}
use Rattle.unwind_simple.specs.declared.simple.Activation.{Activation}
use Rattle.unwind_simple.specs.Obtaining.{Obtains}
use Rattle.unwind_simple.specs.Simple.{setting_of, is_in, calls_in, result_in, IsValued, IsDone, MayRun}
use Rattle.unwind_simple.proofs.Obtaining.{drawn_number, obtain, obtains_as, obtains_asked, obtains_drawn}
use Rattle.unwind_simple.proofs.Statements.{fixed, state, behind, stays, grown_guard, grown_objects, grown_result, next_flow}
use Rattle.unwind_stores.specs.Stores.{IsNumber}
use Rattle.unwind_stores.specs.Arrays.{HasElements, element_run, left_over, IsElement, IsSetAt}
use Rattle.unwind_stores.proofs.Answered.{grows_none, grows_then, grows_adds}
use Rattle.unwind_stores.proofs.Declared.{local_found, local_there}

-- what is left of a list

rest_of : List TExpr → List TExpr
rest_of [] = []
rest_of (e ∷ es) = es

drop_rest : (es : List TExpr) (i : ℕ) → drop (suc i) es ≡ rest_of (drop i es)
unfolding rest_of
drop_rest [] zero = refl
drop_rest [] (suc i) = refl
drop_rest (e ∷ es) zero = refl
drop_rest (e ∷ es) (suc i) = drop_rest es i

drop_next : (es : List TExpr) (i : ℕ) → drop (i + 1) es ≡ rest_of (drop i es)
drop_next es i = let e : i + 1 ≡ suc i = omega arith in ap (λ j. drop j es) e ∙ drop_rest es i

-- one element, and what is left behind it

set_step : (k : Setting) (line x n i : ℕ) (es rest : List TExpr) (s : JointState) (c : List ℕ) → rest ≡ rest_of es →
    set_elements k line x (suc n) i es s c
    ≡ with_value (first_value (rows_in k s) es) c (λ m. preceded (seen (Stored line (Local x) (Some i) m)) (set_elements k line x n (i + 1) rest (with_store s (put s.store (Local x) i m)) c))
unfolding rest_of
set_step k line x n i [] rest s c e = ap (λ l. preceded (seen (Stored line (Local x) (Some i) (pos 0))) (set_elements k line x n (i + 1) l (with_store s (put s.store (Local x) i (pos 0))) c)) (sym e)
set_step k line x n i (y ∷ es) rest s c e =
    ap (λ l. with_value (value_of (rows_in k s) y) c (λ m. preceded (seen (Stored line (Local x) (Some i) m)) (set_elements k line x n (i + 1) l (with_store s (put s.store (Local x) i m)) c))) (sym e)

-- what goes on with an element's value
abbrev pub placed : Setting → (line x : ℕ) → IntType → TInit → (n place : ℕ) → ℤ → Onward
placed k line x t init n i m s c = preceded (seen (Stored line (Local x) (Some i) m)) (left_over k line x t init n (i + 1) (with_store s (put s.store (Local x) i m)) c)

left_step : (k : Setting) (line x : ℕ) (t : IntType) (init : TInit) (n i : ℕ) → ((call : _) → init ≡ Called call → ⊥) → (s : JointState) (c : List ℕ) → element_run k t init i s c (placed k line x t init n i) ≡ left_over k line x t init (suc n) i s c
left_step k line x t Free n i isnt s c = refl
left_step k line x t (Exprs es) n i isnt s c = sym (set_step k line x n i (drop i es) (drop (i + 1) es) s c (drop_next es i))
left_step k line x t (Called call) n i isnt s c = absurd (isnt call refl)

-- the end of a declaration
left_none : (k : Setting) (line x : ℕ) (t : IntType) (init : TInit) (i : ℕ) (s : JointState) (c : List ℕ) → goes Next s c ≡ left_over k line x t init 0 i s c
left_none k line x t Free i s c = refl
left_none k line x t (Exprs es) i s c = refl
left_none k line x t (Called call) i s c = refl

-- its beginning
left_all : (k : Setting) (calls : Calls) (line x : ℕ) (t : IntType) (init : TInit) (n : ℕ) → 0 < n → (s : JointState) (c : List ℕ) → left_over k line x t init n 0 s c ≡ declare_object k calls line x t n init s c
left_all k calls line x t init zero some s c = absurd (omega arith)
left_all k calls line x t Free (suc n) some s c = refl
left_all k calls line x t (Exprs es) (suc n) some s c = refl
left_all k calls line x t (Called call) (suc n) some s c = refl

to_firsts : (p : Pair) (visible : List ℕ) (x k : ℕ) (im : Image) (s : JointState) → HasElements p visible x k im s → HasFirsts p visible x k im s
to_firsts p visible x k im s h = record { state = h.state; firsts = h.firsts }

of_firsts : (p : Pair) (visible : List ℕ) (x k : ℕ) (im : Image) (s : JointState) → HasFirsts p visible x k im s → HasElements p visible x k im s
of_firsts p visible x k im s h = record { state = h.state; firsts = h.firsts }

-- an element of a local takes its value
element_changes : (p : Pair) (visible : List ℕ) (x : ℕ) (n0 n1 : Unrolled) (st : State) (o : Objects) (k : ℕ) (value : SizedTerm) (g : Guard) → k < length (terms_of st.objects (Local x)) → IsPut n0 n1 st.objects o (Local x) k value g →
    Changes (IsSettled p) n0 n1 st (with_objects st o) g (HasElements p visible x k) (HasElements p visible x (k + 1)) (λ v q. with_store q (put q.store (Local x) k (stands (slot_type p.program (Local x)) v value)))
element_changes p visible x n0 n1 st o k value g lt P =
    let C = first_changes p visible x n0 n1 st o k value g lt P in
    record {
      grown = C.grown;
      list = C.list;
      settled = C.settled;
      kept = C.kept;
      changed = λ v r e im s h. of_firsts p visible x (k + 1) (look v (with_objects st o)) _ (C.changed v r e im s (to_firsts p visible x k (look v st) s h));
    }

module _ (a : Activation) where
  abbrev pub elements : List ℕ → (x k : ℕ) → Image → JointState → Type 0
  elements visible x k = HasElements a.pair.now visible x k

  abbrev pub type_of : ℕ → IntType
  type_of x = slot_type a.pair.now.program (Local x)

  -- an array is not set to a call's result
  no_call : (c : Scope) (x : ℕ) (init : TInit) → is_in a c → 0 < slot_length a.pair.now.program (Local x) → FitsDeclare c x init → (call : _) → init ≡ Called call → ⊥
  no_call c x init inside some fits call is =
      let at = local_found a c x init inside fits in
      by_length fits.0.length (subst (λ n. 0 < n) (ap var_length at) some) (subst (FitsObject c fits.0.ty fits.0.length) is fits.2)
    where
      by_length : (n : ℕ) → 0 < n → FitsObject c fits.0.ty n (Called call) → ⊥
      by_length zero h f = absurd (omega arith)
      by_length (suc n) h f = f

  -- values of elements

  pub element_free : (n0 n1 : Unrolled) (st : State) (x : ℕ) (ty : IntType) (init : TInit) (i : ℕ) (g : Guard) (t : SizedTerm) → init ≡ Free → IsType ty → IsDrawn n0 n1 ty.bits g t → IsElement a n0 n1 st x ty init i g t
  element_free n0 n1 st x ty init i g t is type D =
      subst (λ (j : TInit). IsElement a n0 n1 st x ty j i g t) (sym is) (record {
        grows = D.pushed.grows;
        has = D.has;
        width = D.width;
        obtains = λ c inside fits.
            obtains_drawn (fixed a) n0 n1 n1 st ty ty.bits (λ m. converted ty (pos m)) (λ m s. s) g t t (elements c.locals x i) D (adds_none n1 D.pushed.grows.proper)
            (λ v r lt. sym (drawn_number ty type (bits v t) lt)) (λ n im s h. h);
      })

  some_at : (es : List TExpr) (i : ℕ) (e : TExpr) → drop i es ≡ e ∷ drop (i + 1) es → (rows : _) → first_value rows (drop i es) ≡ value_of rows e
  some_at es i e is rows = ap (first_value rows) is

  asks_elements : (n0 n1 : Unrolled) (st : State) (x i : ℕ) (ty : IntType) (answer : JointState → Answer) (g : Guard) (t : SizedTerm) (visible : List ℕ) → Asks (fixed a) n0 n1 st ty answer g t (state a visible) → Asks (fixed a) n0 n1 st ty answer g t (elements visible x i)
  asks_elements n0 n1 st x i ty answer g t visible A = record { grown = A.grown; more = A.more; list = A.list; idle = A.idle; live = λ v r l q s h. A.live v r l q s h.state }

  pub element_some : (n0 n1 : Unrolled) (st : State) (x : ℕ) (ty : IntType) (init : TInit) (es : List TExpr) (e : TExpr) (i : ℕ) (g : Guard) (t : SizedTerm) → init ≡ Exprs es → drop i es ≡ e ∷ drop (i + 1) es → e.ty ≡ ty →
      ((c : Scope) → is_in a c → FitsDeclare c x (Exprs es) → FitsExpr c e) → IsValued a n0 n1 st e g t → IsElement a n0 n1 st x ty init i g t
  element_some n0 n1 st x ty init es e i g t is at same fits_e V =
      subst (λ (j : TInit). IsElement a n0 n1 st x ty j i g t) (sym is) (record {
        grows = V.grows;
        has = V.has;
        width = V.width ∙ ap (λ (u : IntType). u.bits) same;
        obtains = λ c inside fits.
            let k = setting_of a in
            let A : Asks (fixed a) n0 n1 st ty (λ s. value_of (rows_in k s) e) g t (state a c.locals) =
            subst (λ (u : IntType). Asks (fixed a) n0 n1 st u (λ s. value_of (rows_in k s) e) g t (state a c.locals)) same (V.asks c inside (fits_e c inside fits)) in
            obtains_as (fixed a) n0 n1 st ty (λ s c go. with_value (value_of (rows_in k s) e) c (λ m. go m s c)) (element_run k ty (Exprs es) i) g t (elements c.locals x i)
            (λ s d go. ap (λ z. with_value z d (λ m. go m s d)) (sym (some_at es i e at (rows_in k s))))
            (obtains_asked (fixed a) n0 n1 st ty (λ s. value_of (rows_in k s) e) g t (elements c.locals x i) (asks_elements n0 n1 st x i ty (λ s. value_of (rows_in k s) e) g t c.locals A));
      })

  pub element_none : (n0 n1 : Unrolled) (st : State) (x : ℕ) (ty : IntType) (init : TInit) (es : List TExpr) (i : ℕ) (g : Guard) (t : SizedTerm) → init ≡ Exprs es → drop i es ≡ [] → IsNumber n0 n1 ty t (λ v. pos 0) → IsElement a n0 n1 st x ty init i g t
  element_none n0 n1 st x ty init es i g t is at N =
      subst (λ (j : TInit). IsElement a n0 n1 st x ty j i g t) (sym is) (record {
        grows = grows_adds n0 n1 N.adds;
        has = N.has;
        width = N.width;
        obtains = λ c inside fits.
            let k = setting_of a in
            let A : Asks (fixed a) n0 n1 st ty (λ s. Value (pos 0)) g t (elements c.locals x i) = record {
              grown = N.adds.grown;
              more = [];
              list = N.adds.list ∙ sym (append-nil n0.list);
              idle = λ v r o q. refl;
              live = λ v r l q s h. (refl, N.value v r);
            } in
            obtains_as (fixed a) n0 n1 st ty (λ s c go. with_value (Value (pos 0)) c (λ m. go m s c)) (element_run k ty (Exprs es) i) g t (elements c.locals x i)
            (λ s d go. ap (λ l. with_value (first_value (rows_in k s) l) d (λ m. go m s d)) (sym at)) (obtains_asked (fixed a) n0 n1 st ty (λ s. Value (pos 0)) g t (elements c.locals x i) A);
      })

  -- an element takes its value
  pub done_element : (n0 n1 n2 : Unrolled) (st : State) (o : Objects) (x : ℕ) (init : TInit) (i : ℕ) (g : Guard) (t : SizedTerm) (ty : IntType) → ty ≡ type_of x → i < length (terms_of st.objects (Local x)) → 0 < slot_length a.pair.now.program (Local x) →
      MayRun a n0 st g (λ c. FitsDeclare c x init) → IsElement a n0 n1 st x ty init i g t → IsPut n1 n2 st.objects o (Local x) i t g → IsSetAt a n0 n2 st (with_objects st o) x init i g
  done_element n0 n1 n2 st o x init i g t ty is lt some M E' P =
      let w = type_of x in
      let E : IsElement a n0 n1 st x w init i g t = subst (λ (u : IntType). IsElement a n0 n1 st x u init i g t) is E' in
      let all = grows_then n0.terms n1.terms n2.terms E.grows (grows_adds n1 n2 P.adds) in
      record {
        grows = all;
        objects = put_has a.pair.now.program n1 n2 st.objects o (Local x) i t g E.width P (grown_objects a n0 n1 st.objects E.grows M.objects);
        result = grown_result a n0.terms n2.terms st.result all;
        does = λ c inside fits line n.
            let k = setting_of a in
            let next : ℤ → JointState → JointState = λ m s. with_store s (put s.store (Local x) i m) in
            let go : Onward = left_over k line x w init n (i + 1) in
            let C = element_changes a.pair.now c.locals x n1 n2 st o i t g lt P in
            let B = changed_then (fixed a) n1 n2 st (with_objects st o) g (elements c.locals x i) (elements c.locals x (i + 1)) (λ v s. next (stands w v t) s) (λ v s. seen (Stored line (Local x) (Some i) (stands w v t))) go (λ v s. refl) C in
            let D = obtain (fixed a) n0 n1 n2 st (with_objects st o) w (element_run k w init i) (placed k line x w init n i) g t (flow_at Next g) (elements c.locals x i) (λ way. elements c.locals x (i + 1)) (λ way. go) (E.obtains c inside fits) B in
            unwinds_as (fixed a) n0 n2 st (with_objects st o) (λ v s d. element_run k w init i s d (placed k line x w init n i)) (λ v. left_over k line x w init (suc n) i) g (flow_at Next g) (elements c.locals x i) (elements c.locals x i) (λ way. elements c.locals x (i + 1)) (λ way. elements c.locals x (i + 1)) (λ way. go) (λ way. go)
            (λ y s h. h) (λ v r s h d. left_step k line x w init n i (no_call c x init inside some fits) s d) (λ way y s h. h) (λ way s d. refl) D;
      }

-- the elements before a place have their values
pub record ElementsSet (a : Activation) (n0 n : Unrolled) (s0 s : State) (x : ℕ) (init : TInit) (g : Guard) (i : ℕ) : Type 0 where
  pub grows : Grows n0.terms n.terms
  pub objects : HasObjects a.pair.now.program n.terms s.objects
  pub result : HasResult (result_in a) n0.terms s0.result → HasResult (result_in a) n.terms s.result
  pub does : (c : Scope) → is_in a c → FitsDeclare c x init → (line left : ℕ) → i + left ≡ slot_length a.pair.now.program (Local x) →
      Unwinds (fixed a) n0 n s0 s (λ v. left_over (setting_of a) line x (type_of a x) init (slot_length a.pair.now.program (Local x)) 0) g (flow_at Next g) (state a c.locals) (λ way. elements a c.locals x i)
      (λ way. left_over (setting_of a) line x (type_of a x) init left i)

count_some : (n : ℕ) → 0 < n → element_count n ≡ n
count_some zero h = absurd (omega arith)
count_some (suc n) h = refl

all_drop : (P : TExpr → Type 0) (es : List TExpr) (i : ℕ) (e : TExpr) (rest : List TExpr) → All P es → drop i es ≡ e ∷ rest → P e
all_drop P [] zero e rest h q = let d : [] ≡ e ∷ rest = q in cc
all_drop P [] (suc i) e rest h q = let d : [] ≡ e ∷ rest = q in cc
all_drop P (y ∷ es) zero e rest h q = let d : y ∷ es ≡ e ∷ rest = q in let same : y ≡ e = cc in subst P same (All-head P y es h)
all_drop P (y ∷ es) (suc i) e rest h q = all_drop P es i e rest (All-tail P y es h) q

module _ (a : Activation) where
  -- the expression of an element
  pub element_fits : (c : Scope) (x : ℕ) (es : List TExpr) (i : ℕ) (e : TExpr) → is_in a c → 0 < slot_length a.pair.now.program (Local x) → drop i es ≡ e ∷ drop (i + 1) es → FitsDeclare c x (Exprs es) → FitsAs c (type_of a x) e
  element_fits c x es i e inside some here fits =
      let at = local_found a c x (Exprs es) inside fits in
      by_length fits.0.length (subst (λ n. 0 < n) (ap var_length at) some) fits.2
    where
      by_length : (n : ℕ) → 0 < n → FitsObject c fits.0.ty n (Exprs es) → FitsAs c (type_of a x) e
      by_length zero h f = absurd (omega arith)
      by_length (suc n) h f =
          let at = local_found a c x (Exprs es) inside fits in
          subst (λ (t : IntType). FitsAs c t e) (sym (ap var_type at)) (all_drop (λ y. FitsAs c fits.0.ty y) es i e (drop (i + 1) es) f.1 here)

  pub set_first : (n : Unrolled) (st : State) (x : ℕ) (init : TInit) (g : Guard) → IsGraph n.terms → HasObjects a.pair.now.program n.terms st.objects → ElementsSet a n n st st x init g 0
  set_first n st x init g proper H = record {
    grows = grows_none n.terms proper;
    objects = H;
    result = λ h. h;
    does = λ c inside fits line left e.
        let q : left ≡ slot_length a.pair.now.program (Local x) = omega (arith, e) in
        subst (λ m. Unwinds (fixed a) n n st st (λ v. left_over (setting_of a) line x (type_of a x) init m 0) g (flow_at Next g) (state a c.locals) (λ way. elements a c.locals x 0) (λ way. left_over (setting_of a) line x (type_of a x) init left 0)) q
        (begun (fixed a) n st Next g (state a c.locals) (λ way. elements a c.locals x 0) (λ way. left_over (setting_of a) line x (type_of a x) init left 0)
        (λ y s h. of_firsts a.pair.now c.locals x 0 y s (firsts_none a.pair.now c.locals x y s h)));
  }

  pub set_next : (n0 n1 n2 : Unrolled) (s0 s1 s2 : State) (x : ℕ) (init : TInit) (g : Guard) (i : ℕ) → ElementsSet a n0 n1 s0 s1 x init g i → IsSetAt a n1 n2 s1 s2 x init i g → ElementsSet a n0 n2 s0 s2 x init g (i + 1)
  set_next n0 n1 n2 s0 s1 s2 x init g i S E = record {
    grows = grows_then n0.terms n1.terms n2.terms S.grows E.grows;
    objects = E.objects;
    result = λ h. E.result (S.result h);
    does = λ c inside fits line left e.
        let k = setting_of a in
        let q : i + suc left ≡ slot_length a.pair.now.program (Local x) = omega (arith, e) in
        seq (fixed a) n0 n1 n2 s0 s1 s2 (λ v. left_over k line x (type_of a x) init (slot_length a.pair.now.program (Local x)) 0) g (flow_at Next g) (state a c.locals) (elements a c.locals x i) (λ way. elements a c.locals x i) (λ way. elements a c.locals x (i + 1))
        (λ way. left_over k line x (type_of a x) init (suc left) i) (λ way. left_over k line x (type_of a x) init left (i + 1)) (λ y s h. h) (S.does c inside fits line (suc left) q) (E.does c inside fits line left);
  }

  pub done_array : (n0 n1 : Unrolled) (s0 s1 : State) (x : ℕ) (init : TInit) (g : Guard) (i : ℕ) (f : Flow) → f ≡ flow_at Next g → i ≡ slot_length a.pair.now.program (Local x) → 0 < slot_length a.pair.now.program (Local x) → MayRun a n0 s0 g (λ c. FitsDeclare c x init) →
      ElementsSet a n0 n1 s0 s1 x init g i → (line : ℕ) (c : Scope) → is_in a c → FitsDeclare c x init → IsDone a n0 n1 s0 s1 g f c.locals (x ∷ c.locals) (declare_effect (setting_of a) (calls_in a) line x init)
  done_array n0 n1 s0 s1 x init g i f is all some M S line c inside fits =
      let k = setting_of a in
      let l = slot_length a.pair.now.program (Local x) in
      let w = type_of a x in
      let flow = flow_at Next g in
      let at = local_found a c x init inside fits in
      let there = local_there a c x init inside fits in
      subst (λ (f : Flow). IsDone a n0 n1 s0 s1 g f c.locals (x ∷ c.locals) (declare_effect k (calls_in a) line x init)) (sym is) (record {
        grows = S.grows;
        objects = S.objects;
        result = S.result;
        flow = next_flow a n1.terms g (grown_guard a n0 n1 g S.grows M.guard);
        does =
            let q : i + 0 ≡ l = omega (arith, all) in
            let A = S.does c inside fits line 0 q in
            let E0 = begun_at (fixed a) n1 s1 Next g (elements a c.locals x i) (behind a (x ∷ c.locals)) goes
            (λ v s h.
            let len : length (words_at (look v s1).locals x) ≡ i = ap length (local_words v s1 x) ∙ length-map (terms_of s1.objects (Local x)) (λ (u : TermId). (v.term u.0).value) ∙ S.objects.count (Local x) there ∙ count_some l some ∙ sym all in
            stays a (x ∷ c.locals) (look v s1) s (firsts_all a.pair.now c.locals x i (look v s1) s len (to_firsts a.pair.now c.locals x i (look v s1) s h))) in
            let E1 = unwinds_as (fixed a) n1 n1 s1 s1 (λ v. goes Next) (λ v. left_over k line x w init 0 i) g flow (elements a c.locals x i) (elements a c.locals x i) (behind a (x ∷ c.locals)) (behind a (x ∷ c.locals)) goes goes
            (λ y s h. h) (λ v r s h d. left_none k line x w init i s d) (λ way y s h. h) (λ way s d. refl) E0 in
            let B = seq (fixed a) n0 n1 n1 s0 s1 s1 (λ v. left_over k line x w init l 0) g flow (state a c.locals) (elements a c.locals x i) (λ way. elements a c.locals x i) (behind a (x ∷ c.locals)) (λ way. left_over k line x w init 0 i) goes (λ y s h. h) A E1 in
            unwinds_as (fixed a) n0 n1 s0 s1 (λ v. left_over k line x w init l 0) (λ v. declare_effect k (calls_in a) line x init) g flow (state a c.locals) (state a c.locals) (behind a (x ∷ c.locals)) (behind a (x ∷ c.locals)) goes goes (λ y s h. h)
            (λ v r s h d.
            left_all k (calls_in a) line x w init l some s d ∙ ap (λ (u : IntType). declare_object k (calls_in a) line x u l init s d) (ap var_type at)
            ∙ ap (λ m. declare_object k (calls_in a) line x fits.0.ty m init s d) (ap var_length at) ∙ ap (λ o. declare_var k (calls_in a) line x o init s d) (sym at))
            (λ way y s h. h) (λ way s d. refl) B;
      })

  -- a place of an array has a term
  pub array_within : (n : Unrolled) (o : Objects) (x i : ℕ) → IsThere a.pair.now.program (Local x) → HasObjects a.pair.now.program n.terms o → i < slot_length a.pair.now.program (Local x) → i < length (terms_of o (Local x))
  array_within n o x i there H lt = subst (λ m. i < m) (sym (H.count (Local x) there ∙ count_some (slot_length a.pair.now.program (Local x)) (omega (arith, lt)))) lt
