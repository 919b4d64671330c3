-- Expressions and simple statements, from what their parts promise.
use Rattle.std.proofs.Common.{◌≡◌, ℕ, zero, suc, ◌-◌, ◌+◌, ◌<◌, ◌^◌, Bool, true, false, List, [], ◌++◌, map, Option, Some, None, refl, sym, ap, ◌∙◌, subst, arith}
use Rattle.std.specs.Prelude.{ℤ, pos, negsuc, nat_lt, slice_get, slice_index_or, if◌then◌else◌}
use Rattle.std.proofs.Math.ListN.{get_or-map}
use Rattle.std.proofs.lemmas.Simd.{map-map}
use Rattle.std.proofs.lemmas.Nat.{pow_pos}
use Rattle.std.proofs.lemmas.Bool.Decides.{nat_tests}
use Rattle.bits_core.specs.Word.{number, at_zero, read_signed}
use Rattle.word_eqs.specs.declared.list.Act.TheVariants.{Cut as CutAct, Prop}
use Rattle.word_eqs.specs.declared.list.Step.{Step}
use Rattle.word_eqs.specs.declared.term.TermId.{TermId}
use Rattle.word_eqs.specs.Graph.{Graph}
use Rattle.word_eqs.specs.Guarded.{walk}
use Rattle.word_eqs.specs.Meaning.{Values}
use Rattle.joint_ir.specs.declared.ctype.IntType.{IntType}
use Rattle.joint_ir.specs.declared.event.Outcome.TheVariants.{Cut}
use Rattle.joint_ir.specs.declared.expr.Slot.{Slot}
use Rattle.joint_ir.specs.declared.expr.Slot.TheVariants.{Global, Local, Member, BoundValue}
use Rattle.joint_ir.specs.declared.expr.TExpr.{TExpr}
use Rattle.joint_ir.specs.declared.program.CProgram.{CProgram}
use Rattle.joint_ir.specs.declared.program.PropId.{PropId}
use Rattle.joint_ir.specs.declared.way.Way.{Way}
use Rattle.joint_ir.specs.declared.way.Way.TheVariants.{Next, Breaking, Continuing, Returning}
use Rattle.joint_ir.specs.Effects.{Effect, Onward, nothing, Goes, Stops, broken}
use Rattle.joint_ir.specs.States.{JointState, element_count}
use Rattle.joint_ir.specs.Steps.{rows_in, slot_type}
use Rattle.joint_ir.specs.Values.{Answer, Value, Fault, value_of, is_zero}
use Rattle.joint_ir.specs.Weights.{slot_length}
use Rattle.joint_ir.specs.WellFormed.{Scope, FitsExpr, IsVisible, is_bound}
use Rattle.sized_terms.specs.declared.SizedTerm.{SizedTerm}
use Rattle.sized_terms.specs.Sized.{Has, bits}
use Rattle.unrolled.specs.declared.Objects.{Objects}
use Rattle.unrolled.specs.declared.Unrolled.{Unrolled}
use Rattle.unrolled.specs.Elements.{terms_of}
use Rattle.element_terms.specs.Elements.{sized}
use Rattle.expression_steps.specs.Asking as expr
use Rattle.expression_steps.specs.Objects.{AreObjects, StandFor, IsReady, AsksFor, numbers_of}
use Rattle.trails.specs.Following.{goes}
use Rattle.trails.specs.Trails.{trail}
use Rattle.trails.proofs.Walking.{passes_trail, stops_trail}
use Rattle.unwind_state.specs.declared.state.Flow.{Flow}
use Rattle.unwind_state.specs.declared.state.Guard.{Guard}
use Rattle.unwind_state.specs.declared.state.Guard.TheVariants.{Never, Always, When}
use Rattle.unwind_state.specs.declared.state.State.{State}
use Rattle.unwind_state.specs.Guards.{HasGuard, HasFlow, flow_at}
use Rattle.unwind_state.specs.Images.{Image, words, words_at, look, numbers, IsState, IsSettled, HasReturned, IsBehind}
use Rattle.unwind_state.specs.Unwinding.{Grows, IsTerm, Gives, IsPushed}
use Rattle.unwind_state.specs.Writing.{HasObjects, HasResult, IsThere}
use Rattle.unwind_state.proofs.Stretches.{unwinds_as}
use Rattle.unwind_state.proofs.Pieces.{isnt_zero, ask, asserted, assumed}
use Rattle.unwind_simple.specs.declared.simple.Activation.{Activation}
use Rattle.unwind_simple.specs.Simple.{setting_of, result_in, is_in, MayAsk, IsValued, IsDone, asserted_as, assumed_as}

-- what a number of a word says of the word

pub zero_number : (s : Bool) (w n : ℕ) → is_zero (number s w n) ≡ at_zero n true false
zero_number false w zero = refl
zero_number false w (suc n) = refl
zero_number true w zero = signed_zero (2 ^ w) (pow_pos w)
  where
    signed_zero : (m : ℕ) → 0 < m → is_zero (read_signed m 0) ≡ true
    signed_zero m some =
        let e : nat_lt (0 + 0) m ≡ true = grind (arith, nat_tests, some) in
        ap (λ b. is_zero (if b then pos 0 else negsuc (m - suc 0))) e
zero_number true w (suc n) = by_half (nat_lt (suc n + suc n) (2 ^ w))
  where
    by_half : (b : Bool) → is_zero (if b then pos (suc n) else negsuc (2 ^ w - suc (suc n))) ≡ false
    by_half true = refl
    by_half false = refl

by_zero : (n : ℕ) (x y : Effect) → (if isnt_zero n then x else y) ≡ (if at_zero n true false then y else x)
by_zero zero x y = refl
by_zero (suc n) x y = refl

-- a choice by a value's number, as one by its word
chosen_is : (ty : IntType) (n : ℕ) (x y : Effect) → (if isnt_zero n then x else y) ≡ (if is_zero (number ty.signed ty.bits n) then y else x)
chosen_is ty n x y = by_zero n x y ∙ ap (λ b. if b then y else x) (sym (zero_number ty.signed ty.bits n))

-- the objects that an expression sees

row_numbers : (v : Values) (rows : List (List TermId)) (i : ℕ) (t t' : IntType) → t ≡ t' → numbers_of (number t.signed t.bits) v (slice_index_or rows i []) ≡ numbers t' (words_at (map (words v) rows) i)
row_numbers v rows i t t' e =
    ap (λ (u : IntType). numbers_of (number u.signed u.bits) v (slice_index_or rows i [])) e
    ∙ sym (map-map (number t'.signed t'.bits) (λ (x : TermId). (v.term x.0).value) (slice_index_or rows i [])) ∙ ap (numbers t') (sym (get_or-map (words v) rows i []))

is_there : (c : Scope) (slot : Slot) → IsVisible c slot → is_bound slot ≡ false → IsThere c.program slot
is_there c (Global i) vis b = vis
is_there c (Local i) vis b = vis.0
is_there c (Member i) vis b = vis
is_there c BoundValue vis b = cc

module _ (a : Activation) where
  abbrev pub fixed : Image → Type 0
  fixed = IsSettled a.pair.now

  abbrev pub state : List ℕ → Image → JointState → Type 0
  state visible = IsState a.pair.now visible

  abbrev pub behind : List ℕ → Way → Image → JointState → Type 0
  behind visible = IsBehind a.pair.now visible (result_in a)

  -- behind a statement that returns nothing
  pub stays : (visible : List ℕ) (x : Image) (s : JointState) → state visible x s → behind visible Next x s
  stays visible x s h = record { state = h; returned = nothing_returned (result_in a) }
    where
      nothing_returned : (t : Option IntType) → HasReturned t Next x s
      nothing_returned None = tt
      nothing_returned (Some t) = tt

  pub there_in : (c : Scope) (slot : Slot) → is_in a c → IsVisible c slot → is_bound slot ≡ false → IsThere a.pair.now.program slot
  there_in c slot p vis b = subst (λ (q : CProgram). IsThere q slot) p.0 (is_there c slot vis b)

  pub objects_in : (c : Scope) (g : Graph) (o : Objects) → is_in a c → HasObjects a.pair.now.program g o → AreObjects c g o
  objects_in c g o p h = record {
    count = λ slot vis b. h.count slot (there_in c slot p vis b) ∙ ap (λ (q : CProgram). element_count (slot_length q slot)) (sym p.0);
    has = has;
  }
    where
      has : (slot : Slot) → IsVisible c slot → (k : ℕ) (t : TermId) → slice_get (terms_of o slot) k ≡ Some t → Has g (sized t (slot_type c.program slot).bits)
      has (Global i) vis k t at = subst (λ (q : CProgram). Has g (sized t (slot_type q (Global i)).bits)) (sym p.0) (h.has (Global i) (there_in c (Global i) p vis refl) k t at)
      has (Local i) vis k t at = subst (λ (q : CProgram). Has g (sized t (slot_type q (Local i)).bits)) (sym p.0) (h.has (Local i) (there_in c (Local i) p vis refl) k t at)
      has (Member i) vis k t at = subst (λ (q : CProgram). Has g (sized t (slot_type q (Member i)).bits)) (sym p.0) (h.has (Member i) (there_in c (Member i) p vis refl) k t at)
      has BoundValue vis k t at = cc

  pub stands : (c : Scope) (v : Values) (st : State) (s : JointState) → is_in a c → state c.locals (look v st) s → StandFor c a.bounds.now.frames st.objects v (rows_in (setting_of a) s)
  stands c v st s p h = record { objects = objects; bound = refl }
    where
      ty : (slot : Slot) → slot_type c.program slot ≡ slot_type a.pair.now.program slot
      ty slot = ap (λ (q : CProgram). slot_type q slot) p.0

      objects : (slot : Slot) → IsVisible c slot → is_bound slot ≡ false → numbers_of (number (slot_type c.program slot).signed (slot_type c.program slot).bits) v (terms_of st.objects slot) ≡ rows_in (setting_of a) s slot
      objects (Global i) vis b = row_numbers v st.objects.globals.items i _ _ (ty (Global i)) ∙ h.globals i
      objects (Local i) vis b = row_numbers v st.objects.locals.items i _ _ (ty (Local i)) ∙ h.locals i vis.1
      objects (Member i) vis b = row_numbers v st.objects.members.items i _ _ (ty (Member i)) ∙ h.members i
      objects BoundValue vis b = cc

  -- an expression under a guard's term, as one under the guard
  gives_trail : (t : IntType) (an : Answer) (v : Values) (list : List Step) (n : ℕ) → expr.Gives t an (walk v list) n → Gives t an (trail v list) n
  gives_trail t (Value m) v list n h = (passes_trail v list h.0, h.1)
  gives_trail t (Fault p) v list n h = stops_trail v list _ h

  pub valued : (n0 n1 n2 : Unrolled) (st : State) (e : TExpr) (g : Guard) (gt t : SizedTerm) → MayAsk a n0 st e g → IsTerm n0 n1 g gt → AsksFor n1 n2 st.objects a.bounds.now.frames e gt t → IsValued a n0 n2 st e g t
  valued n0 n1 n2 st e g gt t M T A =
      let objects : (c : Scope) → is_in a c → AreObjects c n1.terms st.objects = λ c p. objects_in c n1.terms st.objects p (record { count = M.objects.count; has = λ slot there k u at. T.adds.kept (sized u (slot_type a.pair.now.program slot).bits) (M.objects.has slot there k u at) }) in
      let once = A M.scope M.fits (objects M.scope M.program) T.has in
      record {
        grows = record { grown = λ v r. T.adds.grown v (once.builds.grown v r); kept = λ x h. once.builds.kept x (T.adds.kept x h); proper = once.builds.proper };
        has = once.has;
        width = once.width;
        asks = λ c p fits.
            let q = A c fits (objects c p) T.has in
            record {
              grown = λ v r. T.adds.grown v (q.builds.grown v r);
              more = q.more;
              list = q.list ∙ ap (λ l. l ++ q.more) T.adds.list;
              idle = λ v r o x. passes_trail v q.more (q.idle v r (T.value v (q.builds.grown v r) ∙ o));
              live = λ v r o x s h.
                  gives_trail e.ty (value_of (rows_in (setting_of a) s) e) v q.more (bits v t) (q.live v r (T.value v (q.builds.grown v r) ∙ o) (rows_in (setting_of a) s) (stands c v st s p h));
            };
      }

  pub ready_in : (n0 n1 : Unrolled) (st : State) (e : TExpr) (g : Guard) (gt : SizedTerm) → MayAsk a n0 st e g → IsTerm n0 n1 g gt → IsReady n1.terms st.objects e gt
  ready_in n0 n1 st e g gt M T = record {
    scope = M.scope;
    fits = M.fits;
    objects = objects_in M.scope n1.terms st.objects M.program (record { count = M.objects.count; has = λ slot there k u at. T.adds.kept (sized u (slot_type a.pair.now.program slot).bits) (M.objects.has slot there k u at) });
    there = T.has;
    bit = T.width;
  }

  pub grown_guard : (n0 n1 : Unrolled) (g : Guard) → Grows n0.terms n1.terms → HasGuard n0.terms g → HasGuard n1.terms g
  grown_guard n0 n1 Never G h = tt
  grown_guard n0 n1 Always G h = tt
  grown_guard n0 n1 (When t) G h = (G.kept t h.0, h.1)

  pub grown_objects : (n0 n1 : Unrolled) (o : Objects) → Grows n0.terms n1.terms → HasObjects a.pair.now.program n0.terms o → HasObjects a.pair.now.program n1.terms o
  grown_objects n0 n1 o G h = record { count = h.count; has = λ slot there k u at. G.kept (sized u (slot_type a.pair.now.program slot).bits) (h.has slot there k u at) }

  pub grown_result : (g h : Graph) (x : SizedTerm) → Grows g h → HasResult (result_in a) g x → HasResult (result_in a) h x
  grown_result g h x G = grown (result_in a)
    where
      grown : (t : Option IntType) → HasResult t g x → HasResult t h x
      grown None p = tt
      grown (Some t) p = (G.kept x p.0, p.1)

  pub grows_then : (g h i : Graph) → Grows g h → Grows h i → Grows g i
  grows_then g h i p q = record { grown = λ v r. p.grown v (q.grown v r); kept = λ x k. q.kept x (p.kept x k); proper = q.proper }

  pub next_flow : (g : Graph) (guard : Guard) → HasGuard g guard → HasFlow g (flow_at Next guard)
  next_flow g guard h Next = h
  next_flow g guard h Breaking = tt
  next_flow g guard h Continuing = tt
  next_flow g guard h Returning = tt

  pub done_assert : (n0 n1 n2 : Unrolled) (st : State) (e : TExpr) (p : PropId) (g : Guard) (t : SizedTerm) (f : Flow) → f ≡ flow_at Next g → MayAsk a n0 st e g → IsValued a n0 n1 st e g t → IsPushed n1 n2 g (Prop p.0 t.term) →
      (c : Scope) → is_in a c → FitsExpr c e → IsDone a n0 n2 st st g f c.locals c.locals (asserted_as (setting_of a) e p)
  done_assert n0 n1 n2 st e p g t f is M V P c inside fits =
      let all = grows_then n0.terms n1.terms n2.terms V.grows P.grows in
      subst (λ (f : Flow). IsDone a n0 n2 st st g f c.locals c.locals (asserted_as (setting_of a) e p)) (sym is) (record {
        grows = all;
        objects = grown_objects n0 n2 st.objects all M.objects;
        result = grown_result n0.terms n2.terms st.result all;
        flow = next_flow n2.terms g (grown_guard n0 n2 g all M.guard);
        does =
            let K : ℤ → Onward = λ n s c. if is_zero n then broken p c else Goes Next s nothing c in
            let B = asserted fixed n1 n2 st p g t.term (state c.locals) (behind c.locals) goes (stays c.locals) P in
            let B' = unwinds_as fixed n1 n2 st st (λ v s c. if isnt_zero (bits v t) then Goes Next s nothing c else broken p c) (λ v. K (number e.ty.signed e.ty.bits (bits v t))) g (flow_at Next g) (state c.locals) (state c.locals) (behind c.locals) (behind c.locals) goes goes
            (λ x s h. h) (λ v r s h c. chosen_is e.ty (bits v t) (Goes Next s nothing c) (broken p c)) (λ w x s h. h) (λ w s c. refl) B in
            ask fixed n0 n1 n2 st st e.ty (λ s. value_of (rows_in (setting_of a) s) e) K g t (flow_at Next g) (state c.locals) (behind c.locals) goes (V.asks c inside fits) B';
      })

  pub done_assume : (n0 n1 n2 : Unrolled) (st : State) (e : TExpr) (g : Guard) (t : SizedTerm) (f : Flow) → f ≡ flow_at Next g → MayAsk a n0 st e g → IsValued a n0 n1 st e g t → IsPushed n1 n2 g (CutAct t.term) →
      (c : Scope) → is_in a c → FitsExpr c e → IsDone a n0 n2 st st g f c.locals c.locals (assumed_as (setting_of a) e)
  done_assume n0 n1 n2 st e g t f is M V P c inside fits =
      let all = grows_then n0.terms n1.terms n2.terms V.grows P.grows in
      subst (λ (f : Flow). IsDone a n0 n2 st st g f c.locals c.locals (assumed_as (setting_of a) e)) (sym is) (record {
        grows = all;
        objects = grown_objects n0 n2 st.objects all M.objects;
        result = grown_result n0.terms n2.terms st.result all;
        flow = next_flow n2.terms g (grown_guard n0 n2 g all M.guard);
        does =
            let K : ℤ → Onward = λ n s c. if is_zero n then Stops Cut nothing c else Goes Next s nothing c in
            let B = assumed fixed n1 n2 st Cut refl g t.term (state c.locals) (behind c.locals) goes (stays c.locals) P in
            let B' = unwinds_as fixed n1 n2 st st (λ v s c. if isnt_zero (bits v t) then Goes Next s nothing c else Stops Cut nothing c) (λ v. K (number e.ty.signed e.ty.bits (bits v t))) g (flow_at Next g) (state c.locals) (state c.locals) (behind c.locals) (behind c.locals) goes goes
            (λ x s h. h) (λ v r s h c. chosen_is e.ty (bits v t) (Goes Next s nothing c) (Stops Cut nothing c)) (λ w x s h. h) (λ w s c. refl) B in
            ask fixed n0 n1 n2 st st e.ty (λ s. value_of (rows_in (setting_of a) s) e) K g t (flow_at Next g) (state c.locals) (behind c.locals) goes (V.asks c inside fits) B';
      })
