-- Blocks and branches, from what their parts promise.
use Rattle.std.proofs.Common.{◌≡◌, ℕ, zero, suc, ◌*◌, ◌<◌, true, false, List, [], ◌∷◌, drop, refl, sym, ap, ◌∙◌, subst, arith}
use Rattle.std.specs.Prelude.{ℤ, Contains, Option, Some, None, bit_or, nat_lt, if◌then◌else◌}
use Rattle.std.proofs.lemmas.Bool.Decides.{nat_tests}
use Rattle.bits_core.specs.Word.{number, bit, at_zero}
use Rattle.word_eqs.specs.Graph.{Graph, IsGraph}
use Rattle.joint_ir.specs.declared.ctype.IntType.{IntType}
use Rattle.joint_ir.specs.declared.expr.TExpr.{TExpr}
use Rattle.joint_ir.specs.declared.stmt.SNode.{SNode, Declare}
use Rattle.joint_ir.specs.declared.stmt.TInit.{TInit}
use Rattle.joint_ir.specs.declared.stmt.TStmt.{TStmt}
use Rattle.joint_ir.specs.declared.way.Way.{Way}
use Rattle.joint_ir.specs.declared.way.Way.TheVariants.{Next, Breaking, Continuing, Returning}
use Rattle.joint_ir.specs.Effects.{Effect, Onward, with_value}
use Rattle.joint_ir.specs.States.{JointState}
use Rattle.joint_ir.specs.Statements.{after}
use Rattle.joint_ir.specs.Steps.{rows_in, slot_type, declare_effect}
use Rattle.joint_ir.specs.Values.{value_of, is_zero}
use Rattle.joint_ir.specs.WellFormed.{Scope, FitsExpr, FitsStmt, declared_behind}
use Rattle.joint_lists.specs.Lists.{after_items, FitsItems}
use Rattle.sized_terms.specs.declared.SizedTerm.{SizedTerm}
use Rattle.sized_terms.specs.Sized.{IsMade, bits}
use Rattle.unrolled.specs.declared.Objects.{Objects}
use Rattle.unrolled.specs.declared.Unrolled.{Unrolled}
use Rattle.trails.specs.Following.{goes}
use Rattle.unwind_state.specs.declared.state.Flow.{Flow}
use Rattle.unwind_state.specs.declared.state.Guard.{Guard}
use Rattle.unwind_state.specs.declared.state.Guard.TheVariants.{Never, Always, When}
use Rattle.unwind_state.specs.declared.state.Sides.{Sides}
use Rattle.unwind_state.specs.declared.state.State.{State}
use Rattle.unwind_state.specs.Guards.{HasGuard, HasFlow, guard_for, flow_at, Adds, IsFlow, AreSides, bits_of, merge_of}
use Rattle.unwind_state.specs.Images.{Image, HasReturned}
use Rattle.unwind_state.specs.Unwinding.{Grows}
use Rattle.unwind_state.specs.Writing.{HasObjects, sized}
use Rattle.unwind_state.proofs.Gates.{adds_built}
use Rattle.unwind_state.proofs.Pieces.{isnt_zero, ask, branch}
use Rattle.unwind_state.proofs.Stretches.{unwinds_as, added_before, begun}
use Rattle.unwind_simple.specs.declared.simple.Activation.{Activation}
use Rattle.unwind_simple.specs.Simple.{setting_of, calls_in, result_in, is_in, IsValued, IsDone}
use Rattle.unwind_simple.proofs.Statements.{zero_number, grown_result}
use Rattle.unwind_blocks.specs.Blocks.{IsTested, IsStretch, IsUnwound, AreUnwound, behind_items, between}
use Rattle.unwind_blocks.proofs.Orders.{fixed, state, behind, fewer, out_of, items_declare, Sofar, left_first, left_more, left_none}

-- what stays

pub grows_then : (g h i : Graph) → Grows g h → Grows h i → Grows g i
grows_then g h i p q = record { grown = λ v r. p.grown v (q.grown v r); kept = λ x k. q.kept x (p.kept x k); proper = q.proper }

pub grows_adds : (n m : Unrolled) → Adds n m → Grows n.terms m.terms
grows_adds n m A = record { grown = A.grown; kept = A.kept; proper = A.proper }

pub grows_none : (g : Graph) → IsGraph g → Grows g g
grows_none g p = record { grown = λ v r. r; kept = λ x k. k; proper = p }

pub guard_grows : (g h : Graph) (x : Guard) → Grows g h → HasGuard g x → HasGuard h x
guard_grows g h Never G p = tt
guard_grows g h Always G p = tt
guard_grows g h (When t) G p = (G.kept t p.0, p.1)

pub flow_grows : (g h : Graph) (f : Flow) → Grows g h → HasFlow g f → HasFlow h f
flow_grows g h f G p way = guard_grows g h (guard_for f way) G (p way)

pub only_has : (g : Graph) (way : Way) (x : Guard) → HasGuard g x → HasFlow g (flow_at way x)
only_has g Next x h Next = h
only_has g Next x h Breaking = tt
only_has g Next x h Continuing = tt
only_has g Next x h Returning = tt
only_has g Breaking x h Next = tt
only_has g Breaking x h Breaking = h
only_has g Breaking x h Continuing = tt
only_has g Breaking x h Returning = tt
only_has g Continuing x h Next = tt
only_has g Continuing x h Breaking = tt
only_has g Continuing x h Continuing = h
only_has g Continuing x h Returning = tt
only_has g Returning x h Next = tt
only_has g Returning x h Breaking = tt
only_has g Returning x h Continuing = tt
only_has g Returning x h Returning = h

-- a condition

some_lt : (n : ℕ) → 0 < n → nat_lt 0 n ≡ true
some_lt n h = grind (arith, nat_tests)

lt_is : (n : ℕ) → nat_lt 0 n ≡ isnt_zero n
lt_is zero = refl
lt_is (suc n) = some_lt (suc n) (omega arith)

pub by_zero : (n : ℕ) (x y : Effect) → (if nat_lt 0 n then x else y) ≡ (if at_zero n true false then y else x)
by_zero n x y = ap (λ b. if b then x else y) (lt_is n) ∙ by_case n
  where
    by_case : (m : ℕ) → (if isnt_zero m then x else y) ≡ (if at_zero m true false then y else x)
    by_case zero = refl
    by_case (suc m) = refl

-- a choice by a word, as one by the number that it stands for
pub by_value : (ty : IntType) (n : ℕ) (x y : Effect) → (if nat_lt 0 n then x else y) ≡ (if is_zero (number ty.signed ty.bits n) then y else x)
by_value ty n x y = by_zero n x y ∙ ap (λ b. if b then y else x) (sym (zero_number ty.signed ty.bits n))

module _ (a : Activation) where
  pub tested_made : (n0 n1 n2 n3 : Unrolled) (s : State) (e : TExpr) (g : Guard) (t set : SizedTerm) (sides : Sides) → IsValued a n0 n1 s e g t → IsMade n1.terms n2.terms 1 (3 * t.width) 1 set (λ v. bit (nat_lt 0 (bits v t))) → n2.list ≡ n1.list →
      AreSides n2 n3 set g sides → IsTested a n0 n3 s e g sides
  tested_made n0 n1 n2 n3 s e g t set sides V M l S = record { n1 = n1; n2 = n2; value = t; set = set; valued = V; adds = adds_built n1 n2 (3 * t.width) 1 M.builds l; is = M.value; split = S }

  pub tested_grows : (n0 n3 : Unrolled) (s : State) (e : TExpr) (g : Guard) (sides : Sides) → IsTested a n0 n3 s e g sides → Grows n0.terms n3.terms
  tested_grows n0 n3 s e g sides T = grows_then n0.terms T.n1.terms n3.terms T.valued.grows (grows_then T.n1.terms T.n2.terms n3.terms (grows_adds T.n1 T.n2 T.adds) (grows_adds T.n2 n3 T.split.adds))

  pub objects_grow : (g h : Graph) (o : Objects) → Grows g h → HasObjects a.pair.now.program g o → HasObjects a.pair.now.program h o
  objects_grow g h o G p = record { count = p.count; has = λ slot there k u at. G.kept (sized u (slot_type a.pair.now.program slot).bits) (p.has slot there k u at) }

  pub done_if : (n0 n3 n4 n5 n6 : Unrolled) (s0 s1 s2 : State) (e : TExpr) (g : Guard) (sides : Sides) (fa fb f : Flow) (c : Scope) (ys zs : List ℕ) (ra rb : Onward) → IsTested a n0 n3 s0 e g sides →
      IsUnwound a n3 n4 s0 s1 sides.taken fa c.locals ys ra → IsUnwound a n4 n5 s1 s2 sides.other fb c.locals zs rb → IsFlow n5 n6 f (λ v way. bit_or (bits_of v fa way) (bits_of v fb way)) →
      ((j : ℕ) → Contains c.locals j → Contains ys j) → ((j : ℕ) → Contains c.locals j → Contains zs j) → is_in a c → FitsExpr c e →
      IsUnwound a n0 n6 s0 s2 g f c.locals c.locals (λ s c. with_value (value_of (rows_in (setting_of a) s) e) c (λ n. if is_zero n then rb s c else ra s c))
  done_if n0 n3 n4 n5 n6 s0 s1 s2 e g sides fa fb f sc ys zs ra rb T A B J subA subB inside fits =
      let k = setting_of a in
      let t = T.value in
      let K : ℤ → Onward = λ n s c. if is_zero n then rb s c else ra s c in
      let A' = unwinds_as (fixed a) n3 n4 s0 s1 (λ v. ra) (λ v. ra) sides.taken fa (state a sc.locals) (state a sc.locals) (behind a ys) (behind a sc.locals) goes goes (λ x s h. h) (λ v r s h c. refl) (fewer a sc.locals ys subA) (λ w s c. refl) A.does in
      let B' = unwinds_as (fixed a) n4 n5 s1 s2 (λ v. rb) (λ v. rb) sides.other fb (state a sc.locals) (state a sc.locals) (behind a zs) (behind a sc.locals) goes goes (λ x s h. h) (λ v r s h c. refl) (fewer a sc.locals zs subB) (λ w s c. refl) B.does in
      let D = branch (fixed a) T.n2 n3 n4 n5 n6 s0 s1 s2 T.set (λ v. nat_lt 0 (bits v t)) (λ v. ra) (λ v. rb) g sides fa fb f (state a sc.locals) (behind a sc.locals) goes T.is T.split A' B' J in
      let D' = added_before (fixed a) T.n1 T.n2 n6 s0 s2 (λ v s c. if nat_lt 0 (bits v t) then ra s c else rb s c) g f (state a sc.locals) (behind a sc.locals) goes T.adds D in
      let D'' = unwinds_as (fixed a) T.n1 n6 s0 s2 (λ v s c. if nat_lt 0 (bits v t) then ra s c else rb s c) (λ v. K (number e.ty.signed e.ty.bits (bits v t))) g f (state a sc.locals) (state a sc.locals) (behind a sc.locals) (behind a sc.locals) goes goes
      (λ x s h. h) (λ v r s h c. by_value e.ty (bits v t) (ra s c) (rb s c)) (λ w x s h. h) (λ w s c. refl) D' in
      record {
        grows = grows_then n0.terms n3.terms n6.terms (tested_grows n0 n3 s0 e g sides T) (grows_then n3.terms n4.terms n6.terms A.grows (grows_then n4.terms n5.terms n6.terms B.grows (grows_adds n5 n6 J.adds)));
        objects = objects_grow n5.terms n6.terms s2.objects (grows_adds n5 n6 J.adds) B.objects;
        result = λ h. grown_result a n5.terms n6.terms s2.result (grows_adds n5 n6 J.adds) (B.result (A.result (grown_result a n0.terms n3.terms s0.result (tested_grows n0 n3 s0 e g sides T) h)));
        flow = J.has;
        does = ask (fixed a) n0 T.n1 n6 s0 s2 e.ty (λ s. value_of (rows_in k s) e) K g t f (state a sc.locals) (behind a sc.locals) goes (T.valued.asks sc inside fits) D'';
      }

  -- a statement that has no others in it
  pub unwound : (n0 n1 : Unrolled) (s0 s1 : State) (g : Guard) (f : Flow) (xs ys : List ℕ) (run : Onward) → IsDone a n0 n1 s0 s1 g f xs ys run → IsUnwound a n0 n1 s0 s1 g f xs ys run
  unwound n0 n1 s0 s1 g f xs ys run D = record { grows = D.grows; objects = D.objects; result = D.result; flow = D.flow; does = D.does }

  -- the same run in other words
  pub done_as : (n0 n1 : Unrolled) (s0 s1 : State) (g : Guard) (f : Flow) (xs ys : List ℕ) (ra rb : Onward) → ra ≡ rb → IsUnwound a n0 n1 s0 s1 g f xs ys ra → IsUnwound a n0 n1 s0 s1 g f xs ys rb
  done_as n0 n1 s0 s1 g f xs ys ra rb e D = subst (λ (r : Onward). IsUnwound a n0 n1 s0 s1 g f xs ys r) e D

  -- a statement that declares nothing, as the tree has it
  pub unwound_at : (n0 n1 : Unrolled) (s0 s1 : State) (g : Guard) (f : Flow) (xs : List ℕ) (t : TStmt) (node : SNode) (run : Onward) → t.node ≡ node → declared_behind node xs ≡ xs →
      run ≡ after (setting_of a) (calls_in a) t.place t.node → IsUnwound a n0 n1 s0 s1 g f xs xs run →
      IsUnwound a n0 n1 s0 s1 g f xs (declared_behind t.node xs) (after (setting_of a) (calls_in a) t.place t.node)
  unwound_at n0 n1 s0 s1 g f xs t node run is none e D =
      subst (λ (ys : List ℕ). IsUnwound a n0 n1 s0 s1 g f xs ys (after (setting_of a) (calls_in a) t.place t.node)) (sym (ap (λ (m : SNode). declared_behind m xs) is ∙ none))
      (done_as n0 n1 s0 s1 g f xs xs run (after (setting_of a) (calls_in a) t.place t.node) e D)

  -- the same of one that has no others in it
  pub done_at : (n0 n1 : Unrolled) (s0 s1 : State) (g : Guard) (f : Flow) (xs : List ℕ) (t : TStmt) (node : SNode) (run : Onward) → t.node ≡ node → declared_behind node xs ≡ xs →
      run ≡ after (setting_of a) (calls_in a) t.place t.node → IsDone a n0 n1 s0 s1 g f xs xs run →
      IsUnwound a n0 n1 s0 s1 g f xs (declared_behind t.node xs) (after (setting_of a) (calls_in a) t.place t.node)
  done_at n0 n1 s0 s1 g f xs t node run is none e D = unwound_at n0 n1 s0 s1 g f xs t node run is none e (unwound n0 n1 s0 s1 g f xs xs run D)

  -- a declaration, as the tree has it
  pub done_declared : (n0 n1 : Unrolled) (s0 s1 : State) (g : Guard) (f : Flow) (xs : List ℕ) (t : TStmt) (x : ℕ) (init : TInit) → t.node ≡ Declare x init →
      IsDone a n0 n1 s0 s1 g f xs (x ∷ xs) (declare_effect (setting_of a) (calls_in a) t.place.line x init) → IsUnwound a n0 n1 s0 s1 g f xs (declared_behind t.node xs) (after (setting_of a) (calls_in a) t.place t.node)
  done_declared n0 n1 s0 s1 g f xs t x init is D =
      subst (λ (m : SNode). IsUnwound a n0 n1 s0 s1 g f xs (declared_behind m xs) (after (setting_of a) (calls_in a) t.place m)) (sym is)
      (unwound n0 n1 s0 s1 g f xs (x ∷ xs) (declare_effect (setting_of a) (calls_in a) t.place.line x init) D)

  -- fewer locals are asked for behind a statement
  pub done_fewer : (n0 n1 : Unrolled) (s0 s1 : State) (g : Guard) (f : Flow) (xs ys : List ℕ) (run : Onward) → ((j : ℕ) → Contains xs j → Contains ys j) → IsUnwound a n0 n1 s0 s1 g f xs ys run → IsUnwound a n0 n1 s0 s1 g f xs xs run
  done_fewer n0 n1 s0 s1 g f xs ys run sub D = record {
    grows = D.grows;
    objects = D.objects;
    result = D.result;
    flow = D.flow;
    does = unwinds_as (fixed a) n0 n1 s0 s1 (λ v. run) (λ v. run) g f (state a xs) (state a xs) (behind a ys) (behind a xs) goes goes (λ x s h. h) (λ v r s h c. refl) (fewer a xs ys sub) (λ w s c. refl) D.does;
  }

  -- nothing is done, and the run goes on one way
  pub stretch_way : (n : Unrolled) (s : State) (way : Way) (g : Guard) (f : Flow) (xs : List ℕ) (out : Way → Onward) → ((x : Image) (q : JointState) → state a xs x q → behind a xs way x q) → IsGraph n.terms → HasObjects a.pair.now.program n.terms s.objects → HasGuard n.terms g → f ≡ flow_at way g →
      IsStretch a n n s s g f (state a xs) (behind a xs) (out way) out
  stretch_way n s way g f xs out post proper objects has is =
      subst (λ (h : Flow). IsStretch a n n s s g h (state a xs) (behind a xs) (out way) out) (sym is)
      (record { grows = grows_none n.terms proper; objects = objects; result = λ h. h; flow = only_has n.terms way g has; does = begun (fixed a) n s way g (state a xs) (behind a xs) out post })

  -- one way on, with nothing done
  pub done_way : (n : Unrolled) (s : State) (way : Way) (g : Guard) (f : Flow) (xs : List ℕ) → ((x : Image) (q : JointState) → state a xs x q → behind a xs way x q) → IsGraph n.terms → HasObjects a.pair.now.program n.terms s.objects → HasGuard n.terms g → f ≡ flow_at way g →
      IsUnwound a n n s s g f xs xs (goes way)
  done_way n s way g f xs post proper objects has is = stretch_way n s way g f xs goes post proper objects has is

  -- statements of a list, so far
  pub sofar_first : (n : Unrolled) (s : State) (items : List TStmt) (g : Guard) (f : Flow) → IsGraph n.terms → HasObjects a.pair.now.program n.terms s.objects → HasGuard n.terms g → f ≡ flow_at Next g → Sofar a n n s s items 0 g f
  sofar_first n s items g f proper objects has is =
      subst (Sofar a n n s s items 0 g) (sym is) (record { grows = grows_none n.terms proper; objects = objects; result = λ h. h; flow = only_has n.terms Next g has; does = λ c inside fits. left_first a n s items g c })

  pub sofar_more : (n0 n1 n2 n3 : Unrolled) (s0 s1 s2 : State) (items : List TStmt) (i : ℕ) (x : TStmt) (g : Guard) (ways f ways' : Flow) → drop i items ≡ x ∷ drop (suc i) items → (d : Scope) → is_in a d → FitsStmt d x.node → Sofar a n0 n1 s0 s1 items i g ways →
      ((d : Scope) → is_in a d → FitsStmt d x.node → IsUnwound a n1 n2 s1 s2 ways.next f d.locals (declared_behind x.node d.locals) (after (setting_of a) (calls_in a) x.place x.node)) →
      IsFlow n2 n3 ways' (λ v way. merge_of way (bits_of v ways way) (bits_of v f way)) → Sofar a n0 n3 s0 s2 items (suc i) g ways'
  sofar_more n0 n1 n2 n3 s0 s1 s2 items i x g ways f ways' here d inside fits S D E =
      let one = D d inside fits in
      record {
        grows = grows_then n0.terms n1.terms n3.terms S.grows (grows_then n1.terms n2.terms n3.terms one.grows (grows_adds n2 n3 E.adds));
        objects = objects_grow n2.terms n3.terms s2.objects (grows_adds n2 n3 E.adds) one.objects;
        result = λ h. grown_result a n2.terms n3.terms s2.result (grows_adds n2 n3 E.adds) (one.result (S.result h));
        flow = E.has;
        does = λ c q h. left_more a n0 n1 n2 n3 s0 s1 s2 items i x g ways f ways' c here q h (S.does c q h) D E;
      }

  pub sofar_last : (n0 n1 : Unrolled) (s0 s1 : State) (items : List TStmt) (i : ℕ) (g : Guard) (ways : Flow) → drop i items ≡ [] → Sofar a n0 n1 s0 s1 items i g ways → (c : Scope) → is_in a c → FitsItems c items →
      AreUnwound a n0 n1 s0 s1 g ways c.locals (behind_items items c.locals) (after_items (setting_of a) (calls_in a) items)
  sofar_last n0 n1 s0 s1 items i g ways over S c inside fits = record {
    grows = S.grows;
    objects = S.objects;
    result = S.result;
    flow = S.flow;
    does = left_none a n0 n1 s0 s1 items i g ways c over (S.does c inside fits);
  }

  -- a block: what is declared in it isn't declared behind it
  pub done_block : (n0 n1 : Unrolled) (s0 s1 : State) (items : List TStmt) (g : Guard) (f : Flow) (xs : List ℕ) (run : Onward) → AreUnwound a n0 n1 s0 s1 g f xs (behind_items items xs) run → IsUnwound a n0 n1 s0 s1 g f xs xs run
  done_block n0 n1 s0 s1 items g f xs run D = record {
    grows = D.grows;
    objects = D.objects;
    result = D.result;
    flow = D.flow;
    does = unwinds_as (fixed a) n0 n1 s0 s1 (λ v. run) (λ v. run) g f (state a xs) (state a xs) (between a xs (behind_items items xs)) (behind a xs) goes goes (λ x s h. h) (λ v r s h c. refl)
        (out_of a xs (behind_items items xs) (items_declare items xs)) (λ w s c. refl) D.does;
  }

  returned_nothing : (t : Option IntType) (x : Image) (q : JointState) → HasReturned t Breaking x q × HasReturned t Continuing x q
  returned_nothing None x q = (tt, tt)
  returned_nothing (Some t) x q = (tt, tt)

  pub breaks : (xs : List ℕ) (x : Image) (q : JointState) → state a xs x q → behind a xs Breaking x q
  breaks xs x q h = record { state = h; returned = (returned_nothing (result_in a) x q).0 }

  pub continues : (xs : List ℕ) (x : Image) (q : JointState) → state a xs x q → behind a xs Continuing x q
  continues xs x q h = record { state = h; returned = (returned_nothing (result_in a) x q).1 }
