-- A loop, turn by turn.
use Rattle.std.proofs.Common.{◌≡◌, ℕ, suc, List, [], ◌∷◌, ◌++◌, Bool, true, false, refl, sym, ap, ◌∙◌, subst}
use Rattle.std.specs.Prelude.{ℤ, Contains, Option, Some, None, IsTrue, bit_or, nat_lt, if◌then◌else◌}
use Rattle.std.specs.Int.Bits.{or_zero_l, or_zero_r}
use Rattle.bits_core.specs.Word.{number, at_zero}
use denote.Hole.Carrier.{out, shown}
use Rattle.word_eqs.specs.declared.list.Act.TheVariants.{Prop}
use Rattle.word_eqs.specs.declared.list.Step.{Step}
use Rattle.word_eqs.specs.Graph.{Graph, IsGraph}
use Rattle.word_eqs.specs.Guarded.{AtProp}
use Rattle.word_eqs.specs.Meaning.{Values, Respects}
use Rattle.joint_ir.specs.declared.expr.TExpr.{TExpr}
use Rattle.joint_ir.specs.declared.program.PropId.{PropId}
use Rattle.joint_ir.specs.declared.stmt.SNode.{Row_of-TStmt, end_of-TStmt, more_of-TStmt, None', Some'}
use Rattle.joint_ir.specs.declared.stmt.SNode.TheBlock.{items-the_row-TStmt, items_shown-the_row-TStmt-0, shown-the_row-TStmt-0, shown-the_row-TStmt-1}
use Rattle.joint_ir.specs.declared.stmt.TLoop.{TLoop, TLoop', out-TLoop}
use Rattle.joint_ir.specs.declared.stmt.TStmt.{TStmt}
use Rattle.joint_ir.specs.declared.way.Way.{Way}
use Rattle.joint_ir.specs.declared.way.Way.TheVariants.{Next, Breaking, Continuing, Returning}
use Rattle.joint_ir.specs.Effects.{Effect, Told, nothing, joined, Goes, Stops, TooFew, Onward, preceded, then_do, after_turn, broken}
use Rattle.joint_ir.specs.States.{JointState}
use Rattle.joint_ir.specs.Statements.{after, after_loop, tested, turns, loop_effect}
use Rattle.joint_ir.specs.Steps.{rows_in, limit_of}
use Rattle.joint_ir.specs.Values.{Answer, value_of, is_zero}
use Rattle.joint_ir.specs.WellFormed.{Scope, FitsExpr, FitsStmt, FitsOption, FitsLoop, with_scope_locals, in_a_loop, declared_behind, behind_row, is_simple}
use Rattle.joint_lists.specs.Lists.{after_items, after_option, FitsItems, FitsOptional}
use Rattle.joint_lists.proofs.Rows.{after-loop}
use Rattle.joint_lists.proofs.Shapes.{fits-loop}
use Rattle.sized_terms.specs.declared.SizedTerm.{SizedTerm}
use Rattle.sized_terms.specs.Sized.{bits}
use Rattle.unrolled.specs.declared.Unrolled.{Unrolled}
use Rattle.trails.specs.Following.{way_bit, IsAt, goes, Follows}
use Rattle.trails.specs.Trails.{Trail, Through, Halts, values_of, act_trail, trail}
use Rattle.trails.proofs.Walking.{trail_one}
use Rattle.trails.proofs.Ways.{IsAfter, preceded_twice, preceded_nothing, joined_nothing}
use Rattle.unwind_state.specs.declared.state.Flow.{Flow}
use Rattle.unwind_state.specs.declared.state.Guard.{Guard}
use Rattle.unwind_state.specs.declared.state.Guard.TheVariants.{Never}
use Rattle.unwind_state.specs.declared.state.Sides.{Sides}
use Rattle.unwind_state.specs.declared.state.State.{State}
use Rattle.unwind_state.specs.Guards.{HasGuard, HasFlow, IsFlow, flow_at, bit_at, bits_of, merge_of, turned_of, gathered_of}
use Rattle.unwind_state.specs.Images.{Image, look}
use Rattle.unwind_state.specs.Unwinding.{Grows, Unwinds, IsPushed}
use Rattle.unwind_state.specs.Writing.{HasObjects, HasResult}
use Rattle.unwind_state.proofs.Gates.{adds_none, adds_built}
use Rattle.unwind_state.proofs.Pieces.{ask, branch, broken_follows}
use Rattle.unwind_state.proofs.Stretches.{unwinds_as, unwinds_mapped, relabelled, added_before, begun, chain}
use Rattle.unwind_simple.specs.declared.simple.Activation.{Activation}
use Rattle.unwind_simple.specs.Simple.{setting_of, calls_in, result_in, is_in}
use Rattle.unwind_simple.proofs.Statements.{grown_result}
use Rattle.unwind_blocks.specs.Blocks.{IsTested, IsStretch, IsUnwound, AreUnwound, state_at, behind_at, behind_items, between}
use Rattle.unwind_blocks.specs.Loops.{turn_out, IsPart, test_in, first_part, turn_of, turns_in, loop_in, FitsLast, FitsTurn, left_of, IsEnded}
use Rattle.unwind_blocks.proofs.Orders.{fixed, fewer, out_of, stays, rest_out, then_after, then_outs, rest_goes, rest_leaves, scope_behind, items_declare}
use Rattle.unwind_blocks.proofs.Branches.{grows_then, grows_adds, flow_grows, objects_grow, tested_grows, by_value, breaks, stretch_way}
use Rattle.unwind_blocks.proofs.Falling.{Falls, AllFall, way_falls, calls_fall, option_falls}

-- ways behind a loop's body, and behind a loop

turn_after : (go : Onward) → IsAfter (λ e. after_turn e go)
turn_after go = record { stops = λ o told c. refl; precedes = precedes }
  where
    precedes : (told : Told) (e : Effect) → after_turn (preceded told e) go ≡ preceded told (after_turn e go)
    precedes told (Goes Next s more c) = sym (preceded_twice told more (go s c))
    precedes told (Goes Breaking s more c) = refl
    precedes told (Goes Continuing s more c) = sym (preceded_twice told more (go s c))
    precedes told (Goes Returning s more c) = refl
    precedes told (Stops o more c) = refl
    precedes told TooFew = refl

abbrev turned_way : Way → Way
turned_way Next = Next
turned_way Breaking = Breaking
turned_way Continuing = Next
turned_way Returning = Returning

turn_outs : (go : Onward) (way : Way) (s : JointState) (c : List ℕ) → after_turn (goes way s c) go ≡ turn_out go (turned_way way) s c
turn_outs go Next s c = preceded_nothing (go s c)
turn_outs go Breaking s c = refl
turn_outs go Continuing s c = preceded_nothing (go s c)
turn_outs go Returning s c = refl

-- the ways that leave a loop don't depend on what it goes on with
turn_leaves : (go go' : Onward) (way : Way) (s : JointState) (c : List ℕ) → (way ≡ Next → ⊥) → turn_out go way s c ≡ turn_out go' way s c
turn_leaves go go' Next s c isnt = absurd (isnt refl)
turn_leaves go go' Breaking s c isnt = refl
turn_leaves go go' Continuing s c isnt = refl
turn_leaves go go' Returning s c isnt = refl

abbrev gathered_way : Way → Way
gathered_way Next = Next
gathered_way Breaking = Next
gathered_way Continuing = Next
gathered_way Returning = Returning

gather_outs : (way : Way) (s : JointState) (c : List ℕ) → turn_out (goes Next) way s c ≡ goes (gathered_way way) s c
gather_outs Next s c = refl
gather_outs Breaking s c = refl
gather_outs Continuing s c = refl
gather_outs Returning s c = refl

turn_bits : (w way : Way) → turned_of (λ u. way_bit u way) w ≡ way_bit w (turned_way way)
turn_bits Next Next = refl
turn_bits Next Breaking = refl
turn_bits Next Continuing = refl
turn_bits Next Returning = refl
turn_bits Breaking Next = refl
turn_bits Breaking Breaking = refl
turn_bits Breaking Continuing = refl
turn_bits Breaking Returning = refl
turn_bits Continuing Next = refl
turn_bits Continuing Breaking = refl
turn_bits Continuing Continuing = refl
turn_bits Continuing Returning = refl
turn_bits Returning Next = refl
turn_bits Returning Breaking = refl
turn_bits Returning Continuing = refl
turn_bits Returning Returning = refl

gather_bits : (w way : Way) → gathered_of (λ u. way_bit u way) w ≡ way_bit w (gathered_way way)
gather_bits Next Next = refl
gather_bits Next Breaking = refl
gather_bits Next Continuing = refl
gather_bits Next Returning = refl
gather_bits Breaking Next = refl
gather_bits Breaking Breaking = refl
gather_bits Breaking Continuing = refl
gather_bits Breaking Returning = refl
gather_bits Continuing Next = refl
gather_bits Continuing Breaking = refl
gather_bits Continuing Continuing = refl
gather_bits Continuing Returning = refl
gather_bits Returning Next = refl
gather_bits Returning Breaking = refl
gather_bits Returning Continuing = refl
gather_bits Returning Returning = refl

turn_same : (x y : Way → ℕ) → ((w : Way) → x w ≡ y w) → (w : Way) → turned_of x w ≡ turned_of y w
turn_same x y e Next = ap (λ n. bit_or n (x Continuing)) (e Next) ∙ ap (bit_or (y Next)) (e Continuing)
turn_same x y e Breaking = e Breaking
turn_same x y e Continuing = refl
turn_same x y e Returning = e Returning

gather_same : (x y : Way → ℕ) → ((w : Way) → x w ≡ y w) → (w : Way) → gathered_of x w ≡ gathered_of y w
gather_same x y e Next = ap (λ n. bit_or (bit_or n (x Breaking)) (x Continuing)) (e Next) ∙ ap (λ n. bit_or (bit_or (y Next) n) (x Continuing)) (e Breaking) ∙ ap (bit_or (bit_or (y Next) (y Breaking))) (e Continuing)
gather_same x y e Breaking = refl
gather_same x y e Continuing = refl
gather_same x y e Returning = e Returning

turn_none : (w : Way) → turned_of (λ u. 0) w ≡ 0
turn_none Next = refl
turn_none Breaking = refl
turn_none Continuing = refl
turn_none Returning = refl

gather_none : (w : Way) → gathered_of (λ u. 0) w ≡ 0
gather_none Next = refl
gather_none Breaking = refl
gather_none Continuing = refl
gather_none Returning = refl

-- no way is live
abbrev nowhere : Flow
nowhere = record { next = Never; breaking = Never; continuing = Never; returning = Never }

left_bits : (v : Values) (ways : Flow) (w : Way) → bits_of v (left_of ways) w ≡ merge_of w (bits_of v ways w) (bits_of v nowhere w)
left_bits v ways Next = refl
left_bits v ways Breaking = sym (or_zero_r (bit_at v ways.breaking))
left_bits v ways Continuing = sym (or_zero_r (bit_at v ways.continuing))
left_bits v ways Returning = sym (or_zero_r (bit_at v ways.returning))

pub left_has : (g : Graph) (ways : Flow) → HasFlow g ways → HasFlow g (left_of ways)
left_has g ways h Next = tt
left_has g ways h Breaking = h Breaking
left_has g ways h Continuing = h Continuing
left_has g ways h Returning = h Returning

nowhere_bits : (v : Values) (w : Way) → bits_of v nowhere w ≡ 0
nowhere_bits v Next = refl
nowhere_bits v Breaking = refl
nowhere_bits v Continuing = refl
nowhere_bits v Returning = refl

nowhere_has : (g : Graph) → HasFlow g nowhere
nowhere_has g Next = tt
nowhere_has g Breaking = tt
nowhere_has g Continuing = tt
nowhere_has g Returning = tt

-- a loop as its first part and its turns
first_is : (t : Bool) (n : ℕ) (test : JointState → Answer) (body step : Onward) (p : PropId) → first_part t test (turns n test body step p) ≡ loop_effect t n test body step p
first_is true n test body step p = refl
first_is false n test body step p = refl

-- where the parts of a loop fit

-- the scope of a loop's turns
abbrev pub inner_of : Scope → TLoop → Scope
inner_of c l = in_a_loop (scope_behind c (out-TLoop l).heads)

row_behind : {m : _} (row : Row_of-TStmt m) (xs : List ℕ) → behind_row row xs ≡ behind_items (items-the_row-TStmt _ row) xs
row_behind end_of-TStmt xs = refl
row_behind (more_of-TStmt p a rest) xs = row_behind rest (declared_behind a xs)

pub fits_heads : (c : Scope) (l : TLoop) (items : List TStmt) → items ≡ (out-TLoop l).heads → FitsLoop c l → FitsItems c items
fits_heads c l items is h = subst (FitsItems c) (sym is) (fits-loop c l h).heads

pub fits_turns : (c : Scope) (l : TLoop) → FitsLoop c l → FitsTurn (inner_of c l) l
unfolding out-TLoop out shown shown-the_row-TStmt-0 shown-the_row-TStmt-1
fits_turns c (TLoop' t shape heads cond None' shape' (more_of-TStmt p body end) prop) h =
    let is = row_behind heads c.locals ∙ ap (λ (l : List TStmt). behind_items l c.locals) (sym (items_shown-the_row-TStmt-0 shape heads)) in
    record {
      body = subst (λ (xs : List ℕ). FitsStmt (in_a_loop (with_scope_locals c xs)) body) is h.4;
      last = tt;
      cond = subst (λ (xs : List ℕ). FitsOption (in_a_loop (with_scope_locals c xs)) cond) is h.2;
    }
fits_turns c (TLoop' t shape heads cond (Some' shape'' (more_of-TStmt q step end')) shape' (more_of-TStmt p body end) prop) h =
    let is = row_behind heads c.locals ∙ ap (λ (l : List TStmt). behind_items l c.locals) (sym (items_shown-the_row-TStmt-0 shape heads)) in
    record {
      body = subst (λ (xs : List ℕ). FitsStmt (in_a_loop (with_scope_locals c xs)) body) is h.4;
      last = (h.3.0, subst (λ (xs : List ℕ). FitsStmt (in_a_loop (with_scope_locals c xs)) step) is h.3.1);
      cond = subst (λ (xs : List ℕ). FitsOption (in_a_loop (with_scope_locals c xs)) cond) is h.2;
    }

pub fits_last : (c : Scope) (x : Option TStmt) → FitsLast c x → FitsOptional c x
fits_last c None h = tt
fits_last c (Some y) h = h.1

pub last_simple : (c : Scope) (x : Option TStmt) → FitsLast c x → (y : TStmt) → x ≡ Some y → IsTrue (is_simple y.node)
last_simple c x h y is = let f : FitsLast c (Some y) = subst (FitsLast c) is h in f.0

module _ (fixed : Image → Type 0) where
  -- a stretch that goes on to the next statement alone, and what is done behind it
  falls_on : (n0 n1 : Unrolled) (s0 s1 : State) (run go : Onward) (g : Guard) (f : Flow) (before : Image → JointState → Type 0) (behind behind' : Way → Image → JointState → Type 0) (out : Way → Onward) → AllFall run →
      ((x : Image) (s : JointState) → behind Next x s → behind' Next x s) → ((s : JointState) (c : List ℕ) → go s c ≡ out Next s c) →
      Unwinds fixed n0 n1 s0 s1 (λ v. run) g f before behind goes → Unwinds fixed n0 n1 s0 s1 (λ v s c. then_do (run s c) go) g f before behind' out
  falls_on n0 n1 s0 s1 run go g f before behind behind' out fall post m A = record {
    grown = A.grown;
    more = A.more;
    list = A.list;
    settled = A.settled;
    idle = A.idle;
    live = λ v r l x s h. through v s (trail v A.more) (A.live v r l x s h);
  }
    where
      through : (v : Values) (s : JointState) (t : Trail) → Follows (run s) t (bits_of v f) (λ w. behind w (look v s1)) goes → Follows (λ c. then_do (run s c) go) t (bits_of v f) (λ w. behind' w (look v s1)) out
      through v s (Halts reads stop) h = record { outcome = h.outcome; told = h.told; broken = h.broken; widths = h.widths; runs = λ rest. ap (λ (e : Effect). then_do e go) (h.runs rest) }
      through v s (Through reads) h =
          let e : h.way ≡ Next = way_falls h.way h.state (joined h.told nothing) [] (subst Falls (h.runs []) (fall s (values_of reads ++ []))) in
          record {
            way = Next;
            state = h.state;
            told = h.told;
            at = subst (IsAt (bits_of v f)) e h.at;
            held = post (look v s1) h.state (subst (λ w. behind w (look v s1) h.state) e h.held);
            widths = h.widths;
            runs = λ rest. ap (λ (x : Effect). then_do x go) (h.runs rest) ∙ ap (λ (w : Way). then_do (Goes w h.state (joined h.told nothing) rest) go) e
                ∙ ap (λ (t : Told). preceded t (go h.state rest)) (joined_nothing h.told) ∙ ap (preceded h.told) (m h.state rest);
          }

  -- a property breaks where the guard is 1
  refused : (n0 n1 : Unrolled) (st : State) (p : PropId) (g : Guard) (unset : SizedTerm) (before : Image → JointState → Type 0) (behind : Way → Image → JointState → Type 0) (out : Way → Onward) →
      IsPushed n0 n1 g (Prop p.0 unset.term) → ((v : Values) → Respects v n1.terms → bits v unset ≡ 0) → Unwinds fixed n0 n1 st st (λ v s c. broken p c) g nowhere before behind out
  refused n0 n1 st p g unset before behind out P is =
      let one : Step = record { guard = P.guard; act = Prop p.0 unset.term } in
      record {
        grown = P.grows.grown;
        more = one ∷ [];
        list = P.list;
        settled = λ v r q. q;
        idle = λ v r o q. record { passes = trail_one v one ∙ ap (λ n. at_zero n (Through []) (act_trail v (Prop p.0 unset.term))) (P.value v r ∙ o); off = nowhere_bits v; kept = refl };
        live = λ v r l q s h.
            subst (λ t. Follows (λ c. broken p c) t (bits_of v nowhere) (λ w. behind w (look v st)) out)
            (sym (trail_one v one ∙ ap (λ n. at_zero n (Through []) (act_trail v (Prop p.0 unset.term))) (P.value v r ∙ l) ∙ ap (λ n. at_zero n (Halts [] (AtProp p.0)) (Through [])) (is v r)))
            (broken_follows p (bits_of v nowhere) (λ w. behind w (look v st)) out);
      }

module _ (a : Activation) where
  -- one stretch after another, under the first's guard of Next
  pub stretch_chain : (n0 n1 n2 n3 : Unrolled) (s0 s1 s2 : State) (run : Onward) (g : Guard) (f1 f2 f : Flow) (before : Image → JointState → Type 0) (h1 h2 : Way → Image → JointState → Type 0) (out1 out2 : Way → Onward) →
      ((way : Way) (x : Image) (s : JointState) → (way ≡ Next → ⊥) → h1 way x s → h2 way x s) → ((way : Way) (s : JointState) (c : List ℕ) → (way ≡ Next → ⊥) → out1 way s c ≡ out2 way s c) →
      IsStretch a n0 n1 s0 s1 g f1 before h1 run out1 → IsStretch a n1 n2 s1 s2 f1.next f2 (h1 Next) h2 (out1 Next) out2 → IsFlow n2 n3 f (λ v way. merge_of way (bits_of v f1 way) (bits_of v f2 way)) →
      IsStretch a n0 n3 s0 s2 g f before h2 run out2
  stretch_chain n0 n1 n2 n3 s0 s1 s2 run g f1 f2 f before h1 h2 out1 out2 post m A B E = record {
    grows = grows_then n0.terms n1.terms n3.terms A.grows (grows_then n1.terms n2.terms n3.terms B.grows (grows_adds n2 n3 E.adds));
    objects = objects_grow a n2.terms n3.terms s2.objects (grows_adds n2 n3 E.adds) B.objects;
    result = λ h. grown_result a n2.terms n3.terms s2.result (grows_adds n2 n3 E.adds) (B.result (A.result h));
    flow = E.has;
    does = chain (fixed a) n0 n1 n2 n3 s0 s1 s2 (λ v. run) g f1 f2 f before h1 h2 out1 out2 post m A.does B.does E;
  }

  -- the same, in other words
  pub stretch_as : (n0 n1 : Unrolled) (s0 s1 : State) (run run' : Onward) (g : Guard) (f : Flow) (before before' : Image → JointState → Type 0) (behind behind' : Way → Image → JointState → Type 0) (out out' : Way → Onward) →
      ((x : Image) (s : JointState) → before' x s → before x s) → ((s : JointState) (c : List ℕ) → run s c ≡ run' s c) → ((way : Way) (x : Image) (s : JointState) → behind way x s → behind' way x s) → ((way : Way) (s : JointState) (c : List ℕ) → out way s c ≡ out' way s c) →
      IsStretch a n0 n1 s0 s1 g f before behind run out → IsStretch a n0 n1 s0 s1 g f before' behind' run' out'
  stretch_as n0 n1 s0 s1 run run' g f before before' behind behind' out out' pre e post m A = record {
    grows = A.grows;
    objects = A.objects;
    result = A.result;
    flow = A.flow;
    does = unwinds_as (fixed a) n0 n1 s0 s1 (λ v. run) (λ v. run') g f before before' behind behind' out out' pre (λ v r s h c. e s c) post m A.does;
  }

  -- what is known where one way is left, where the ways are put together
  left_next : (xs : List ℕ) (way : Way) (x : Image) (s : JointState) → behind_at a xs way x s → behind_at a xs Next x s
  left_next xs way x s h = stays a xs x s h.state

  turned_behind : (xs : List ℕ) (way : Way) (x : Image) (s : JointState) → behind_at a xs way x s → behind_at a xs (turned_way way) x s
  turned_behind xs Next x s h = h
  turned_behind xs Breaking x s h = h
  turned_behind xs Continuing x s h = left_next xs Continuing x s h
  turned_behind xs Returning x s h = h

  gathered_behind : (xs : List ℕ) (way : Way) (x : Image) (s : JointState) → behind_at a xs way x s → behind_at a xs (gathered_way way) x s
  gathered_behind xs Next x s h = h
  gathered_behind xs Breaking x s h = left_next xs Breaking x s h
  gathered_behind xs Continuing x s h = left_next xs Continuing x s h
  gathered_behind xs Returning x s h = h

  -- a loop's body, behind which `continue` goes on with the loop
  turned_part : (n0 n1 n2 : Unrolled) (s0 s1 : State) (body go : Onward) (g : Guard) (fa f : Flow) (xs ys : List ℕ) → ((j : ℕ) → Contains xs j → Contains ys j) → IsUnwound a n0 n1 s0 s1 g fa xs ys body → IsFlow n1 n2 f (λ v. turned_of (bits_of v fa)) →
      IsStretch a n0 n2 s0 s1 g f (state_at a xs) (behind_at a xs) (λ s c. after_turn (body s c) go) (turn_out go)
  turned_part n0 n1 n2 s0 s1 body go g fa f xs ys sub A T =
      let M = unwinds_mapped (fixed a) (λ e. after_turn e go) (turn_after go) n0 n1 s0 s1 (λ v. body) g fa (state_at a xs) (behind_at a ys) goes A.does in
      record {
        grows = grows_then n0.terms n1.terms n2.terms A.grows (grows_adds n1 n2 T.adds);
        objects = objects_grow a n1.terms n2.terms s1.objects (grows_adds n1 n2 T.adds) A.objects;
        result = λ h. grown_result a n1.terms n2.terms s1.result (grows_adds n1 n2 T.adds) (A.result h);
        flow = T.has;
        does = relabelled (fixed a) n0 n1 n2 s0 s1 (λ v s c. after_turn (body s c) go) g fa f (state_at a xs) (behind_at a ys) (behind_at a xs) (λ way s c. after_turn (goes way s c) go) (turn_out go) turned_way T.adds
            (λ v r way at w. T.ways v r w ∙ turn_same (bits_of v fa) (λ u. way_bit u way) at w ∙ turn_bits w way) (λ v r off w. T.ways v r w ∙ turn_same (bits_of v fa) (λ u. 0) off w ∙ turn_none w)
            (λ way x s h. turned_behind xs way x s (fewer a xs ys sub way x s h)) (turn_outs go) M;
      }

  -- a test of a loop
  test_part : (n0 n3 : Unrolled) (st : State) (e : TExpr) (go : Onward) (g : Guard) (sides : Sides) (c : Scope) → IsTested a n0 n3 st e g sides → HasObjects a.pair.now.program n0.terms st.objects → is_in a c → FitsExpr c e →
      IsStretch a n0 n3 st st g (record { next = sides.taken; breaking = sides.other; continuing = Never; returning = Never }) (state_at a c.locals) (behind_at a c.locals) (tested (test_in a (Some e)) go) (turn_out go)
  test_part n0 n3 st e go g sides c T objects inside fits =
      let k = setting_of a in
      let xs = c.locals in
      let t = T.value in
      let f : Flow = record { next = sides.taken; breaking = sides.other; continuing = Never; returning = Never } in
      let K : ℤ → Onward = λ n s c. if is_zero n then Goes Next s nothing c else go s c in
      let proper = T.split.adds.proper in
      let A = begun (fixed a) n3 st Next sides.taken (state_at a xs) (behind_at a xs) (turn_out go) (stays a xs) in
      let B = begun (fixed a) n3 st Breaking sides.other (state_at a xs) (behind_at a xs) (turn_out go) (breaks a xs) in
      let D = branch (fixed a) T.n2 n3 n3 n3 n3 st st st T.set (λ v. nat_lt 0 (bits v t)) (λ v. turn_out go Next) (λ v. turn_out go Breaking) g sides (flow_at Next sides.taken) (flow_at Breaking sides.other) f (state_at a xs) (behind_at a xs) (turn_out go)
      T.is T.split A B (record { adds = adds_none n3 proper; has = has; ways = ways }) in
      let D' = added_before (fixed a) T.n1 T.n2 n3 st st (λ v s c. if nat_lt 0 (bits v t) then go s c else Goes Next s nothing c) g f (state_at a xs) (behind_at a xs) (turn_out go) T.adds D in
      let D'' = unwinds_as (fixed a) T.n1 n3 st st (λ v s c. if nat_lt 0 (bits v t) then go s c else Goes Next s nothing c) (λ v. K (number e.ty.signed e.ty.bits (bits v t))) g f (state_at a xs) (state_at a xs) (behind_at a xs) (behind_at a xs) (turn_out go) (turn_out go)
      (λ x s h. h) (λ v r s h c. by_value e.ty (bits v t) (go s c) (Goes Next s nothing c)) (λ w x s h. h) (λ w s c. refl) D' in
      record {
        grows = tested_grows a n0 n3 st e g sides T;
        objects = objects_grow a n0.terms n3.terms st.objects (tested_grows a n0 n3 st e g sides T) objects;
        result = grown_result a n0.terms n3.terms st.result (tested_grows a n0 n3 st e g sides T);
        flow = has;
        does = ask (fixed a) n0 T.n1 n3 st st e.ty (λ s. value_of (rows_in k s) e) K g t f (state_at a xs) (behind_at a xs) (turn_out go) (T.valued.asks c inside fits) D'';
      }
    where
      has : HasFlow n3.terms (record { next = sides.taken; breaking = sides.other; continuing = Never; returning = Never })
      has Next = T.split.has_taken
      has Breaking = T.split.has_other
      has Continuing = tt
      has Returning = tt

      ways : (v : Values) → Respects v n3.terms → (w : Way) → bits_of v (record { next = sides.taken; breaking = sides.other; continuing = Never; returning = Never }) w ≡ bit_or (bits_of v (flow_at Next sides.taken) w) (bits_of v (flow_at Breaking sides.other) w)
      ways v r Next = sym (or_zero_r (bit_at v sides.taken))
      ways v r Breaking = sym (or_zero_l (bit_at v sides.other))
      ways v r Continuing = refl
      ways v r Returning = refl

  -- a test of a `for` without a condition
  pub test_none : (n : Unrolled) (st : State) (g : Guard) (f : Flow) (cond : Option TExpr) (xs : List ℕ) → cond ≡ None → IsGraph n.terms → HasObjects a.pair.now.program n.terms st.objects → HasGuard n.terms g → f ≡ flow_at Next g →
      IsPart a n n st st g f xs (λ go. tested (test_in a cond) go)
  test_none n st g f cond xs none proper objects has is go =
      subst (λ (o : Option TExpr). IsStretch a n n st st g f (state_at a xs) (behind_at a xs) (tested (test_in a o) go) (turn_out go)) (sym none)
      (stretch_as n n st st (turn_out go Next) (tested (test_in a None) go) g f (state_at a xs) (state_at a xs) (behind_at a xs) (behind_at a xs) (turn_out go) (turn_out go) (λ x s h. h) (λ s c. refl) (λ w x s h. h) (λ w s c. refl)
      (stretch_way a n st Next g f xs (turn_out go) (stays a xs) proper objects has is))

  -- a test of a condition
  pub test_some : (n0 n3 : Unrolled) (st : State) (e : TExpr) (cond : Option TExpr) (g : Guard) (sides : Sides) (c : Scope) → cond ≡ Some e → IsTested a n0 n3 st e g sides → HasObjects a.pair.now.program n0.terms st.objects → is_in a c → FitsOption c cond →
      IsPart a n0 n3 st st g (record { next = sides.taken; breaking = sides.other; continuing = Never; returning = Never }) c.locals (λ go. tested (test_in a cond) go)
  test_some n0 n3 st e cond g sides c some T objects inside fits go =
      subst (λ (o : Option TExpr). IsStretch a n0 n3 st st g (record { next = sides.taken; breaking = sides.other; continuing = Never; returning = Never }) (state_at a c.locals) (behind_at a c.locals) (tested (test_in a o) go) (turn_out go)) (sym some)
      (test_part n0 n3 st e go g sides c T objects inside (subst (FitsOption c) some fits))

  -- the beginning of a loop
  pub first_tests : (n0 n1 : Unrolled) (s0 s1 : State) (g : Guard) (f : Flow) (xs : List ℕ) (t : Bool) (cond : Option TExpr) → t ≡ true → IsPart a n0 n1 s0 s1 g f xs (λ go. tested (test_in a cond) go) → IsPart a n0 n1 s0 s1 g f xs (first_part t (test_in a cond))
  first_tests n0 n1 s0 s1 g f xs t cond is A go = subst (λ (b : Bool). IsStretch a n0 n1 s0 s1 g f (state_at a xs) (behind_at a xs) (first_part b (test_in a cond) go) (turn_out go)) (sym is) (A go)

  pub first_turns : (n : Unrolled) (st : State) (g : Guard) (f : Flow) (xs : List ℕ) (t : Bool) (cond : Option TExpr) → t ≡ false → IsGraph n.terms → HasObjects a.pair.now.program n.terms st.objects → HasGuard n.terms g → f ≡ flow_at Next g →
      IsPart a n n st st g f xs (first_part t (test_in a cond))
  first_turns n st g f xs t cond is proper objects has only go =
      subst (λ (b : Bool). IsStretch a n n st st g f (state_at a xs) (behind_at a xs) (first_part b (test_in a cond) go) (turn_out go)) (sym is)
      (stretch_way a n st Next g f xs (turn_out go) (stays a xs) proper objects has only)

  -- a turn of a loop
  pub turn_made : (n0 n1 n2 n3 n4 n5 n6 : Unrolled) (s0 s1 s2 : State) (l : TLoop) (g : Guard) (fa fb fs ft fr f : Flow) (xs ys : List ℕ) → ((j : ℕ) → Contains xs j → Contains ys j) → ((y : TStmt) → (out-TLoop l).step ≡ Some y → IsTrue (is_simple y.node)) →
      IsUnwound a n0 n1 s0 s1 g fa xs ys (after (setting_of a) (calls_in a) (out-TLoop l).body.place (out-TLoop l).body.node) → IsFlow n1 n2 fb (λ v. turned_of (bits_of v fa)) →
      IsUnwound a n2 n3 s1 s2 fb.next fs xs xs (after_option (setting_of a) (calls_in a) (out-TLoop l).step) → IsPart a n3 n4 s2 s2 fs.next ft xs (λ go. tested (test_in a (out-TLoop l).cond) go) →
      IsFlow n4 n5 fr (λ v way. merge_of way (bits_of v fs way) (bits_of v ft way)) → IsFlow n5 n6 f (λ v way. merge_of way (bits_of v fb way) (bits_of v fr way)) → IsPart a n0 n6 s0 s2 g f xs (turn_of a l)
  turn_made n0 n1 n2 n3 n4 n5 n6 s0 s1 s2 l g fa fb fs ft fr f xs ys sub simple A B S T M1 M2 go =
      let body : Onward = after (setting_of a) (calls_in a) (out-TLoop l).body.place (out-TLoop l).body.node in
      let step : Onward = after_option (setting_of a) (calls_in a) (out-TLoop l).step in
      let more : Onward = tested (test_in a (out-TLoop l).cond) go in
      let rest : Onward = λ s c. then_do (step s c) more in
      let pre : (x : Image) (s : JointState) → behind_at a xs Next x s → state_at a xs x s = λ x s h. h.state in
      let fall : AllFall step = option_falls (setting_of a) (calls_in a) (λ place f args. calls_fall a.pair.now a.bounds.now a.left a.standing.now place f args) (out-TLoop l).step simple in
      let S1 = falls_on (fixed a) n2 n3 s1 s2 step more fb.next fs (state_at a xs) (behind_at a xs) (behind_at a xs) (turn_out more) fall (λ x s h. h) (λ s c. refl) S.does in
      let S2 : IsStretch a n2 n3 s1 s2 fb.next fs (state_at a xs) (behind_at a xs) rest (turn_out more) = record { grows = S.grows; objects = S.objects; result = S.result; flow = S.flow; does = S1 } in
      let S3 = stretch_as n2 n3 s1 s2 rest rest fb.next fs (state_at a xs) (behind_at a xs Next) (behind_at a xs) (behind_at a xs) (turn_out more) (turn_out more) pre (λ s c. refl) (λ w x s h. h) (λ w s c. refl) S2 in
      let T1 = stretch_as n3 n4 s2 s2 more more fs.next ft (state_at a xs) (behind_at a xs Next) (behind_at a xs) (behind_at a xs) (turn_out go) (turn_out go) pre (λ s c. refl) (λ w x s h. h) (λ w s c. refl) (T go) in
      let E = stretch_chain n2 n3 n4 n5 s1 s2 s2 rest fb.next fs ft fr (behind_at a xs Next) (behind_at a xs) (behind_at a xs) (turn_out more) (turn_out go) (λ w x s isnt h. h) (λ w s c isnt. turn_leaves more go w s c isnt) S3 T1 M1 in
      stretch_chain n0 n2 n5 n6 s0 s1 s2 (λ s c. after_turn (body s c) rest) g fb fr f (state_at a xs) (behind_at a xs) (behind_at a xs) (turn_out rest) (turn_out go) (λ w x s isnt h. h) (λ w s c isnt. turn_leaves rest go w s c isnt)
      (turned_part n0 n1 n2 s0 s1 body rest g fa fb xs ys sub A B) E M2

  -- so many turns are left, where these locals are declared
  abbrev pub TurnsLeft : (n0 n1 : Unrolled) (s0 s1 : State) (l : TLoop) (g : Guard) (ways : Flow) (xs : List ℕ) (n : ℕ) → Type 0
  TurnsLeft n0 n1 s0 s1 l g ways xs n = IsStretch a n0 n1 s0 s1 g ways (state_at a xs) (behind_at a xs) (loop_in a l) (turn_out (turns_in a l n))

  turns_more : (n0 n1 n2 n3 : Unrolled) (s0 s1 s2 : State) (l : TLoop) (g : Guard) (ways f ways' : Flow) (xs : List ℕ) (n : ℕ) → TurnsLeft n0 n1 s0 s1 l g ways xs (suc n) → IsPart a n1 n2 s1 s2 ways.next f xs (turn_of a l) →
      IsFlow n2 n3 ways' (λ v way. merge_of way (bits_of v ways way) (bits_of v f way)) → TurnsLeft n0 n3 s0 s2 l g ways' xs n
  turns_more n0 n1 n2 n3 s0 s1 s2 l g ways f ways' xs n A T E =
      let go = turns_in a l n in
      let B = stretch_as n1 n2 s1 s2 (turn_of a l go) (turn_of a l go) ways.next f (state_at a xs) (behind_at a xs Next) (behind_at a xs) (behind_at a xs) (turn_out go) (turn_out go) (λ x s h. h.state) (λ s c. refl) (λ w x s h. h) (λ w s c. refl) (T go) in
      stretch_chain n0 n1 n2 n3 s0 s1 s2 (loop_in a l) g ways f ways' (state_at a xs) (behind_at a xs) (behind_at a xs) (turn_out (turns_in a l (suc n))) (turn_out go) (λ w x s isnt h. h) (λ w s c isnt. turn_leaves (turns_in a l (suc n)) go w s c isnt) A B E

  -- behind the last turn
  turns_over : (n0 n1 n4 : Unrolled) (s0 s1 : State) (l : TLoop) (g : Guard) (ways f : Flow) (xs : List ℕ) → TurnsLeft n0 n1 s0 s1 l g ways xs 0 → IsEnded n1 n4 ways f (out-TLoop l).unwind → IsUnwound a n0 n4 s0 s1 g f xs xs (loop_in a l)
  turns_over n0 n1 n4 s0 s1 l g ways f xs A E =
      let p = (out-TLoop l).unwind in
      let n2 = E.n1 in
      let n3 = E.n2 in
      let built = adds_built n1 n2 0 1 E.made.builds E.list in
      let B = refused (fixed a) n2 n3 s1 p ways.next E.unset (behind_at a xs Next) (behind_at a xs) (turn_out (goes Next)) E.pushed (λ v r. E.made.value v (E.pushed.grows.grown v r)) in
      let B' = added_before (fixed a) n1 n2 n3 s1 s1 (λ v s c. broken p c) ways.next nowhere (behind_at a xs Next) (behind_at a xs) (turn_out (goes Next)) built B in
      let grown : Grows n1.terms n3.terms = grows_then n1.terms n2.terms n3.terms (grows_adds n1 n2 built) E.pushed.grows in
      let C : IsStretch a n1 n3 s1 s1 ways.next nowhere (behind_at a xs Next) (behind_at a xs) (turns_in a l 0) (turn_out (goes Next)) = record { grows = grown; objects = objects_grow a n1.terms n3.terms s1.objects grown A.objects; result = grown_result a n1.terms n3.terms s1.result grown; flow = nowhere_has n3.terms; does = B' } in
      let D = stretch_chain n0 n1 n3 n3 s0 s1 s1 (loop_in a l) g ways nowhere (left_of ways) (state_at a xs) (behind_at a xs) (behind_at a xs) (turn_out (turns_in a l 0)) (turn_out (goes Next)) (λ w x s isnt h. h) (λ w s c isnt. turn_leaves (turns_in a l 0) (goes Next) w s c isnt)
      A C (record { adds = adds_none n3 grown.proper; has = left_has n3.terms ways (λ w. flow_grows n1.terms n3.terms ways grown A.flow w); ways = λ v r w. left_bits v ways w }) in
      record {
        grows = grows_then n0.terms n3.terms n4.terms D.grows (grows_adds n3 n4 E.flow.adds);
        objects = objects_grow a n3.terms n4.terms s1.objects (grows_adds n3 n4 E.flow.adds) D.objects;
        result = λ h. grown_result a n3.terms n4.terms s1.result (grows_adds n3 n4 E.flow.adds) (D.result h);
        flow = E.flow.has;
        does = relabelled (fixed a) n0 n3 n4 s0 s1 (λ v. loop_in a l) g (left_of ways) f (state_at a xs) (behind_at a xs) (behind_at a xs) (turn_out (goes Next)) goes gathered_way E.flow.adds
            (λ v r way at w. E.flow.ways v r w ∙ gather_same (bits_of v (left_of ways)) (λ u. way_bit u way) at w ∙ gather_bits w way) (λ v r off w. E.flow.ways v r w ∙ gather_same (bits_of v (left_of ways)) (λ u. 0) off w ∙ gather_none w)
            (gathered_behind xs) gather_outs D.does;
      }

  -- heads, and the loop behind them
  loop_made : (n0 n1 n2 n3 : Unrolled) (s0 s1 s2 : State) (l : TLoop) (g : Guard) (fh fl f : Flow) (xs : List ℕ) → AreUnwound a n0 n1 s0 s1 g fh xs (behind_items (out-TLoop l).heads xs) (after_items (setting_of a) (calls_in a) (out-TLoop l).heads) →
      IsUnwound a n1 n2 s1 s2 fh.next fl (behind_items (out-TLoop l).heads xs) (behind_items (out-TLoop l).heads xs) (loop_in a l) → IsFlow n2 n3 f (λ v way. merge_of way (bits_of v fh way) (bits_of v fl way)) →
      IsUnwound a n0 n3 s0 s2 g f xs xs (after_loop (setting_of a) (calls_in a) l)
  loop_made n0 n1 n2 n3 s0 s1 s2 l g fh fl f xs A B E =
      let items = (out-TLoop l).heads in
      let ys = behind_items items xs in
      let heads : Onward = after_items (setting_of a) (calls_in a) items in
      let go : Onward = loop_in a l in
      let sub : (j : ℕ) → Contains xs j → Contains ys j = items_declare items xs in
      let M = unwinds_mapped (fixed a) (λ e. then_do e go) (then_after go) n0 n1 s0 s1 (λ v. heads) g fh (state_at a xs) (between a xs ys) goes A.does in
      let M' : IsStretch a n0 n1 s0 s1 g fh (state_at a xs) (between a xs ys) (λ s c. then_do (heads s c) go) (λ way s c. then_do (goes way s c) go) = record { grows = A.grows; objects = A.objects; result = A.result; flow = A.flow; does = M } in
      let A' = stretch_as n0 n1 s0 s1 (λ s c. then_do (heads s c) go) (λ s c. then_do (heads s c) go) g fh (state_at a xs) (state_at a xs) (between a xs ys) (between a xs ys) (λ way s c. then_do (goes way s c) go) (rest_out go) (λ x s h. h) (λ s c. refl) (λ w x s h. h) (then_outs go) M' in
      let B' = stretch_as n1 n2 s1 s2 go go fh.next fl (state_at a ys) (between a xs ys Next) (behind_at a ys) (behind_at a xs) goes (rest_out (goes Next)) (λ x s h. h.state) (λ s c. refl) (fewer a xs ys sub) (λ way s c. sym (rest_goes way s c)) B in
      let C = stretch_chain n0 n1 n2 n3 s0 s1 s2 (λ s c. then_do (heads s c) go) g fh fl f (state_at a xs) (between a xs ys) (behind_at a xs) (rest_out go) (rest_out (goes Next)) (λ way x s isnt h. out_of a xs ys sub way x s h) (λ way s c isnt. rest_leaves go (goes Next) way s c isnt) A' B' E in
      let behind_heads : Onward → Onward = λ r s c. then_do (heads s c) r in
      let whole = sym (after-loop (setting_of a) (calls_in a) l ∙ ap behind_heads
      (sym (first_is (out-TLoop l).tests_first (limit_of a.bounds.now (out-TLoop l).unwind) (test_in a (out-TLoop l).cond) (after (setting_of a) (calls_in a) (out-TLoop l).body.place (out-TLoop l).body.node) (after_option (setting_of a) (calls_in a) (out-TLoop l).step) (out-TLoop l).unwind))) in
      subst (λ (r : Onward). IsUnwound a n0 n3 s0 s2 g f xs xs r) whole
      (stretch_as n0 n3 s0 s2 (λ s c. then_do (heads s c) go) (λ s c. then_do (heads s c) go) g f (state_at a xs) (state_at a xs) (behind_at a xs) (behind_at a xs) (rest_out (goes Next)) goes (λ x s h. h) (λ s c. refl) (λ w x s h. h) rest_goes C)

-- a loop, of which so many turns are left, in each scope in which it fits
pub record LoopLeft (a : Activation) (n0 n1 : Unrolled) (s0 s1 : State) (l : TLoop) (g : Guard) (ways : Flow) (n : ℕ) : Type 0 where
  pub grows : Grows n0.terms n1.terms
  pub objects : HasObjects a.pair.now.program n1.terms s1.objects
  pub result : HasResult (result_in a) n0.terms s0.result → HasResult (result_in a) n1.terms s1.result
  pub flow : HasFlow n1.terms ways
  pub does : (c : Scope) → is_in a c → FitsTurn c l → TurnsLeft a n0 n1 s0 s1 l g ways c.locals n

module _ (a : Activation) where
  pub left_first : (n0 n1 : Unrolled) (s0 s1 : State) (l : TLoop) (g : Guard) (ways : Flow) (n : ℕ) (d : Scope) → is_in a d → FitsTurn d l → n ≡ limit_of a.bounds.now (out-TLoop l).unwind →
      ((c : Scope) → is_in a c → FitsOption c (out-TLoop l).cond → IsPart a n0 n1 s0 s1 g ways c.locals (first_part (out-TLoop l).tests_first (test_in a (out-TLoop l).cond))) → LoopLeft a n0 n1 s0 s1 l g ways n
  left_first n0 n1 s0 s1 l g ways n d inside fits is A =
      let left : (c : Scope) → is_in a c → FitsTurn c l → TurnsLeft a n0 n1 s0 s1 l g ways c.locals n = λ c q h. subst (TurnsLeft a n0 n1 s0 s1 l g ways c.locals) (sym is)
      (A c q h.cond (turns_in a l (limit_of a.bounds.now (out-TLoop l).unwind))) in
      let one = left d inside fits in
      record { grows = one.grows; objects = one.objects; result = one.result; flow = one.flow; does = left }

  pub left_more : (n0 n1 n2 n3 : Unrolled) (s0 s1 s2 : State) (l : TLoop) (g : Guard) (ways f ways' : Flow) (m n : ℕ) (d : Scope) → is_in a d → FitsTurn d l → m ≡ suc n → LoopLeft a n0 n1 s0 s1 l g ways m →
      ((c : Scope) → is_in a c → FitsTurn c l → IsPart a n1 n2 s1 s2 ways.next f c.locals (turn_of a l)) → IsFlow n2 n3 ways' (λ v way. merge_of way (bits_of v ways way) (bits_of v f way)) → LoopLeft a n0 n3 s0 s2 l g ways' n
  left_more n0 n1 n2 n3 s0 s1 s2 l g ways f ways' m n d inside fits is S T E =
      let left : (c : Scope) → is_in a c → FitsTurn c l → TurnsLeft a n0 n3 s0 s2 l g ways' c.locals n = λ c q h.
      turns_more a n0 n1 n2 n3 s0 s1 s2 l g ways f ways' c.locals n (subst (TurnsLeft a n0 n1 s0 s1 l g ways c.locals) is (S.does c q h)) (T c q h) E in
      let one = left d inside fits in
      record { grows = one.grows; objects = one.objects; result = one.result; flow = one.flow; does = left }

  pub left_over : (n0 n1 n4 : Unrolled) (s0 s1 : State) (l : TLoop) (g : Guard) (ways f : Flow) (n : ℕ) (c : Scope) → is_in a c → FitsTurn c l → n ≡ 0 → LoopLeft a n0 n1 s0 s1 l g ways n → IsEnded n1 n4 ways f (out-TLoop l).unwind →
      IsUnwound a n0 n4 s0 s1 g f c.locals c.locals (loop_in a l)
  left_over n0 n1 n4 s0 s1 l g ways f n c inside fits is S E = turns_over a n0 n1 n4 s0 s1 l g ways f c.locals (subst (TurnsLeft a n0 n1 s0 s1 l g ways c.locals) is (S.does c inside fits)) E

  -- a loop
  pub done_loop : (n0 n1 n2 n3 : Unrolled) (s0 s1 s2 : State) (l : TLoop) (items : List TStmt) (g : Guard) (fh fl f : Flow) (c : Scope) → is_in a c → FitsLoop c l → items ≡ (out-TLoop l).heads →
      ((d : Scope) → is_in a d → FitsItems d items → AreUnwound a n0 n1 s0 s1 g fh d.locals (behind_items items d.locals) (after_items (setting_of a) (calls_in a) items)) →
      ((d : Scope) → is_in a d → FitsTurn d l → IsUnwound a n1 n2 s1 s2 fh.next fl d.locals d.locals (loop_in a l)) → IsFlow n2 n3 f (λ v way. merge_of way (bits_of v fh way) (bits_of v fl way)) →
      IsUnwound a n0 n3 s0 s2 g f c.locals c.locals (after_loop (setting_of a) (calls_in a) l)
  done_loop n0 n1 n2 n3 s0 s1 s2 l items g fh fl f c inside fits heads A B M =
      loop_made a n0 n1 n2 n3 s0 s1 s2 l g fh fl f c.locals
      (subst (λ (l' : List TStmt). AreUnwound a n0 n1 s0 s1 g fh c.locals (behind_items l' c.locals) (after_items (setting_of a) (calls_in a) l')) heads (A c inside (fits_heads c l items heads fits)))
      (B (inner_of c l) inside (fits_turns c l fits)) M
