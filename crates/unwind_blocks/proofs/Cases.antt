-- A switch, group by group.
use Rattle.std.proofs.Common.{◌≡◌, ℕ, zero, suc, ◌+◌, ◌<◌, List, [], ◌∷◌, length, drop, Bool, true, false, ◌⊎◌, inl, inr, Option, Some, None, refl, sym, ap, ◌∙◌, subst, append-nil, arith}
use Rattle.std.specs.Prelude.{ℤ, All, bit_or, bit_and, nat_lt, eqb, slice_index_or}
use Rattle.std.specs.List.{list_any}
use Rattle.std.proofs.lemmas.Bool.Decides.{nat_tests}
use Rattle.std.proofs.lemmas.List.{drop_more}
use Rattle.std.proofs.lemmas.List.Elements.{All-cons, All-get_or, All-nil}
use denote.Hole.Carrier.{out}
use Rattle.bits_core.specs.Word.{bit}
use Rattle.word_eqs.specs.Graph.{Graph, IsGraph}
use Rattle.word_eqs.specs.Meaning.{Values, Respects}
use Rattle.joint_ir.specs.declared.ctype.IntType.{IntType}
use Rattle.joint_ir.specs.declared.expr.TExpr.{TExpr}
use Rattle.joint_ir.specs.declared.stmt.Group.{Group, Group', out-Group}
use Rattle.joint_ir.specs.declared.stmt.SNode.{SNode, Switch, Row_of-Group, end_of-Group, more_of-Group}
use Rattle.joint_ir.specs.declared.stmt.SNode.TheBlock.{items-the_row-Group, hidden-the_row-Group-2, items_hidden-the_row-Group-2}
use Rattle.joint_ir.specs.declared.stmt.TStmt.{TStmt}
use Rattle.joint_ir.specs.declared.way.Way.{Way}
use Rattle.joint_ir.specs.declared.way.Way.TheVariants.{Next, Breaking, Continuing, Returning}
use Rattle.joint_ir.specs.Effects.{Effect, Told, nothing, Goes, Stops, TooFew, Onward, preceded, then_do, after_groups, with_value}
use Rattle.joint_ir.specs.States.{JointState}
use Rattle.joint_ir.specs.Statements.{is_case, is_default}
use Rattle.joint_ir.specs.Steps.{rows_in}
use Rattle.joint_ir.specs.Types.{IsType}
use Rattle.joint_ir.specs.Values.{value_of}
use Rattle.joint_ir.specs.WellFormed.{Scope, FitsExpr, FitsGroup, FitsGroups, FitsLabel, FitsStmt, in_a_switch}
use Rattle.joint_lists.specs.Lists.{after_cases, after_items, case_with, entered_case, or_else, FitsCases, FitsItems}
use Rattle.sized_terms.specs.declared.SizedTerm.{SizedTerm}
use Rattle.unrolled.specs.declared.Unrolled.{Unrolled}
use Rattle.trails.specs.Following.{way_bit, goes}
use Rattle.trails.proofs.Ways.{IsAfter}
use Rattle.unwind_state.specs.declared.state.Flow.{Flow}
use Rattle.unwind_state.specs.declared.state.Guard.{Guard}
use Rattle.unwind_state.specs.declared.state.Guard.TheVariants.{Never}
use Rattle.unwind_state.specs.declared.state.State.{State}
use Rattle.unwind_state.specs.Guards.{HasFlow, HasGuard, IsFlow, bit_at, bits_of, merge_of}
use Rattle.unwind_state.specs.Images.{Image}
use Rattle.unwind_state.specs.Unwinding.{Grows}
use Rattle.unwind_state.specs.Writing.{HasObjects, HasResult}
use Rattle.unwind_state.proofs.Gates.{guard_below, guard_kept}
use Rattle.unwind_state.proofs.Pieces.{ask}
use Rattle.unwind_state.proofs.Stretches.{unwinds_as, unwinds_mapped, relabelled, added_before}
use Rattle.unwind_simple.specs.declared.simple.Activation.{Activation}
use Rattle.unwind_simple.specs.Simple.{setting_of, calls_in, result_in, is_in, IsValued}
use Rattle.unwind_simple.proofs.Statements.{grown_result}
use Rattle.switch_guards.specs.Entries.{AreEntries, FitLabels, is_nowhere, is_place, number_of}
use Rattle.switch_guards.specs.Ways.{entered_of, switched_of}
use Rattle.switch_guards.proofs.Entering.{UnwindsWhere, HasEntered, where_guard, entering, chain_where}
use Rattle.switch_guards.proofs.Placing.{default_below, position_below}
use Rattle.unwind_blocks.specs.Blocks.{AreUnwound, IsUnwound, behind_items, state_at, behind_at}
use Rattle.unwind_blocks.specs.Switches.{AreCases, cases_at}
use Rattle.unwind_blocks.proofs.Orders.{fixed, stays, rest_out, rest_leaves, rest_goes, then_after, then_outs}
use Rattle.unwind_blocks.proofs.Branches.{grows_then, grows_adds, objects_grow, done_block}

-- the groups, where control enters at a place
abbrev pub from_place : Activation → List Group → Option ℕ → Onward
from_place a groups None s c = Goes Next s nothing c
from_place a groups (Some i) s c = after_cases (setting_of a) (calls_in a) (drop i groups) s c

-- control enters before a group
abbrev pub is_before : ℕ → Option ℕ → Bool
is_before i None = false
is_before i (Some j) = nat_lt j i

-- 1 where control has entered before a group
abbrev pub begun_at : Guard → ℕ → (Values → Option ℕ) → Values → ℕ
begun_at g i place v = bit_and (bit_at v g) (bit (is_before i (place v)))

-- bits of places

and_false : (n : ℕ) → n < 2 → bit_and n 0 ≡ 0
and_false zero h = refl
and_false (suc zero) h = refl
and_false (suc (suc n)) h = absurd (omega arith)

lt_zero : (j : ℕ) → nat_lt j 0 ≡ false
lt_zero j = grind (arith, nat_tests)

none_before : (o : Option ℕ) → is_before 0 o ≡ false
none_before None = refl
none_before (Some j) = lt_zero j

more_less : (i j : ℕ) → nat_lt j i ≡ true → nat_lt j (suc i) ≡ true
more_less i j p = grind (arith, nat_tests)

less_isnt : (i j : ℕ) → nat_lt j i ≡ true → eqb j i ≡ false
less_isnt i j p = grind (arith, nat_tests)

same_less : (i j : ℕ) → eqb j i ≡ true → nat_lt j (suc i) ≡ true
same_less i j p = grind (arith, nat_tests)

no_more : (i j : ℕ) → nat_lt j i ≡ false → eqb j i ≡ false → nat_lt j (suc i) ≡ false
no_more i j p q = grind (arith, nat_tests)

zero_one : (n : ℕ) → n ≡ 0 → n ≡ 1 → ⊥
zero_one n p q = omega arith

-- tests of a place against the next group
lt_or_is : (i j : ℕ) → ((nat_lt j (suc i) ≡ false) × (nat_lt j i ≡ false) × (eqb j i ≡ false)) ⊎ (((nat_lt j (suc i) ≡ true) × (nat_lt j i ≡ true) × (eqb j i ≡ false)) ⊎ ((nat_lt j (suc i) ≡ true) × (nat_lt j i ≡ false) × (eqb j i ≡ true)))
lt_or_is i j = by_both (nat_lt j i) (eqb j i) refl refl
  where
    by_both : (a b : Bool) → nat_lt j i ≡ a → eqb j i ≡ b →
        ((nat_lt j (suc i) ≡ false) × (nat_lt j i ≡ false) × (eqb j i ≡ false)) ⊎ (((nat_lt j (suc i) ≡ true) × (nat_lt j i ≡ true) × (eqb j i ≡ false)) ⊎ ((nat_lt j (suc i) ≡ true) × (nat_lt j i ≡ false) × (eqb j i ≡ true)))
    by_both true b p q = inr (inl (more_less i j p, p, less_isnt i j p))
    by_both false true p q = inr (inr (same_less i j q, p, q))
    by_both false false p q = inl (no_more i j p q, p, q)

tests_of : (i : ℕ) (o : Option ℕ) → ((is_before (suc i) o ≡ false) × (is_before i o ≡ false) × (is_place i o ≡ false)) ⊎ (((is_before (suc i) o ≡ true) × (is_before i o ≡ true) × (is_place i o ≡ false)) ⊎ ((is_before (suc i) o ≡ true) × (is_before i o ≡ false) × (is_place i o ≡ true)))
tests_of i None = inl (refl, refl, refl)
tests_of i (Some j) = lt_or_is i j

by_tests : (G : ℕ) → G < 2 → (next now here : Bool) → ((next ≡ false) × (now ≡ false) × (here ≡ false)) ⊎ (((next ≡ true) × (now ≡ true) × (here ≡ false)) ⊎ ((next ≡ true) × (now ≡ false) × (here ≡ true))) →
    HasEntered (bit_and G (bit now)) (bit_and G (bit next)) (bit_and G (bit here))
by_tests zero few true true true q = inl (refl, refl, refl)
by_tests zero few true true false q = inl (refl, refl, refl)
by_tests zero few true false true q = inl (refl, refl, refl)
by_tests zero few true false false q = inl (refl, refl, refl)
by_tests zero few false true true q = inl (refl, refl, refl)
by_tests zero few false true false q = inl (refl, refl, refl)
by_tests zero few false false true q = inl (refl, refl, refl)
by_tests zero few false false false q = inl (refl, refl, refl)
by_tests (suc zero) few next now here (inl (p, q, r)) = inl (ap (λ b. bit_and 1 (bit b)) p, ap (λ b. bit_and 1 (bit b)) q, ap (λ b. bit_and 1 (bit b)) r)
by_tests (suc zero) few next now here (inr (inl (p, q, r))) = inr (inl (ap (λ b. bit_and 1 (bit b)) p, ap (λ b. bit_and 1 (bit b)) q, ap (λ b. bit_and 1 (bit b)) r))
by_tests (suc zero) few next now here (inr (inr (p, q, r))) = inr (inr (ap (λ b. bit_and 1 (bit b)) p, ap (λ b. bit_and 1 (bit b)) q, ap (λ b. bit_and 1 (bit b)) r))
by_tests (suc (suc n)) few next now here q = absurd (omega arith)

-- behind all groups
past_tests : (n : ℕ) (o : Option ℕ) → ((j : ℕ) → o ≡ Some j → j < n) → ((is_before n o ≡ true) × (is_nowhere o ≡ false)) ⊎ ((is_before n o ≡ false) × (is_nowhere o ≡ true))
past_tests n None below = inr (refl, refl)
past_tests n (Some j) below = inl (is_less n j (below j refl), refl)
  where
    is_less : (n j : ℕ) → j < n → nat_lt j n ≡ true
    is_less n j h = grind (arith, nat_tests)

by_past : (G : ℕ) → G < 2 → (now past : Bool) → ((now ≡ true) × (past ≡ false)) ⊎ ((now ≡ false) × (past ≡ true)) → HasEntered (bit_and G (bit now)) G (bit_and G (bit past))
by_past zero few true past q = by_zero past
  where
    by_zero : (b : Bool) → HasEntered (bit_and 0 (bit true)) 0 (bit_and 0 (bit b))
    by_zero true = inl (refl, refl, refl)
    by_zero false = inl (refl, refl, refl)
by_past zero few false past q = by_zero past
  where
    by_zero : (b : Bool) → HasEntered (bit_and 0 (bit false)) 0 (bit_and 0 (bit b))
    by_zero true = inl (refl, refl, refl)
    by_zero false = inl (refl, refl, refl)
by_past (suc zero) few now past (inl (p, q)) = inr (inl (refl, ap (λ b. bit_and 1 (bit b)) p, ap (λ b. bit_and 1 (bit b)) q))
by_past (suc zero) few now past (inr (p, q)) = inr (inr (refl, ap (λ b. bit_and 1 (bit b)) p, ap (λ b. bit_and 1 (bit b)) q))
by_past (suc (suc n)) few now past q = absurd (omega arith)

-- a guard that is 1 tells the place
same_place : (j i : ℕ) → eqb j i ≡ true → j ≡ i
same_place j i e = grind (arith, nat_tests)

is_here : (G : ℕ) → G < 2 → (i : ℕ) (o : Option ℕ) → bit_and G (bit (is_place i o)) ≡ 1 → o ≡ Some i
is_here G few i None e = absurd (zero_one (bit_and G 0) (and_false G few) e)
is_here G few i (Some j) e = ap Some (same_place j i (by_bit (eqb j i) refl))
  where
    by_bit : (b : Bool) → eqb j i ≡ b → eqb j i ≡ true
    by_bit true q = q
    by_bit false q = absurd (zero_one (bit_and G (bit (eqb j i))) (ap (λ b. bit_and G (bit b)) q ∙ and_false G few) e)

is_past : (G : ℕ) → G < 2 → (o : Option ℕ) → bit_and G (bit (is_nowhere o)) ≡ 1 → o ≡ None
is_past G few None e = refl
is_past G few (Some j) e = absurd (zero_one (bit_and G 0) (and_false G few) e)

-- a place is that of a group
or_else_below : (n : ℕ) (p q : Option ℕ) → ((j : ℕ) → p ≡ Some j → j < n) → ((j : ℕ) → q ≡ Some j → j < n) → (j : ℕ) → or_else p q ≡ Some j → j < n
or_else_below n None q hp hq j e = hq j e
or_else_below n (Some i) q hp hq j e = hp j e

pub entered_below : (n : ℤ) (groups : List Group) (j : ℕ) → entered_case n groups ≡ Some j → j < length groups
entered_below n groups j e =
    or_else_below (length groups) (case_with (is_case n) groups) (case_with is_default groups) (λ j q. let r = position_below (λ h. list_any (is_case n) (out-Group h).labels) 0 groups j q in omega (arith, r)) (default_below groups) j e

-- behind a switch

switch_after : IsAfter after_groups
switch_after = record { stops = λ o told c. refl; precedes = precedes }
  where
    precedes : (told : Told) (e : Effect) → after_groups (preceded told e) ≡ preceded told (after_groups e)
    precedes told (Goes Next s more c) = refl
    precedes told (Goes Breaking s more c) = refl
    precedes told (Goes Continuing s more c) = refl
    precedes told (Goes Returning s more c) = refl
    precedes told (Stops o more c) = refl
    precedes told TooFew = refl

abbrev switched_way : Way → Way
switched_way Next = Next
switched_way Breaking = Next
switched_way Continuing = Continuing
switched_way Returning = Returning

switch_outs : (way : Way) (s : JointState) (c : List ℕ) → after_groups (goes way s c) ≡ goes (switched_way way) s c
switch_outs Next s c = refl
switch_outs Breaking s c = refl
switch_outs Continuing s c = refl
switch_outs Returning s c = refl

switch_bits : (w way : Way) → switched_of (λ u. way_bit u way) w ≡ way_bit w (switched_way way)
switch_bits Next Next = refl
switch_bits Next Breaking = refl
switch_bits Next Continuing = refl
switch_bits Next Returning = refl
switch_bits Breaking Next = refl
switch_bits Breaking Breaking = refl
switch_bits Breaking Continuing = refl
switch_bits Breaking Returning = refl
switch_bits Continuing Next = refl
switch_bits Continuing Breaking = refl
switch_bits Continuing Continuing = refl
switch_bits Continuing Returning = refl
switch_bits Returning Next = refl
switch_bits Returning Breaking = refl
switch_bits Returning Continuing = refl
switch_bits Returning Returning = refl

switch_same : (x y : Way → ℕ) → ((w : Way) → x w ≡ y w) → (w : Way) → switched_of x w ≡ switched_of y w
switch_same x y e Next = ap (λ n. bit_or n (x Breaking)) (e Next) ∙ ap (bit_or (y Next)) (e Breaking)
switch_same x y e Breaking = refl
switch_same x y e Continuing = e Continuing
switch_same x y e Returning = e Returning

switch_none : (w : Way) → switched_of (λ u. 0) w ≡ 0
switch_none Next = refl
switch_none Breaking = refl
switch_none Continuing = refl
switch_none Returning = refl

-- no way is live
abbrev pub nowhere : Flow
nowhere = record { next = Never; breaking = Never; continuing = Never; returning = Never }

nowhere_bits : (v : Values) (w : Way) → bits_of v nowhere w ≡ 0
nowhere_bits v Next = refl
nowhere_bits v Breaking = refl
nowhere_bits v Continuing = refl
nowhere_bits v Returning = refl

pub nowhere_has : (g : Graph) → HasFlow g nowhere
nowhere_has g Next = tt
nowhere_has g Breaking = tt
nowhere_has g Continuing = tt
nowhere_has g Returning = tt

-- the first i groups were unwound
pub record CasesLeft (a : Activation) (n0 n : Unrolled) (s0 s : State) (groups : List Group) (i : ℕ) (g : Guard) (place : Values → Option ℕ) (ways : Flow) : Type 0 where
  pub grows : Grows n0.terms n.terms
  pub objects : HasObjects a.pair.now.program n.terms s.objects
  pub result : HasResult (result_in a) n0.terms s0.result → HasResult (result_in a) n.terms s.result
  pub flow : HasFlow n.terms ways
  pub does : (c : Scope) → is_in a c → FitsCases c groups →
      UnwindsWhere (fixed a) n0 n s0 s (λ v. from_place a groups (place v)) (begun_at g i place) ways (state_at a c.locals) (behind_at a c.locals) (rest_out (after_cases (setting_of a) (calls_in a) (drop i groups)))

module _ (a : Activation) where
  pub cases_first : (n : Unrolled) (st : State) (groups : List Group) (g : Guard) (place : Values → Option ℕ) (ways : Flow) → ways ≡ nowhere → IsGraph n.terms → HasObjects a.pair.now.program n.terms st.objects → HasGuard n.terms g → CasesLeft a n n st st groups 0 g place ways
  cases_first n st groups g place ways is proper objects has =
      subst (CasesLeft a n n st st groups 0 g place) (sym is) (record {
        grows = record { grown = λ v r. r; kept = λ x k. k; proper = proper };
        objects = objects;
        result = λ h. h;
        flow = nowhere_has n.terms;
        does = λ c inside fits. record {
          grown = λ v r. r;
          more = [];
          list = sym (append-nil n.list);
          settled = λ v r x. x;
          idle = λ v r o x. record { passes = refl; off = nowhere_bits v; kept = refl };
          live = λ v r l x s h. absurd (let d : 0 ≡ 1 = sym (off v r) ∙ l in cc);
        };
      })
    where
      off : (v : Values) → Respects v n.terms → begun_at g 0 place v ≡ 0
      off v r = ap (λ b. bit_and (bit_at v g) (bit b)) (none_before (place v)) ∙ and_false (bit_at v g) (guard_below v n.terms g proper r has)

  pub cases_more : (n0 n1 n2 n3 n4 : Unrolled) (s0 s1 s2 : State) (groups : List Group) (i : ℕ) (x : Group) (body : List TStmt) (g e : Guard) (place : Values → Option ℕ) (ways f1 fb ways' : Flow) → drop i groups ≡ x ∷ drop (suc i) groups → body ≡ (out-Group x).body → CasesLeft a n0 n1 s0 s1 groups i g place ways →
      ((v : Values) → Respects v n0.terms → bit_at v e ≡ bit_and (bit_at v g) (bit (is_place i (place v)))) → ((v : Values) → Respects v n0.terms → bit_at v g < 2) → IsFlow n1 n2 f1 (λ v. entered_of (bit_at v e) (bits_of v ways)) → (d : Scope) → is_in a d → FitsItems d body →
      ((d : Scope) → is_in a d → FitsItems d body → AreUnwound a n2 n3 s1 s2 f1.next fb d.locals (behind_items body d.locals) (after_items (setting_of a) (calls_in a) body)) → ((d : Scope) → FitsCases d groups → FitsItems d body) →
      IsFlow n3 n4 ways' (λ v way. merge_of way (bits_of v f1 way) (bits_of v fb way)) → CasesLeft a n0 n4 s0 s2 groups (suc i) g place ways'
  cases_more n0 n1 n2 n3 n4 s0 s1 s2 groups i x body g e place ways f1 fb ways' here own S enters few E1 d inside fits D part E2 =
      let one = D d inside fits in
      record {
        grows = grows_then n0.terms n1.terms n4.terms S.grows (grows_then n1.terms n2.terms n4.terms (grows_adds n1 n2 E1.adds) (grows_then n2.terms n3.terms n4.terms one.grows (grows_adds n3 n4 E2.adds)));
        objects = objects_grow a n3.terms n4.terms s2.objects (grows_adds n3 n4 E2.adds) one.objects;
        result = λ h. grown_result a n3.terms n4.terms s2.result (grows_adds n3 n4 E2.adds) (one.result (grown_result a n1.terms n2.terms s1.result (grows_adds n1 n2 E1.adds) (S.result h)));
        flow = E2.has;
        does = does;
      }
    where
      go : Onward
      go = after_cases (setting_of a) (calls_in a) (drop (suc i) groups)

      items : Onward
      items = after_items (setting_of a) (calls_in a) body

      group_is : (s : JointState) (c : List ℕ) → after_cases (setting_of a) (calls_in a) (drop i groups) s c ≡ then_do (items s c) go
      group_is s c = ap (λ (l : List Group). after_cases (setting_of a) (calls_in a) l s c) here ∙ ap (λ (l : List TStmt). then_do (after_items (setting_of a) (calls_in a) l s c) go) (sym own)

      does : (c : Scope) → is_in a c → FitsCases c groups →
          UnwindsWhere (fixed a) n0 n4 s0 s2 (λ v. from_place a groups (place v)) (begun_at g (suc i) place) ways' (state_at a c.locals) (behind_at a c.locals) (rest_out go)
      does c q h =
          let xs = c.locals in
          let A = S.does c q h in
          let r0 : (v : Values) → Respects v n2.terms → Respects v n0.terms = λ v r. A.grown v (E1.adds.grown v r) in
          let A1 = entering (fixed a) n0 n1 n2 s0 s1 (λ v. from_place a groups (place v)) (begun_at g i place) (begun_at g (suc i) place) e ways f1 (state_at a xs) (behind_at a xs) (rest_out (after_cases (setting_of a) (calls_in a) (drop i groups))) (stays a xs)
          (λ v r. subst (HasEntered (begun_at g i place v) (begun_at g (suc i) place v)) (sym (enters v (r0 v r))) (by_tests (bit_at v g) (few v (r0 v r)) (is_before (suc i) (place v)) (is_before i (place v)) (is_place i (place v)) (tests_of i (place v))))
          (λ v r l s c. ap (λ (o : Option ℕ). from_place a groups o s c) (sym (is_here (bit_at v g) (few v (r0 v r)) i (place v) (sym (enters v (r0 v r)) ∙ l)))) A E1 in
          let B = done_block a n2 n3 s1 s2 body f1.next fb xs items (D c q (part c h)) in
          let M = unwinds_mapped (fixed a) (λ e. then_do e go) (then_after go) n2 n3 s1 s2 (λ v. items) f1.next fb (state_at a xs) (behind_at a xs) goes B.does in
          let M' = unwinds_as (fixed a) n2 n3 s1 s2 (λ v s c. then_do (items s c) go) (λ v. rest_out (after_cases (setting_of a) (calls_in a) (drop i groups)) Next) f1.next fb (state_at a xs) (behind_at a xs Next) (behind_at a xs) (behind_at a xs) (λ way s c. then_do (goes way s c) go) (rest_out go)
          (λ y s h. h.state) (λ v r s h c. sym (group_is s c)) (λ w y s h. h) (then_outs go) M in
          chain_where (fixed a) n0 n2 n3 n4 s0 s1 s2 (λ v. from_place a groups (place v)) (begun_at g (suc i) place) f1 fb ways' (state_at a xs) (behind_at a xs) (behind_at a xs) (rest_out (after_cases (setting_of a) (calls_in a) (drop i groups))) (rest_out go)
          (λ w y s isnt h. h) (λ w s c isnt. rest_leaves (after_cases (setting_of a) (calls_in a) (drop i groups)) go w s c isnt) A1 M' E2

  -- what is known where one way is left, where the ways are put together
  switched_behind : (xs : List ℕ) (way : Way) (x : Image) (s : JointState) → behind_at a xs way x s → behind_at a xs (switched_way way) x s
  switched_behind xs Next x s h = h
  switched_behind xs Breaking x s h = stays a xs x s h.state
  switched_behind xs Continuing x s h = h
  switched_behind xs Returning x s h = h

  entry_is : (groups : List Group) (o : Option ℕ) (s : JointState) (c : List ℕ) → after_groups (from_place a groups o s c) ≡ cases_at a groups o s c
  entry_is groups None s c = refl
  entry_is groups (Some i) s c = refl

  pub cases_last : (m n0 n1 n2 n3 : Unrolled) (s0 s1 : State) (groups : List Group) (i : ℕ) (g past : Guard) (guards : List Guard) (ty : IntType) (value : SizedTerm) (ways f1 f : Flow) → drop i groups ≡ [] → i ≡ length groups → HasGuard m.terms g → AreEntries m n0 ty value g groups guards past →
      CasesLeft a n0 n1 s0 s1 groups i g (λ v. entered_case (number_of ty v value) groups) ways → IsFlow n1 n2 f1 (λ v. entered_of (bit_at v past) (bits_of v ways)) → IsFlow n2 n3 f (λ v. switched_of (bits_of v f1)) → (c : Scope) → is_in a c → FitsCases c groups →
      AreCases a m n3 s0 s1 g f c.locals ty value groups
  cases_last m n0 n1 n2 n3 s0 s1 groups i g past guards ty value ways f1 f over count has N S E1 E2 c inside fits =
      let xs = c.locals in
      let place : Values → Option ℕ = λ v. entered_case (number_of ty v value) groups in
      let few : (v : Values) → Respects v n0.terms → bit_at v g < 2 = λ v r. guard_below v n0.terms g N.adds.proper r (guard_kept m n0 g N.adds has) in
      let A = S.does c inside fits in
      let r0 : (v : Values) → Respects v n2.terms → Respects v n0.terms = λ v r. A.grown v (E1.adds.grown v r) in
      let A1 = entering (fixed a) n0 n1 n2 s0 s1 (λ v. from_place a groups (place v)) (begun_at g i place) (λ v. bit_at v g) past ways f1 (state_at a xs) (behind_at a xs) (rest_out (after_cases (setting_of a) (calls_in a) (drop i groups))) (stays a xs)
      (λ v r. subst (HasEntered (begun_at g i place v) (bit_at v g)) (sym (N.passes v (r0 v r))) (by_past (bit_at v g) (few v (r0 v r)) (is_before i (place v)) (is_nowhere (place v)) (past_tests i (place v) (λ j e. let q = entered_below (number_of ty v value) groups j e in omega (arith, q, count)))))
      (λ v r l s c. ap (λ (l : List Group). after_cases (setting_of a) (calls_in a) l s c) over ∙ ap (λ (o : Option ℕ). from_place a groups o s c) (sym (is_past (bit_at v g) (few v (r0 v r)) (place v) (sym (N.passes v (r0 v r)) ∙ l)))) A E1 in
      let B = where_guard (fixed a) n0 n2 s0 s1 (λ v. from_place a groups (place v)) (λ v. bit_at v g) g f1 (state_at a xs) (behind_at a xs) (rest_out (after_cases (setting_of a) (calls_in a) (drop i groups))) (λ v r. refl) A1 in
      let B' = unwinds_as (fixed a) n0 n2 s0 s1 (λ v. from_place a groups (place v)) (λ v. from_place a groups (place v)) g f1 (state_at a xs) (state_at a xs) (behind_at a xs) (behind_at a xs) (rest_out (after_cases (setting_of a) (calls_in a) (drop i groups))) goes
      (λ x s h. h) (λ v r s h c. refl) (λ w x s h. h) (λ w s c. ap (λ (l : List Group). rest_out (after_cases (setting_of a) (calls_in a) l) w s c) over ∙ rest_goes w s c) B in
      let M = unwinds_mapped (fixed a) after_groups switch_after n0 n2 s0 s1 (λ v. from_place a groups (place v)) g f1 (state_at a xs) (behind_at a xs) goes B' in
      let R = relabelled (fixed a) n0 n2 n3 s0 s1 (λ v s c. after_groups (from_place a groups (place v) s c)) g f1 f (state_at a xs) (behind_at a xs) (behind_at a xs) (λ way s c. after_groups (goes way s c)) goes switched_way E2.adds
      (λ v r way at w. E2.ways v r w ∙ switch_same (bits_of v f1) (λ u. way_bit u way) at w ∙ switch_bits w way) (λ v r off w. E2.ways v r w ∙ switch_same (bits_of v f1) (λ u. 0) off w ∙ switch_none w)
      (switched_behind xs) switch_outs M in
      let R' = unwinds_as (fixed a) n0 n3 s0 s1 (λ v s c. after_groups (from_place a groups (place v) s c)) (λ v. cases_at a groups (place v)) g f (state_at a xs) (state_at a xs) (behind_at a xs) (behind_at a xs) goes goes
      (λ x s h. h) (λ v r s h c. entry_is groups (place v) s c) (λ w x s h. h) (λ w s c. refl) R in
      let later : Grows n1.terms n3.terms = grows_then n1.terms n2.terms n3.terms (grows_adds n1 n2 E1.adds) (grows_adds n2 n3 E2.adds) in
      record {
        grows = grows_then m.terms n0.terms n3.terms (grows_adds m n0 N.adds) (grows_then n0.terms n1.terms n3.terms S.grows later);
        objects = objects_grow a n1.terms n3.terms s1.objects later S.objects;
        result = λ h. grown_result a n1.terms n3.terms s1.result later (S.result (grown_result a m.terms n0.terms s0.result (grows_adds m n0 N.adds) h));
        flow = E2.has;
        does = added_before (fixed a) m n0 n3 s0 s1 (λ v. cases_at a groups (place v)) g f (state_at a xs) (behind_at a xs) goes N.adds R';
      }

  -- a switch: its value, and its groups
  pub done_switch : (n0 n1 n2 : Unrolled) (s0 s1 : State) (e : TExpr) (groups : List Group) (g : Guard) (t : SizedTerm) (f : Flow) (c : Scope) → IsValued a n0 n1 s0 e g t → AreCases a n1 n2 s0 s1 g f c.locals e.ty t groups → is_in a c → FitsExpr c e →
      IsUnwound a n0 n2 s0 s1 g f c.locals c.locals (λ s choices. with_value (value_of (rows_in (setting_of a) s) e) choices (λ n. cases_at a groups (entered_case n groups) s choices))
  done_switch n0 n1 n2 s0 s1 e groups g t f c V C inside fits = record {
    grows = grows_then n0.terms n1.terms n2.terms V.grows C.grows;
    objects = C.objects;
    result = λ h. C.result (grown_result a n0.terms n1.terms s0.result V.grows h);
    flow = C.flow;
    does = ask (fixed a) n0 n1 n2 s0 s1 e.ty (λ s. value_of (rows_in (setting_of a) s) e) (λ n. cases_at a groups (entered_case n groups)) g t f (state_at a c.locals) (behind_at a c.locals) goes (V.asks c inside fits) C.does;
  }

-- where the groups of a switch fit

pub group_fits : (c : Scope) (groups : List Group) (i : ℕ) (x : Group) (body : List TStmt) → i < length groups → x ≡ slice_index_or groups i x → body ≡ (out-Group x).body → FitsCases c groups → FitsItems c body
group_fits c groups i x body few item own h =
    subst (FitsItems c) (sym own) (subst (λ (y : Group). FitsItems c (out-Group y).body) (sym item) (All-get_or (λ (y : Group). FitsItems c (out-Group y).body) groups i x few h))

pub group_here : (groups : List Group) (i : ℕ) (x : Group) → i < length groups → x ≡ slice_index_or groups i x → drop i groups ≡ x ∷ drop (suc i) groups
group_here groups i x few item =
    let k : i + 1 ≡ suc i = omega arith in
    subst (λ j. drop i groups ≡ x ∷ drop j groups) k (drop_more groups i x few ∙ ap (λ y. y ∷ drop (i + 1) groups) (sym item))

group_labels_fit : (c : Scope) (t : IntType) (g : Group) → FitsGroup c t g → All (λ label. FitsLabel t label) (out-Group g).labels
unfolding out-Group out
group_labels_fit c t (Group' labels shape row) h = h.1

labels_fit : {m : _} (c : Scope) (t : IntType) (row : Row_of-Group m) → FitsGroups c t row → FitLabels t (items-the_row-Group _ row)
labels_fit c t end_of-Group h = All-nil (λ (g : Group). All (λ label. FitsLabel t label) (out-Group g).labels)
labels_fit c t (more_of-Group g rest) h =
    All-cons (λ (g : Group). All (λ label. FitsLabel t label) (out-Group g).labels) g (items-the_row-Group _ rest) (group_labels_fit c t g h.0) (labels_fit c t rest h.1)

pub switch_labels : (c : Scope) (node : SNode) (e test : TExpr) (groups got : List Group) → node ≡ Switch e groups → test ≡ e → got ≡ groups → FitsStmt c node → IsType test.ty × FitLabels test.ty got
switch_labels c node e test groups got is is_e is_g h =
    let f = subst (FitsStmt c) (is ∙ ap (λ x. Switch x groups) (sym is_e)) h in
    (f.1.type, subst (FitLabels test.ty) (items_hidden-the_row-Group-2 groups ∙ sym is_g) (labels_fit (in_a_switch c) test.ty (hidden-the_row-Group-2 groups) f.2))
