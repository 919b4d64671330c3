-- Stretches of terms and steps, put together.
use Rattle.std.proofs.Common.{◌≡◌, ℕ, zero, suc, ◌+◌, ◌-◌, ◌*◌, ◌<◌, ◌≤◌, ◌^◌, Bool, true, false, List, [], ◌∷◌, ◌++◌, Option, Some, None, length, refl, sym, ap, ◌∙◌, subst, arith, append_assoc, append-nil}
use Rattle.std.specs.Prelude.{ℤ, pos, bit_and, not, nat_lt, sum_by, ◌&&◌, ◌||◌, if◌then◌else◌}
use Rattle.std.proofs.lemmas.List.Sums.{sum_by-append}
use Rattle.bits_core.specs.declared.op.Op1.TheVariants as op1
use Rattle.bits_core.specs.Ops.{value1}
use Rattle.bits_core.specs.Word.{number, bit, at_zero}
use Rattle.word_eqs.specs.declared.list.Act.TheVariants.{Prop}
use Rattle.word_eqs.specs.declared.list.Step.{Step}
use Rattle.word_eqs.specs.Gates.{step_gates, act_gates}
use Rattle.word_eqs.specs.Graph.{Graph, IsGraph}
use Rattle.word_eqs.specs.Guarded.{Walk, Passes, Stops, AtProp, walk, walk_then, step_walk}
use Rattle.word_eqs.specs.Meaning.{Values, Respects}
use Rattle.word_eqs.proofs.Walks.{walk-append, none-walk_then, walk_then-none}
use Rattle.joint_ir.specs.declared.ctype.IntType.{IntType}
use Rattle.joint_ir.specs.declared.program.PropId.{PropId}
use Rattle.joint_ir.specs.declared.expr.LogicOp.{LogicOp}
use Rattle.joint_ir.specs.declared.expr.LogicOp.TheVariants.{And, Or}
use Rattle.joint_ir.specs.Types.{int, truth_of}
use Rattle.joint_ir.specs.Values.{Answer, Value, Fault, and_then, bit_of, is_zero, logic_value}
use Rattle.sized_terms.specs.declared.SizedTerm.{SizedTerm}
use Rattle.sized_terms.specs.Sized.{Has, Builds, IsMade, bits}
use Rattle.sized_terms.proofs.Made.{bits_below, builds_then, builds_none, builds_within}
use Rattle.checked_terms.specs.declared.Check.{Check}
use Rattle.checked_terms.specs.declared.Checked.{Checked}
use Rattle.checked_terms.specs.Checked.{stands, test_then, HasCheck, check_gates, IsChecked}
use Rattle.checked_terms.proofs.Works.{not_bit, zero_of, truth_is}
use Rattle.unrolled.specs.declared.Unrolled.{Unrolled}
use Rattle.expression_steps.specs.declared.steps.Split.{Split}
use Rattle.expression_steps.specs.Asking.{check_steps, IsPushed, Gives, Asks, is_set, IsSplit, IsJoined, side_of, joined_by}

-- steps of two lists count as both
gates_append : (h : Graph) (l m : List Step) → step_gates h (l ++ m) ≡ step_gates h l + step_gates h m
gates_append h l m = sum_by-append (λ (s : Step). act_gates h s.act) l m

-- what checks do, in one valuation

off : (v : Values) (g : SizedTerm) (c : Option Check) → bits v g ≡ 0 → walk v (check_steps g c) ≡ Passes []
off v g None e = refl
off v g (Some c) e = walk_then-none _ ∙ ap (λ n. at_zero n (Passes []) (at_zero (bits v c.test) (Stops [] (AtProp c.prop.0)) (Passes []))) e

gives_one : (v : Values) (g : SizedTerm) (c : Option Check) (t : IntType) (a : Answer) (w : Walk) (k : ℕ) → bits v g ≡ 1 → Gives t a w k → Gives t (test_then v c a) (walk_then (walk v (check_steps g c)) w) k
gives_one v g None t a w k e h = subst (λ w. Gives t a w k) (sym (none-walk_then w)) h
gives_one v g (Some c) t a w k e h =
    let is : walk v (check_steps g (Some c)) ≡ at_zero (bits v c.test) (Stops [] (AtProp c.prop.0)) (Passes []) =
    walk_then-none _ ∙ ap (λ n. at_zero n (Passes []) (at_zero (bits v c.test) (Stops [] (AtProp c.prop.0)) (Passes []))) e in
    subst (λ x. Gives t (at_zero (bits v c.test) (Fault c.prop) a) (walk_then x w) k) (sym is) (by_test (bits v c.test))
  where
    by_test : (n : ℕ) → Gives t (at_zero n (Fault c.prop) a) (walk_then (at_zero n (Stops [] (AtProp c.prop.0)) (Passes [])) w) k
    by_test zero = refl
    by_test (suc n) = subst (λ w. Gives t a w k) (sym (none-walk_then w)) h

check_cost : (h : Graph) (g : SizedTerm) (c : Option Check) → HasCheck h c → step_gates h (check_steps g c) ≡ check_gates c
check_cost h g None p = refl
check_cost h g (Some c) p = let e = p.width in omega arith

has_kept : (g h : Graph) (c : Option Check) → ((y : SizedTerm) → Has g y → Has h y) → HasCheck g c → HasCheck h c
has_kept g h None k p = tt
has_kept g h (Some c) k p = k c.test p

-- the terms of an operator, and the steps of its checks
pub checked_asks : (X : Type 0) (u0 u2 : Unrolled) (mid : Graph) (t : IntType) (gates most : ℕ) (g : SizedTerm) (r : Checked) (holds : Values → X → Type 0) (answer : Values → X → Answer) (value : Values → Answer) →
    ((v : Values) → Respects v mid → (s : X) → holds v s → value v ≡ answer v s) →
    IsChecked u0.terms mid t gates most r value → u2.terms ≡ mid → u2.list ≡ u0.list ++ (check_steps g r.division ++ check_steps g r.other) → Asks X u0 u2 t gates g r.value holds answer
checked_asks X u0 u2 mid t gates most g r holds answer value same P e l =
    subst (λ (n : Graph). Asks X u0 (record { terms = n; list = u2.list }) t gates g r.value holds answer) (sym e) (record {
      made = P.made;
      most = most;
      builds = P.builds;
      more = check_steps g r.division ++ check_steps g r.other;
      list = l;
      has = P.has;
      width = P.width;
      idle = λ v q o.
          walk-append v (check_steps g r.division) (check_steps g r.other) ∙ ap (λ w. walk_then w (walk v (check_steps g r.other))) (off v g r.division o) ∙ none-walk_then _ ∙ off v g r.other o;
      live = λ v q o s h.
          subst (λ w. Gives t (answer v s) w (bits v r.value)) (sym (walk-append v (check_steps g r.division) (check_steps g r.other)))
          (subst (λ a. Gives t a (walk_then (walk v (check_steps g r.division)) (walk v (check_steps g r.other))) (bits v r.value)) (P.gives v q ∙ same v q s h)
          (gives_one v g r.division t _ _ _ o
          (subst (λ w. Gives t (test_then v r.other (Value (stands t v r.value))) w (bits v r.value)) (walk_then-none (walk v (check_steps g r.other))) (gives_one v g r.other t _ (Passes []) _ o (refl, refl)))));
      few = λ h k.
          let a = gates_append h (check_steps g r.division) (check_steps g r.other) in
          let b = check_cost h g r.division (has_kept mid h r.division k P.division) in
          let c = check_cost h g r.other (has_kept mid h r.other k P.other) in
          let f = P.few in
          omega arith;
    })

gives_then : (tA t : IntType) (a : Answer) (w w' : Walk) (ka k : ℕ) (b : ℤ → Answer) → Gives tA a w ka → Gives t (b (number tA.signed tA.bits ka)) w' k → Gives t (and_then a b) (walk_then w w') k
gives_then tA t (Value n) w w' ka k b h r =
    subst (λ x. Gives t (b n) (walk_then x w') k) (sym h.0) (subst (λ x. Gives t (b n) x k) (sym (none-walk_then w')) (subst (λ m. Gives t (b m) w' k) h.1 r))
gives_then tA t (Fault p) w w' ka k b h r = ap (λ x. walk_then x w') h

-- the answer of one expression, and what is done with its number
pub asks_then : (X : Type 0) (u0 u1 u2 : Unrolled) (tA t : IntType) (m n : ℕ) (g a x : SizedTerm) (holds : Values → X → Type 0) (A : Values → X → Answer) (B : Values → X → ℤ → Answer) →
    Asks X u0 u1 tA m g a holds A → Asks X u1 u2 t n g x holds (λ v s. B v s (stands tA v a)) → Asks X u0 u2 t (m + n) g x holds (λ v s. and_then (A v s) (B v s))
asks_then X u0 u1 u2 tA t m n g a x holds A B P Q = record {
  made = P.made + Q.made;
  most = P.most + Q.most;
  builds = builds_then u0.terms u1.terms u2.terms P.made Q.made P.most Q.most P.builds Q.builds;
  more = P.more ++ Q.more;
  list = Q.list ∙ ap (λ l. l ++ Q.more) P.list ∙ append_assoc u0.list P.more Q.more;
  has = Q.has;
  width = Q.width;
  idle = λ v q o. walk-append v P.more Q.more ∙ ap (λ w. walk_then w (walk v Q.more)) (P.idle v (Q.builds.grown v q) o) ∙ none-walk_then _ ∙ Q.idle v q o;
  live = λ v q o s h.
      subst (λ w. Gives t (and_then (A v s) (B v s)) w (bits v x)) (sym (walk-append v P.more Q.more))
      (gives_then tA t (A v s) (walk v P.more) (walk v Q.more) (bits v a) (bits v x) (B v s) (P.live v (Q.builds.grown v q) o s h) (Q.live v q o s h));
  few = λ h k.
      let e = gates_append h P.more Q.more in
      let p = P.few h (λ y i. k y (Q.builds.kept y i)) in
      let r = Q.few h k in
      omega arith;
}

-- more gates, and an answer in other words
pub asks_as : (X : Type 0) (u0 u1 : Unrolled) (t : IntType) (m n : ℕ) (g x : SizedTerm) (holds : Values → X → Type 0) (A B : Values → X → Answer) → m ≤ n → ((v : Values) (s : X) → A v s ≡ B v s) → Asks X u0 u1 t m g x holds A → Asks X u0 u1 t n g x holds B
asks_as X u0 u1 t m n g x holds A B le e P = record {
  made = P.made;
  most = P.most;
  builds = P.builds;
  more = P.more;
  list = P.list;
  has = P.has;
  width = P.width;
  idle = P.idle;
  live = λ v q o s h. subst (λ a. Gives t a (walk v P.more) (bits v x)) (e v s) (P.live v q o s h);
  few = λ h k. let f = P.few h k in omega arith;
}

-- a guard split by a term
pub split_made : (u0 u4 : Unrolled) (g1 g2 g3 : Graph) (g x set unset taken other : SizedTerm) → Has u0.terms g → g.width ≡ 1 → u4.list ≡ u0.list →
    IsMade u0.terms g1 1 (3 * x.width) 1 set (λ v. bit (nat_lt 0 (bits v x))) → IsMade g1 g2 set.width 0 1 unset (λ v. value1 op1.Not set.width (bits v set)) →
    IsMade g2 g3 g.width g.width 1 taken (λ v. bit_and (bits v g) (bits v set)) → IsMade g3 u4.terms g.width g.width 1 other (λ v. bit_and (bits v g) (bits v unset)) →
    IsSplit u0 u4 g x (record { set = set; taken = taken; other = other })
split_made u0 u4 g1 g2 g3 g x set unset taken other has one l S N T O =
    let p = builds_then u0.terms g1 g2 (3 * x.width) 0 1 1 S.builds N.builds in
    let q = builds_then u0.terms g2 g3 (3 * x.width + 0) g.width (1 + 1) 1 p T.builds in
    let all = builds_then u0.terms g3 u4.terms (3 * x.width + 0 + g.width) g.width (1 + 1 + 1) 1 q O.builds in
    record {
      builds = builds_within u0.terms u4.terms (3 * x.width + 0 + g.width + g.width) (3 * x.width + 2) (1 + 1 + 1 + 1) 4 all (omega arith) (omega arith);
      list = l;
      has_set = O.builds.kept set (T.builds.kept set (N.builds.kept set S.has));
      has_taken = O.builds.kept taken T.has;
      has_other = O.has;
      width_set = S.width;
      width_taken = T.width ∙ one;
      width_other = O.width ∙ one;
      set = λ v r. S.value v (N.builds.grown v (T.builds.grown v (O.builds.grown v r)));
      taken = λ v r.
          let r3 = O.builds.grown v r in
          T.value v r3 ∙ ap (bit_and (bits v g)) (S.value v (N.builds.grown v (T.builds.grown v r3)));
      other = λ v r.
          let r2 = T.builds.grown v (O.builds.grown v r) in
          O.value v r ∙ ap (bit_and (bits v g)) (N.value v r2 ∙ ap (λ w. 2 ^ w - 1 - bits v set) S.width ∙ ap (λ n. 2 ^ 1 - 1 - n) (S.value v (N.builds.grown v r2)) ∙ not_bit (nat_lt 0 (bits v x)));
    }

-- `&&`, `||` and a choice

bit_pos : (b : Bool) → bit_of b ≡ pos (bit b)
bit_pos true = refl
bit_pos false = refl

truth_number : (t : IntType) (n : ℕ) → n < 2 ^ t.bits → bit_of (nat_lt 0 n) ≡ truth_of (number t.signed t.bits n)
truth_number t n h = bit_pos (nat_lt 0 n) ∙ truth_is t.signed t.bits n h

gives_truth : (t : IntType) (a : Answer) (w : Walk) (n k : ℕ) → n < 2 ^ t.bits → number true 32 k ≡ bit_of (nat_lt 0 n) → Gives t a w n → Gives int (and_then a (λ y. Value (truth_of y))) w k
gives_truth t (Value m) w n k lt e h = (h.0, e ∙ truth_number t n lt ∙ ap truth_of h.1)
gives_truth t (Fault p) w n k lt e h = h

off_side : (op : LogicOp) (b : Bool) → bit_and 0 (bit b) ≡ 0
off_side op true = refl
off_side op false = refl

-- the bit of the side of a split
abbrev side_bit : LogicOp → Bool → Bool
side_bit And b = b
side_bit Or b = not b

side_is : (u1 u2 : Unrolled) (g a : SizedTerm) (s : Split) (op : LogicOp) → IsSplit u1 u2 g a s → (v : Values) → Respects v u2.terms → bits v (side_of op s) ≡ bit_and (bits v g) (bit (side_bit op (is_set v a)))
side_is u1 u2 g a s And S v r = S.taken v r
side_is u1 u2 g a s Or S v r = S.other v r

-- what `&&` or `||` gives behind its left operand, whose bits are n
logic_gives : (op : LogicOp) (tA tB : IntType) (n k m : ℕ) (b : Answer) (w : Walk) → n < 2 ^ tA.bits → k < 2 ^ tB.bits → number true 32 m ≡ bit_of (joined_by op (nat_lt 0 n) (nat_lt 0 k)) →
    (bit (side_bit op (nat_lt 0 n)) ≡ 0 → w ≡ Passes []) → (bit (side_bit op (nat_lt 0 n)) ≡ 1 → Gives tB b w k) → Gives int (logic_value op (number tA.signed tA.bits n) b) w m
logic_gives And tA tB n k m b w ln lk e idle live = by_test (nat_lt 0 n) refl
  where
    by_test : (c : Bool) → nat_lt 0 n ≡ c → Gives int (logic_value And (number tA.signed tA.bits n) b) w m
    by_test true q =
        subst (λ (z : Bool). Gives int (if z then Value (pos 0) else and_then b (λ y. Value (truth_of y))) w m) (sym (zero_of tA.signed tA.bits n ln ∙ ap not q))
        (gives_truth tB b w k m lk (e ∙ ap (λ c. bit_of (c && nat_lt 0 k)) q) (live (ap bit q)))
    by_test false q =
        subst (λ (z : Bool). Gives int (if z then Value (pos 0) else and_then b (λ y. Value (truth_of y))) w m) (sym (zero_of tA.signed tA.bits n ln ∙ ap not q))
        (idle (ap bit q), e ∙ ap (λ c. bit_of (c && nat_lt 0 k)) q)
logic_gives Or tA tB n k m b w ln lk e idle live = by_test (nat_lt 0 n) refl
  where
    by_test : (c : Bool) → nat_lt 0 n ≡ c → Gives int (logic_value Or (number tA.signed tA.bits n) b) w m
    by_test true q =
        subst (λ (z : Bool). Gives int (if z then and_then b (λ y. Value (truth_of y)) else Value (pos 1)) w m) (sym (zero_of tA.signed tA.bits n ln ∙ ap not q))
        (idle (ap (λ c. bit (not c)) q), e ∙ ap (λ c. bit_of (c || nat_lt 0 k)) q)
    by_test false q =
        subst (λ (z : Bool). Gives int (if z then and_then b (λ y. Value (truth_of y)) else Value (pos 1)) w m) (sym (zero_of tA.signed tA.bits n ln ∙ ap not q))
        (gives_truth tB b w k m lk (e ∙ ap (λ c. bit_of (c || nat_lt 0 k)) q) (live (ap (λ c. bit (not c)) q)))

on_side : (b : Bool) → bit_and 1 (bit b) ≡ bit b
on_side true = refl
on_side false = refl

pub logic_asks : (X : Type 0) (u0 u1 u2 u3 u4 : Unrolled) (op : LogicOp) (tA tB : IntType) (m n : ℕ) (g a b t : SizedTerm) (s : Split) (holds : Values → X → Type 0) (A B : Values → X → Answer) →
    Asks X u0 u1 tA m g a holds A → IsSplit u1 u2 g a s → Asks X u2 u3 tB n (side_of op s) b holds B → IsJoined u3 u4 op s.set b t →
    Asks X u0 u4 int (m + n + 3 * tA.bits + 3 * tB.bits + 3) g t holds (λ v x. and_then (A v x) (λ y. logic_value op y (B v x)))
logic_asks X u0 u1 u2 u3 u4 op tA tB m n g a b t s holds A B P S Q J =
    let p1 = builds_then u0.terms u1.terms u2.terms P.made (3 * a.width + 2) P.most 4 P.builds S.builds in
    let p2 = builds_then u0.terms u2.terms u3.terms (P.made + (3 * a.width + 2)) Q.made (P.most + 4) Q.most p1 Q.builds in
    let all = builds_then u0.terms u3.terms u4.terms (P.made + (3 * a.width + 2) + Q.made) (3 * b.width + 1) (P.most + 4 + Q.most) 3 p2 J.builds in
    record {
      made = P.made + (3 * a.width + 2) + Q.made + (3 * b.width + 1);
      most = P.most + 4 + Q.most + 3;
      builds = all;
      more = P.more ++ Q.more;
      list = J.list ∙ Q.list ∙ ap (λ l. l ++ Q.more) (S.list ∙ P.list) ∙ append_assoc u0.list P.more Q.more;
      has = J.has;
      width = J.width;
      idle = λ v q o.
          let q3 = J.builds.grown v q in
          let q2 = Q.builds.grown v q3 in
          let q1 = S.builds.grown v q2 in
          let f : bits v (side_of op s) ≡ 0 = side_is u1 u2 g a s op S v q2 ∙ ap (λ k. bit_and k (bit (side_bit op (is_set v a)))) o ∙ off_side op (side_bit op (is_set v a)) in
          walk-append v P.more Q.more ∙ ap (λ w. walk_then w (walk v Q.more)) (P.idle v q1 o) ∙ none-walk_then _ ∙ Q.idle v q3 f;
      live = λ v q o x h.
          let q3 = J.builds.grown v q in
          let q2 = Q.builds.grown v q3 in
          let q1 = S.builds.grown v q2 in
          let side : bits v (side_of op s) ≡ bit (side_bit op (is_set v a)) = side_is u1 u2 g a s op S v q2 ∙ ap (λ k. bit_and k (bit (side_bit op (is_set v a)))) o ∙ on_side (side_bit op (is_set v a)) in
          let la : bits v a < 2 ^ tA.bits = below_type v u1 a tA P.builds.proper q1 P.has P.width in
          let lb : bits v b < 2 ^ tB.bits = below_type v u3 b tB Q.builds.proper q3 Q.has Q.width in
          let e = J.value v q (is_set v a) (S.set v q2) in
          subst (λ w. Gives int (and_then (A v x) (λ y. logic_value op y (B v x))) w (bits v t)) (sym (walk-append v P.more Q.more))
          (gives_then tA int (A v x) (walk v P.more) (walk v Q.more) (bits v a) (bits v t) (λ y. logic_value op y (B v x)) (P.live v q1 o x h)
          (logic_gives op tA tB (bits v a) (bits v b) (bits v t) (B v x) (walk v Q.more) la lb e (λ z. Q.idle v q3 (side ∙ z)) (λ z. Q.live v q3 (side ∙ z) x h)));
      few = λ h k.
          let e = gates_append h P.more Q.more in
          let k3 : (y : SizedTerm) → Has u3.terms y → Has h y = λ y i. k y (J.builds.kept y i) in
          let p = P.few h (λ y i. k3 y (Q.builds.kept y (S.builds.kept y i))) in
          let r = Q.few h k3 in
          let wa = P.width in
          let wb = Q.width in
          omega arith;
    }
  where
    below_type : (v : Values) (u : Unrolled) (a : SizedTerm) (t : IntType) → IsGraph u.terms → Respects v u.terms → Has u.terms a → a.width ≡ t.bits → bits v a < 2 ^ t.bits
    below_type v u a t p r h e = subst (λ w. bits v a < 2 ^ w) e (bits_below v u.terms a p r h)

-- a choice between two expressions
choose_gives : (tA t : IntType) (n j k m : ℕ) (b c : Answer) (w w' : Walk) → n < 2 ^ tA.bits → m ≡ at_zero (bit (nat_lt 0 n)) k j →
    (bit (nat_lt 0 n) ≡ 0 → w ≡ Passes []) → (bit (nat_lt 0 n) ≡ 1 → Gives t b w j) → (bit (not (nat_lt 0 n)) ≡ 0 → w' ≡ Passes []) → (bit (not (nat_lt 0 n)) ≡ 1 → Gives t c w' k) →
    Gives t (if is_zero (number tA.signed tA.bits n) then c else b) (walk_then w w') m
choose_gives tA t n j k m b c w w' ln e idle live idle' live' = by_test (nat_lt 0 n) refl
  where
    by_test : (d : Bool) → nat_lt 0 n ≡ d → Gives t (if is_zero (number tA.signed tA.bits n) then c else b) (walk_then w w') m
    by_test true q =
        subst (λ (z : Bool). Gives t (if z then c else b) (walk_then w w') m) (sym (zero_of tA.signed tA.bits n ln ∙ ap not q))
        (subst (λ x. Gives t b (walk_then w x) m) (sym (idle' (ap (λ d. bit (not d)) q)))
        (subst (λ x. Gives t b x m) (sym (walk_then-none w)) (subst (λ i. Gives t b w i) (sym (e ∙ ap (λ d. at_zero (bit d) k j) q)) (live (ap bit q)))))
    by_test false q =
        subst (λ (z : Bool). Gives t (if z then c else b) (walk_then w w') m) (sym (zero_of tA.signed tA.bits n ln ∙ ap not q))
        (subst (λ x. Gives t c (walk_then x w') m) (sym (idle (ap bit q)))
        (subst (λ x. Gives t c x m) (sym (none-walk_then w')) (subst (λ i. Gives t c w' i) (sym (e ∙ ap (λ d. at_zero (bit d) k j) q)) (live' (ap (λ d. bit (not d)) q)))))

off_both : (b : Bool) → bit_and 0 (bit b) ≡ 0
off_both true = refl
off_both false = refl

pub choose_asks : (X : Type 0) (u0 u1 u2 u3 u4 u5 : Unrolled) (tA t : IntType) (m n o : ℕ) (g a b c x : SizedTerm) (s : Split) (holds : Values → X → Type 0) (A B C : Values → X → Answer) →
    Asks X u0 u1 tA m g a holds A → IsSplit u1 u2 g a s → Asks X u2 u3 t n s.taken b holds B → Asks X u3 u4 t o s.other c holds C → u5.list ≡ u4.list →
    IsMade u4.terms u5.terms b.width (3 * b.width) 1 x (λ v. at_zero (bits v s.set) (bits v c) (bits v b)) →
    Asks X u0 u5 t (m + n + o + 3 * tA.bits + 2 + 3 * t.bits) g x holds (λ v y. and_then (A v y) (λ z. if is_zero z then C v y else B v y))
choose_asks X u0 u1 u2 u3 u4 u5 tA t m n o g a b c x s holds A B C P S Q R l M =
    let p1 = builds_then u0.terms u1.terms u2.terms P.made (3 * a.width + 2) P.most 4 P.builds S.builds in
    let p2 = builds_then u0.terms u2.terms u3.terms (P.made + (3 * a.width + 2)) Q.made (P.most + 4) Q.most p1 Q.builds in
    let p3 = builds_then u0.terms u3.terms u4.terms (P.made + (3 * a.width + 2) + Q.made) R.made (P.most + 4 + Q.most) R.most p2 R.builds in
    let all = builds_then u0.terms u4.terms u5.terms (P.made + (3 * a.width + 2) + Q.made + R.made) (3 * b.width) (P.most + 4 + Q.most + R.most) 1 p3 M.builds in
    record {
      made = P.made + (3 * a.width + 2) + Q.made + R.made + 3 * b.width;
      most = P.most + 4 + Q.most + R.most + 1;
      builds = all;
      more = P.more ++ (Q.more ++ R.more);
      list = l ∙ R.list ∙ ap (λ l. l ++ R.more) (Q.list ∙ ap (λ l. l ++ Q.more) (S.list ∙ P.list)) ∙ append_assoc (u0.list ++ P.more) Q.more R.more ∙ append_assoc u0.list P.more (Q.more ++ R.more);
      has = M.has;
      width = M.width ∙ Q.width;
      idle = λ v q z.
          let q4 = M.builds.grown v q in
          let q3 = R.builds.grown v q4 in
          let q2 = Q.builds.grown v q3 in
          let q1 = S.builds.grown v q2 in
          let f : bits v s.taken ≡ 0 = S.taken v q2 ∙ ap (λ k. bit_and k (bit (is_set v a))) z ∙ off_both (is_set v a) in
          let f' : bits v s.other ≡ 0 = S.other v q2 ∙ ap (λ k. bit_and k (bit (not (is_set v a)))) z ∙ off_both (not (is_set v a)) in
          walk-append v P.more (Q.more ++ R.more) ∙ ap (λ w. walk_then w (walk v (Q.more ++ R.more))) (P.idle v q1 z) ∙ none-walk_then _
          ∙ walk-append v Q.more R.more ∙ ap (λ w. walk_then w (walk v R.more)) (Q.idle v q3 f) ∙ none-walk_then _ ∙ R.idle v q4 f';
      live = λ v q z y h.
          let q4 = M.builds.grown v q in
          let q3 = R.builds.grown v q4 in
          let q2 = Q.builds.grown v q3 in
          let q1 = S.builds.grown v q2 in
          let f : bits v s.taken ≡ bit (is_set v a) = S.taken v q2 ∙ ap (λ k. bit_and k (bit (is_set v a))) z ∙ on_side (is_set v a) in
          let f' : bits v s.other ≡ bit (not (is_set v a)) = S.other v q2 ∙ ap (λ k. bit_and k (bit (not (is_set v a)))) z ∙ on_side (not (is_set v a)) in
          let la : bits v a < 2 ^ tA.bits = subst (λ w. bits v a < 2 ^ w) P.width (bits_below v u1.terms a P.builds.proper q1 P.has) in
          let e : bits v x ≡ at_zero (bit (is_set v a)) (bits v c) (bits v b) = M.value v q ∙ ap (λ k. at_zero k (bits v c) (bits v b)) (S.set v q2) in
          subst (λ w. Gives t (and_then (A v y) (λ z. if is_zero z then C v y else B v y)) w (bits v x)) (sym (walk-append v P.more (Q.more ++ R.more) ∙ ap (walk_then (walk v P.more)) (walk-append v Q.more R.more)))
          (gives_then tA t (A v y) (walk v P.more) (walk_then (walk v Q.more) (walk v R.more)) (bits v a) (bits v x) (λ z. if is_zero z then C v y else B v y) (P.live v q1 z y h)
          (choose_gives tA t (bits v a) (bits v b) (bits v c) (bits v x) (B v y) (C v y) (walk v Q.more) (walk v R.more) la e
          (λ i. Q.idle v q3 (f ∙ i)) (λ i. Q.live v q3 (f ∙ i) y h) (λ i. R.idle v q4 (f' ∙ i)) (λ i. R.live v q4 (f' ∙ i) y h)));
      few = λ h k.
          let e = gates_append h P.more (Q.more ++ R.more) in
          let e' = gates_append h Q.more R.more in
          let k4 : (y : SizedTerm) → Has u4.terms y → Has h y = λ y i. k y (M.builds.kept y i) in
          let k3 : (y : SizedTerm) → Has u3.terms y → Has h y = λ y i. k4 y (R.builds.kept y i) in
          let p = P.few h (λ y i. k3 y (Q.builds.kept y (S.builds.kept y i))) in
          let r = Q.few h k3 in
          let r' = R.few h k4 in
          let wa = P.width in
          let wb = Q.width in
          omega arith;
    }

-- a term that is there
pub there_asks : (X : Type 0) (u : Unrolled) (t : IntType) (gates : ℕ) (g x : SizedTerm) (holds : Values → X → Type 0) (n : Values → X → ℤ) → IsGraph u.terms → Has u.terms x → x.width ≡ t.bits →
    ((v : Values) (s : X) → holds v s → stands t v x ≡ n v s) → Asks X u u t gates g x holds (λ v s. Value (n v s))
there_asks X u t gates g x holds n p has e is = record {
  made = 0;
  most = 0;
  builds = builds_none u.terms p;
  more = [];
  list = sym (append-nil u.list);
  has = has;
  width = e;
  idle = λ v r o. refl;
  live = λ v r o s h. (refl, is v s h);
  few = λ h k. omega arith;
}
