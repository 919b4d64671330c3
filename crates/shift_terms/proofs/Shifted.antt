-- Terms of shifts, and what they answer.
use Rattle.std.proofs.Common.{◌≡◌, ◌≢◌, ℕ, zero, suc, ◌+◌, ◌-◌, ◌*◌, ◌%◌, ◌<◌, ◌≤◌, ◌^◌, max, Bool, true, false, Option, Some, None, refl, sym, ap, ◌∙◌, subst, arith}
use Rattle.std.specs.Prelude.{ℤ, pos, negsuc, ◌*ℤ◌, nat_eq, nat_lt, not, ◌&&◌, bit_and, int_lt, IsSome, if◌then◌else◌}
use Rattle.std.proofs.Math.Nat.{mod-eq_of_lt, zero-mod, pow-suc}
use Rattle.std.proofs.lemmas.Nat.{pow_pos}
use Rattle.std.proofs.lemmas.Bool.Decides.{nat_tests}
use Rattle.bits_core.specs.declared.op.Op1.TheVariants as op1
use Rattle.bits_core.specs.declared.op.Op2.{Op2}
use Rattle.bits_core.specs.declared.op.Op2.TheVariants as op2
use Rattle.bits_core.specs.Word.{number, modulo, resized, read_signed, floor_div, bit, at_zero}
use Rattle.bits_core.specs.Ops.{less, shifted_right, value1, value2, width2}
use Rattle.bits_core.proofs.Laws.{halves, signed_low, signed_high, pow_le}
use Rattle.word_eqs.specs.Gates.{gates2}
use Rattle.word_eqs.specs.Graph.{Graph}
use Rattle.word_eqs.specs.Meaning.{Values, Respects}
use Rattle.joint_ir.specs.declared.ctype.IntType.{IntType}
use Rattle.joint_ir.specs.declared.expr.BinaryOp.TheVariants.{Shl, Shr}
use Rattle.joint_ir.specs.declared.program.PropId.{PropId}
use Rattle.joint_ir.specs.Types.{in_range, converted, InRange}
use Rattle.joint_ir.specs.Values.{Answer, Value, Fault, checked, binary_value, is_amount, may_shift_left, shifted_left, shifted_right as right_of}
use Rattle.joint_value.specs.Answers.{HasWidth}
use Rattle.joint_value.proofs.Numbers.{number_in, shifted_in}
use Rattle.sized_terms.specs.declared.SizedTerm.{SizedTerm}
use Rattle.sized_terms.specs.Sized.{Has, Builds, IsMade, bits}
use Rattle.sized_terms.proofs.Made.{made_then, made_as, builds_then}
use Rattle.checked_terms.specs.declared.Check.{Check}
use Rattle.checked_terms.specs.declared.Checked.{Checked}
use Rattle.checked_terms.specs.Checked.{stands, test_then, check_of, check_gates, IsChecked, IsPlain}
use Rattle.checked_terms.proofs.Fits.{converted_is}
use Rattle.checked_terms.proofs.Works.{stands_below, checked_as, test_is, has_check, check_few, number_modulo, not_bit}
use Rattle.shift_terms.specs.declared.Amount.{Amount}
use Rattle.shift_terms.specs.Shifts.{IsAmountOf, loses_nothing, keeps_bit, right_op_of}
use Rattle.shift_terms.proofs.Lossless.{amount_is, back_is}

pub amount_made : (f g h i : Graph) (t u : IntType) (b limit within by : SizedTerm) → Has f b → b.width ≡ u.bits → t.bits ≤ 64 → 32 ≤ u.bits →
    IsMade f g b.width 0 1 limit (λ v. t.bits % 2 ^ b.width) → IsMade g h 1 (10 * b.width) 1 within (λ v. bit (less false b.width (bits v b) (bits v limit))) →
    IsMade h i t.bits 0 1 by (λ v. resized t.bits false b.width (bits v b)) → IsAmountOf f i t u b (record { by = by; within = within })
amount_made f g h i t u b limit within by hb e few wide L W B =
    let two = builds_then f g h 0 (10 * b.width) 1 1 L.builds W.builds in
    let all = builds_then f h i (0 + 10 * b.width) 0 (1 + 1) 1 two B.builds in
    let c = all.cost in
    let n = all.count in
    record {
      builds = record { grown = all.grown; kept = all.kept; proper = all.proper; cost = omega arith; count = omega arith };
      has = B.has;
      has_within = B.builds.kept within W.has;
      width = B.width;
      width_within = W.width;
      value = λ v r. B.value v r;
      within = λ v r.
          let r2 = B.builds.grown v r in
          let r1 = W.builds.grown v r2 in
          let lt = stands_below v f i b u.bits _ _ all r hb e in
          W.value v r2 ∙ ap (λ k. bit (less false b.width (bits v b) k)) (L.value v r1) ∙ ap (λ w. bit (less false w (bits v b) (t.bits % 2 ^ w))) e
          ∙ ap bit (amount_is t u.signed u.bits (bits v b) few wide lt);
    }

bits_both : (a b : Bool) → bit_and (bit a) (bit b) ≡ bit (a && b)
bits_both true true = refl
bits_both true false = refl
bits_both false true = refl
bits_both false false = refl

pub keeps_made : (f g h i j k l m : Graph) (a by shifted within back same none negative natural both t : SizedTerm) → by.width ≡ a.width → shifted.width ≡ a.width → within.width ≡ 1 →
    IsMade f g shifted.width (40 * shifted.width) 1 back (λ v. shifted_right true shifted.width (bits v shifted) (bits v by)) →
    IsMade g h 1 (4 * back.width) 1 same (λ v. bit (nat_eq (bits v back) (bits v a))) →
    IsMade h i a.width 0 1 none (λ v. 0 % 2 ^ a.width) →
    IsMade i j 1 (10 * a.width) 1 negative (λ v. bit (less true a.width (bits v a) (bits v none))) →
    IsMade j k negative.width 0 1 natural (λ v. value1 op1.Not negative.width (bits v negative)) →
    IsMade k l same.width same.width 1 both (λ v. bit_and (bits v same) (bits v natural)) →
    IsMade l m within.width within.width 1 t (λ v. bit_and (bits v within) (bits v both)) →
    IsMade f m 1 (54 * a.width + 2) 7 t (λ v. keeps_bit a.width (bits v a) (bits v by) (bits v shifted) (bits v within))
keeps_made f g h i j k l m a by shifted within back same none negative natural both t wb ws ww B S N L P A T =
    let p1 = builds_then f g h (40 * shifted.width) (4 * back.width) 1 1 B.builds S.builds in
    let p2 = builds_then f h i (40 * shifted.width + 4 * back.width) 0 (1 + 1) 1 p1 N.builds in
    let p3 = builds_then f i j (40 * shifted.width + 4 * back.width + 0) (10 * a.width) (1 + 1 + 1) 1 p2 L.builds in
    let p4 = builds_then f j k (40 * shifted.width + 4 * back.width + 0 + 10 * a.width) 0 (1 + 1 + 1 + 1) 1 p3 P.builds in
    let p5 = builds_then f k l (40 * shifted.width + 4 * back.width + 0 + 10 * a.width + 0) same.width (1 + 1 + 1 + 1 + 1) 1 p4 A.builds in
    let all = made_then f l m within.width (40 * shifted.width + 4 * back.width + 0 + 10 * a.width + 0 + same.width) within.width (1 + 1 + 1 + 1 + 1 + 1) 1 t (λ v. bit_and (bits v within) (bits v both)) p5 T in
    let e1 : 40 * shifted.width ≡ 40 * a.width = ap (λ w. 40 * w) ws in
    let e2 : 4 * back.width ≡ 4 * a.width = ap (λ w. 4 * w) (B.width ∙ ws) in
    let e3 = S.width in
    subst (λ w. IsMade f m w (54 * a.width + 2) 7 t (λ v. keeps_bit a.width (bits v a) (bits v by) (bits v shifted) (bits v within))) ww
    (made_as f m within.width (40 * shifted.width + 4 * back.width + 0 + 10 * a.width + 0 + same.width + within.width) (54 * a.width + 2) (1 + 1 + 1 + 1 + 1 + 1 + 1) 7 t _ _ all (omega arith) (omega arith)
    (λ v r.
    let r5 = T.builds.grown v r in
    let r4 = A.builds.grown v r5 in
    let r3 = P.builds.grown v r4 in
    let r2 = L.builds.grown v r3 in
    let r1 = N.builds.grown v r2 in
    let r0 = S.builds.grown v r1 in
    let one : negative.width ≡ 1 = L.width in
    let x : bits v back ≡ shifted_right true a.width (bits v shifted) (bits v by) = B.value v r0 ∙ ap (λ w. shifted_right true w (bits v shifted) (bits v by)) ws in
    let y : bits v same ≡ bit (nat_eq (shifted_right true a.width (bits v shifted) (bits v by)) (bits v a)) = S.value v r1 ∙ ap (λ n. bit (nat_eq n (bits v a))) x in
    let z : bits v none ≡ 0 = N.value v r2 ∙ zero-mod (2 ^ a.width) in
    let n : bits v negative ≡ bit (less true a.width (bits v a) 0) = L.value v r3 ∙ ap (λ k. bit (less true a.width (bits v a) k)) z in
    let q : bits v natural ≡ bit (not (less true a.width (bits v a) 0)) =
    P.value v r4 ∙ ap (λ w. 2 ^ w - 1 - bits v negative) one ∙ ap (λ k. 2 ^ 1 - 1 - k) n ∙ not_bit (less true a.width (bits v a) 0) in
    ap (bit_and (bits v within)) (A.value v r5 ∙ ap (λ k. bit_and k (bits v natural)) y ∙ ap (bit_and (bit (nat_eq (shifted_right true a.width (bits v shifted) (bits v by)) (bits v a)))) q ∙ bits_both _ _)))

checked_some : (p : Option PropId) (b c : Bool) (x y : Answer) → IsSome p → b ≡ c → (b ≡ true → x ≡ y) → checked p b x ≡ checked p c y
checked_some None b c x y h e k = cc
checked_some (Some p) true c x y h e k = k refl ∙ ap (λ a. checked (Some p) a y) e
checked_some (Some p) false c x y h e k = ap (λ a. checked (Some p) a y) e

-- an amount is the number of its bits, below the width
record IsSmallAmount (t : IntType) (z : ℤ) (n : ℕ) : Type 0 where
  is : z ≡ pos n
  lt : n < t.bits

below_true : (a b : ℕ) → nat_lt a b ≡ true → a < b
below_true a b h = grind (arith, nat_tests)

amount_number : (t : IntType) (s : Bool) (u n : ℕ) → is_amount t (number s u n) ≡ true → IsSmallAmount t (number s u n) n
amount_number t false u n h = record { is = refl; lt = below_true n t.bits h }
amount_number t true u n h = halves (2 ^ u) n
    (λ l. record { is = signed_low (2 ^ u) n l; lt = below_true n t.bits (subst (λ z. is_amount t z ≡ true) (signed_low (2 ^ u) n l) h) })
    (λ l. let e : is_amount t (negsuc (2 ^ u - suc n)) ≡ true = subst (λ z. is_amount t z ≡ true) (signed_high (2 ^ u) n l) h in cc)

below_power : (n w : ℕ) → n < w → n < 2 ^ w
below_power n w h = let l = width_below w in omega arith
  where
    width_below : (w : ℕ) → w < 2 ^ w
    width_below zero = omega arith
    width_below (suc w) = let l = width_below w in let e = pow-suc 2 w in let d : 2 * 2 ^ w ≡ 2 ^ w + 2 ^ w = omega arith in let s : suc w ≤ 2 ^ w = l in omega arith

-- right shifts

pub right_answer : (t : IntType) (s : Bool) (u x n : ℕ) (p : Option PropId) → IsPlain t → IsSome p → x < 2 ^ t.bits →
    checked p (is_amount t (number s u n)) (Value (number t.signed t.bits (shifted_right t.signed t.bits x (n % 2 ^ t.bits)))) ≡ binary_value Shr t None p (number t.signed t.bits x) (number s u n)
right_answer t s u x n p is some lx =
    let width : HasWidth t = record { some = is.some; few = is.few } in
    checked_some p _ _ _ _ some refl (λ h.
    let k = amount_number t s u n h in
    let e : n % 2 ^ t.bits ≡ n = mod-eq_of_lt (below_power n t.bits k.lt) in
    ap Value (ap (λ m. number t.signed t.bits (shifted_right t.signed t.bits x m)) e
    ∙ number_modulo t (right_of (number t.signed t.bits x) (pos n)) is.some (shifted_in t (number t.signed t.bits x) (pos n) (number_in t x width lx))
    ∙ ap (right_of (number t.signed t.bits x)) (sym k.is)))

-- left shifts

left_value : (t : IntType) (x n : ℕ) → t.truth ≡ false → number t.signed t.bits x ≡ pos x →
    number t.signed t.bits ((x * 2 ^ n) % 2 ^ t.bits) ≡ converted t (shifted_left (number t.signed t.bits x) (pos n))
left_value t x n e is = sym (ap (λ z. converted t (shifted_left z (pos n))) is ∙ converted_is t (pos (x * 2 ^ n)) e)

unsigned_may : (t : IntType) (x y : ℤ) → t.signed ≡ false → may_shift_left t x y ≡ is_amount t y
unsigned_may t x y e = by_test (is_amount t y) ∙ refl
  where
    by_test : (b : Bool) → (if b then (if t.signed then (if int_lt x (pos 0) then false else in_range t (shifted_left x y)) else true) else false) ≡ b
    by_test true = ap (λ (s : Bool). if s then (if int_lt x (pos 0) then false else in_range t (shifted_left x y)) else true) e
    by_test false = refl

pub left_unsigned : (t : IntType) (s : Bool) (u x n : ℕ) (p : Option PropId) → IsPlain t → t.signed ≡ false → IsSome p →
    checked p (is_amount t (number s u n)) (Value (number t.signed t.bits ((x * 2 ^ (n % 2 ^ t.bits)) % 2 ^ t.bits))) ≡ binary_value Shl t None p (number t.signed t.bits x) (number s u n)
left_unsigned t s u x n p is e some =
    checked_some p _ _ _ _ some (sym (unsigned_may t (number t.signed t.bits x) (number s u n) e)) (λ h.
    let k = amount_number t s u n h in
    let m : n % 2 ^ t.bits ≡ n = mod-eq_of_lt (below_power n t.bits k.lt) in
    ap Value (ap (λ i. number t.signed t.bits ((x * 2 ^ i) % 2 ^ t.bits)) m ∙ left_value t x n is.truth (ap (λ b. number b t.bits x) e) ∙ ap (λ z. converted t (shifted_left (number t.signed t.bits x) z)) (sym k.is)))

none_below : (x : ℕ) → int_lt (pos x) (pos 0) ≡ false
none_below x = below_zero x
  where
    below_zero : (x : ℕ) → nat_lt x 0 ≡ false
    below_zero x = grind (arith, nat_tests)

and_true : (a : Bool) → (a && true) ≡ a
and_true true = refl
and_true false = refl

and_false : (a : Bool) → (a && false) ≡ false
and_false true = refl
and_false false = refl

zero_number : (w : ℕ) → number true w 0 ≡ pos 0
zero_number w = let p = pow_pos w in signed_low (2 ^ w) 0 (omega arith)

abbrev lossless : (w x y : ℕ) → Bool
lossless w x y = loses_nothing w x y ((x * 2 ^ y) % 2 ^ w)

natural_lossless : (t : IntType) (x y : ℕ) → t.signed ≡ true → 0 < t.bits → x + x < 2 ^ t.bits → lossless t.bits x y ≡ in_range t (pos (x * 2 ^ y))
natural_lossless t x y s p l =
    ap (λ b. nat_eq (shifted_right true t.bits ((x * 2 ^ y) % 2 ^ t.bits) y) x && not b)
    (ap (λ z. int_lt z (number true t.bits 0)) (signed_low (2 ^ t.bits) x l) ∙ ap (int_lt (pos x)) (zero_number t.bits) ∙ none_below x)
    ∙ and_true _ ∙ back_is t x y s p l

negative_lossless : (w x y : ℕ) → 2 ^ w ≤ x + x → lossless w x y ≡ false
negative_lossless w x y l =
    ap (λ b. nat_eq (shifted_right true w ((x * 2 ^ y) % 2 ^ w) y) x && not b)
    (ap (λ z. int_lt z (number true w 0)) (signed_high (2 ^ w) x l) ∙ ap (int_lt (negsuc (2 ^ w - suc x))) (zero_number w))
    ∙ and_false _

signed_may : (t : IntType) (x n : ℕ) → t.signed ≡ true → 0 < t.bits → is_amount t (pos n) ≡ true → lossless t.bits x n ≡ may_shift_left t (number true t.bits x) (pos n)
signed_may t x n s p h =
    let k : may_shift_left t (number true t.bits x) (pos n) ≡ (if int_lt (number true t.bits x) (pos 0) then false else in_range t (shifted_left (number true t.bits x) (pos n))) =
    ap (λ (b : Bool). if b then (if t.signed then (if int_lt (number true t.bits x) (pos 0) then false else in_range t (shifted_left (number true t.bits x) (pos n))) else true) else false) h
    ∙ ap (λ (b : Bool). if b then (if int_lt (number true t.bits x) (pos 0) then false else in_range t (shifted_left (number true t.bits x) (pos n))) else true) s in
    halves (2 ^ t.bits) x
    (λ l. natural_lossless t x n s p l ∙ sym (k ∙ ap (λ z. if int_lt z (pos 0) then false else in_range t (shifted_left z (pos n))) (signed_low (2 ^ t.bits) x l)
    ∙ ap (λ (b : Bool). if b then false else in_range t (pos (x * 2 ^ n))) (none_below x)))
    (λ l. negative_lossless t.bits x n l ∙ sym (k ∙ ap (λ z. if int_lt z (pos 0) then false else in_range t (shifted_left z (pos n))) (signed_high (2 ^ t.bits) x l)))

-- what is lossless is the number of its bits
natural : (w x y : ℕ) → lossless w x y ≡ true → number true w x ≡ pos x
natural w x y h = halves (2 ^ w) x (λ l. signed_low (2 ^ w) x l) (λ l. let e = negative_lossless w x y l in cc)

pub left_signed : (t : IntType) (s : Bool) (u x n : ℕ) (p : Option PropId) → IsPlain t → t.signed ≡ true → IsSome p →
    checked p (is_amount t (number s u n) && loses_nothing t.bits x (n % 2 ^ t.bits) ((x * 2 ^ (n % 2 ^ t.bits)) % 2 ^ t.bits)) (Value (number t.signed t.bits ((x * 2 ^ (n % 2 ^ t.bits)) % 2 ^ t.bits)))
    ≡ binary_value Shl t None p (number t.signed t.bits x) (number s u n)
left_signed t s u x n p is e some = by_test (is_amount t (number s u n)) refl
  where
    by_test : (b : Bool) → is_amount t (number s u n) ≡ b →
        checked p (is_amount t (number s u n) && lossless t.bits x (n % 2 ^ t.bits)) (Value (number t.signed t.bits ((x * 2 ^ (n % 2 ^ t.bits)) % 2 ^ t.bits)))
        ≡ binary_value Shl t None p (number t.signed t.bits x) (number s u n)
    by_test false h = checked_some p _ _ _ _ some
        (ap (λ b. b && lossless t.bits x (n % 2 ^ t.bits)) h
        ∙ sym (ap (λ (b : Bool). if b then (if t.signed then (if int_lt (number t.signed t.bits x) (pos 0) then false else in_range t (shifted_left (number t.signed t.bits x) (number s u n))) else true) else false) h))
        (λ k. let f : (false && lossless t.bits x (n % 2 ^ t.bits)) ≡ true = subst (λ b. (b && lossless t.bits x (n % 2 ^ t.bits)) ≡ true) h k in cc)
    by_test true h =
        let k = amount_number t s u n h in
        let m : n % 2 ^ t.bits ≡ n = mod-eq_of_lt (below_power n t.bits k.lt) in
        let h' : is_amount t (pos n) ≡ true = subst (λ z. is_amount t z ≡ true) k.is h in
        let same : number t.signed t.bits x ≡ number true t.bits x = ap (λ b. number b t.bits x) e in
        let goes : (is_amount t (number s u n) && lossless t.bits x (n % 2 ^ t.bits)) ≡ lossless t.bits x n = ap (λ b. b && lossless t.bits x (n % 2 ^ t.bits)) h ∙ ap (lossless t.bits x) m in
        checked_some p _ _ _ _ some
        (goes ∙ signed_may t x n e is.some h' ∙ ap (λ z. may_shift_left t z (pos n)) (sym same) ∙ ap (may_shift_left t (number t.signed t.bits x)) (sym k.is))
        (λ c.
        let nat = natural t.bits x n (sym goes ∙ c) in
        ap Value (ap (λ i. number t.signed t.bits ((x * 2 ^ i) % 2 ^ t.bits)) m ∙ left_value t x n is.truth (same ∙ nat) ∙ ap (λ z. converted t (shifted_left (number t.signed t.bits x) z)) (sym k.is)))

shift_gates : (w v m : ℕ) → w ≤ m → 94 * w + 10 * v + 11 ≤ 8 * (84 * m + 12 * v + 32)
shift_gates w v m h = omega arith

max_left : (a b : ℕ) → a ≤ max a b
max_left a b = grind arith

-- the terms

abbrev pub row_of : IntType → IntType → ℕ
row_of t u = 8 * (84 * max t.bits u.bits + 12 * u.bits + 32)

module _ (f g : Graph) (t u : IntType) (p : Option PropId) (a b : SizedTerm) (r : Amount) (is : IsPlain t) (some : IsSome p) (ha : Has f a) (hb : Has f b) (ea : a.width ≡ t.bits) (eb : b.width ≡ u.bits) (A : IsAmountOf f g t u b r) where
  widths : 10 * b.width ≡ 10 * u.bits
  widths = ap (λ w. 10 * w) eb

  pub right_made : (h : Graph) (x : SizedTerm) (c : Option Check) (op : Op2) → op ≡ right_op_of t.signed → c ≡ check_of p r.within → IsMade g h (width2 op a.width) (gates2 op a.width) 1 x (λ v. value2 op a.width (bits v a) (bits v r.by)) →
      IsChecked f h t (row_of t u) 11 (record { division = None; other = c; value = x }) (λ v. binary_value Shr t None p (stands t v a) (stands u v b))
  right_made h x c op eo ec M = subst (λ i. IsChecked f h t (row_of t u) 11 (record { division = None; other = i; value = x }) (λ v. binary_value Shr t None p (stands t v a) (stands u v b))) (sym ec)
      (by_op t.signed refl (subst (λ w. IsMade g h (width2 op w) (gates2 op w) 1 x (λ v. value2 op w (bits v a) (bits v r.by))) ea M))
    where
      made_right : IsMade g h t.bits (40 * t.bits) 1 x (λ v. shifted_right t.signed t.bits (bits v a) (bits v r.by)) → IsChecked f h t (row_of t u) 11 (record { division = None; other = check_of p r.within; value = x }) (λ v. binary_value Shr t None p (stands t v a) (stands u v b))
      made_right M =
          let all = builds_then f g h (10 * b.width) (40 * t.bits) 3 1 A.builds M.builds in
          checked_as f h t (94 * t.bits + 10 * u.bits + 11) (row_of t u) (3 + 1) 11 _ _ _ (record {
            made = 10 * b.width + 40 * t.bits;
            builds = all;
            has = M.has;
            width = M.width;
            division = tt;
            other = has_check h p r.within (M.builds.kept r.within A.has_within);
            gives = λ v q.
                let q' = M.builds.grown v q in
                let lx = stands_below v f h a t.bits _ _ all q ha ea in
                test_is v p r.within (is_amount t (stands u v b)) _ (A.within v q')
                ∙ ap (λ n. checked p (is_amount t (stands u v b)) (Value (number t.signed t.bits n))) (M.value v q ∙ ap (shifted_right t.signed t.bits (bits v a)) (A.value v q'))
                ∙ right_answer t u.signed u.bits (bits v a) (bits v b) p is some lx;
            few = let i = check_few p r.within in let j = A.width_within in let k = widths in omega arith;
          }) (shift_gates t.bits u.bits (max t.bits u.bits) (max_left t.bits u.bits)) (omega arith) (λ v q. refl)

      by_op : (s : Bool) → t.signed ≡ s → IsMade g h (width2 op t.bits) (gates2 op t.bits) 1 x (λ v. value2 op t.bits (bits v a) (bits v r.by)) → IsChecked f h t (row_of t u) 11 (record { division = None; other = check_of p r.within; value = x }) (λ v. binary_value Shr t None p (stands t v a) (stands u v b))
      by_op true e M =
          let o : op ≡ op2.ShrS = eo ∙ ap right_op_of e in
          let N = subst (λ o. IsMade g h (width2 o t.bits) (gates2 o t.bits) 1 x (λ v. value2 o t.bits (bits v a) (bits v r.by))) o M in
          made_right (subst (λ s. IsMade g h t.bits (40 * t.bits) 1 x (λ v. shifted_right s t.bits (bits v a) (bits v r.by))) (sym e) N)
      by_op false e M =
          let o : op ≡ op2.ShrU = eo ∙ ap right_op_of e in
          let N = subst (λ o. IsMade g h (width2 o t.bits) (gates2 o t.bits) 1 x (λ v. value2 o t.bits (bits v a) (bits v r.by))) o M in
          made_right (subst (λ s. IsMade g h t.bits (40 * t.bits) 1 x (λ v. shifted_right s t.bits (bits v a) (bits v r.by))) (sym e) N)

  pub left_plain : (h : Graph) (x : SizedTerm) (c : Option Check) → t.signed ≡ false → c ≡ check_of p r.within → IsMade g h a.width (40 * a.width) 1 x (λ v. (bits v a * 2 ^ bits v r.by) % 2 ^ a.width) →
      IsChecked f h t (row_of t u) 11 (record { division = None; other = c; value = x }) (λ v. binary_value Shl t None p (stands t v a) (stands u v b))
  left_plain h x c e ec M =
      let N = subst (λ w. IsMade g h w (40 * w) 1 x (λ v. (bits v a * 2 ^ bits v r.by) % 2 ^ w)) ea M in
      let all = builds_then f g h (10 * b.width) (40 * t.bits) 3 1 A.builds N.builds in
      subst (λ i. IsChecked f h t (row_of t u) 11 (record { division = None; other = i; value = x }) (λ v. binary_value Shl t None p (stands t v a) (stands u v b))) (sym ec)
      (checked_as f h t (94 * t.bits + 10 * u.bits + 11) (row_of t u) (3 + 1) 11 _ _ _ (record {
        made = 10 * b.width + 40 * t.bits;
        builds = all;
        has = N.has;
        width = N.width;
        division = tt;
        other = has_check h p r.within (N.builds.kept r.within A.has_within);
        gives = λ v q.
            let q' = N.builds.grown v q in
            test_is v p r.within (is_amount t (stands u v b)) _ (A.within v q')
            ∙ ap (λ n. checked p (is_amount t (stands u v b)) (Value (number t.signed t.bits n))) (N.value v q ∙ ap (λ k. (bits v a * 2 ^ k) % 2 ^ t.bits) (A.value v q'))
            ∙ left_unsigned t u.signed u.bits (bits v a) (bits v b) p is e some;
        few = let i = check_few p r.within in let j = A.width_within in let k = widths in omega arith;
      }) (shift_gates t.bits u.bits (max t.bits u.bits) (max_left t.bits u.bits)) (omega arith) (λ v q. refl))

  pub left_checked : (h i : Graph) (x test : SizedTerm) (c : Option Check) → t.signed ≡ true → c ≡ check_of p test → IsMade g h a.width (40 * a.width) 1 x (λ v. (bits v a * 2 ^ bits v r.by) % 2 ^ a.width) →
      IsMade h i 1 (54 * a.width + 2) 7 test (λ v. keeps_bit a.width (bits v a) (bits v r.by) (bits v x) (bits v r.within)) →
      IsChecked f i t (row_of t u) 11 (record { division = None; other = c; value = x }) (λ v. binary_value Shl t None p (stands t v a) (stands u v b))
  left_checked h i x test c e ec M K =
      let N = subst (λ w. IsMade g h w (40 * w) 1 x (λ v. (bits v a * 2 ^ bits v r.by) % 2 ^ w)) ea M in
      let L = subst (λ w. IsMade h i 1 (54 * w + 2) 7 test (λ v. keeps_bit w (bits v a) (bits v r.by) (bits v x) (bits v r.within))) ea K in
      let two = builds_then f g h (10 * b.width) (40 * t.bits) 3 1 A.builds N.builds in
      let all = builds_then f h i (10 * b.width + 40 * t.bits) (54 * t.bits + 2) (3 + 1) 7 two L.builds in
      subst (λ j. IsChecked f i t (row_of t u) 11 (record { division = None; other = j; value = x }) (λ v. binary_value Shl t None p (stands t v a) (stands u v b))) (sym ec)
      (checked_as f i t (94 * t.bits + 10 * u.bits + 11) (row_of t u) (3 + 1 + 7) 11 _ _ _ (record {
        made = 10 * b.width + 40 * t.bits + (54 * t.bits + 2);
        builds = all;
        has = L.builds.kept x N.has;
        width = N.width;
        division = tt;
        other = has_check i p test L.has;
        gives = λ v q.
            let q2 = L.builds.grown v q in
            let q1 = N.builds.grown v q2 in
            let y = A.value v q1 in
            let z : bits v x ≡ (bits v a * 2 ^ (bits v b % 2 ^ t.bits)) % 2 ^ t.bits = N.value v q2 ∙ ap (λ k. (bits v a * 2 ^ k) % 2 ^ t.bits) y in
            let k : bits v test ≡ bit (is_amount t (stands u v b) && loses_nothing t.bits (bits v a) (bits v b % 2 ^ t.bits) ((bits v a * 2 ^ (bits v b % 2 ^ t.bits)) % 2 ^ t.bits)) =
            L.value v q ∙ ap (λ n. bit_and n (bit (loses_nothing t.bits (bits v a) (bits v r.by) (bits v x)))) (A.within v q1)
            ∙ ap (λ n. bit_and (bit (is_amount t (stands u v b))) (bit (loses_nothing t.bits (bits v a) n (bits v x)))) y
            ∙ ap (λ n. bit_and (bit (is_amount t (stands u v b))) (bit (loses_nothing t.bits (bits v a) (bits v b % 2 ^ t.bits) n))) z ∙ bits_both _ _ in
            test_is v p test _ _ k
            ∙ ap (λ n. checked p (is_amount t (stands u v b) && loses_nothing t.bits (bits v a) (bits v b % 2 ^ t.bits) ((bits v a * 2 ^ (bits v b % 2 ^ t.bits)) % 2 ^ t.bits)) (Value (number t.signed t.bits n))) z
            ∙ left_signed t u.signed u.bits (bits v a) (bits v b) p is e some;
        few = let i = check_few p test in let j = L.width in let k = widths in omega arith;
      }) (shift_gates t.bits u.bits (max t.bits u.bits) (max_left t.bits u.bits)) (omega arith) (λ v q. refl))
