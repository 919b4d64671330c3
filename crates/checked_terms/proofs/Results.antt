-- The result of each operator.
use Rattle.std.proofs.Common.{◌≡◌, ℕ, zero, suc, ◌+◌, ◌-◌, ◌*◌, ◌%◌, ◌<◌, ◌≤◌, ◌^◌, Bool, true, false, Option, Some, None, refl, sym, ap, ◌∙◌, subst, arith}
use Rattle.std.specs.Prelude.{ℤ, pos, neg_ℤ, ◌+ℤ◌, ◌-ℤ◌, ◌*ℤ◌, nat_lt, not}
use Rattle.std.proofs.lemmas.Nat.{pow_pos}
use Rattle.std.proofs.Math.Nat.{mod-eq_of_lt}
use Rattle.bits_core.specs.declared.op.Op1.TheVariants as op1
use Rattle.bits_core.specs.declared.op.Op2.{Op2}
use Rattle.bits_core.specs.declared.op.Op2.TheVariants as op2
use Rattle.bits_core.specs.Word.{Word, word, number, modulo, resized, bit}
use Rattle.bits_core.specs.Ops.{value1, value2, width2}
use Rattle.bits_core.proofs.Bounds.{modulo_below}
use Rattle.word_eqs.specs.Gates.{gates1, gates2}
use Rattle.word_eqs.specs.Graph.{Graph}
use Rattle.word_eqs.specs.Meaning.{Values, Respects}
use Rattle.word_eqs.proofs.Overflow.{wide_sum, wide_difference, wide_product, wide_opposite}
use Rattle.joint_ir.specs.declared.ctype.IntType.{IntType}
use Rattle.joint_ir.specs.declared.program.PropId.{PropId}
use Rattle.joint_ir.specs.Types.{int, converted, InRange, IsType, Truth, Byte, Half, Single, Double}
use Rattle.joint_ir.specs.Values.{Answer, Value, result_in, bit_of, is_zero, bitwise}
use Rattle.joint_ir.specs.Weights.{product_weight, convert_weight}
use Rattle.sized_terms.specs.declared.SizedTerm.{SizedTerm}
use Rattle.sized_terms.specs.Sized.{Has, Builds, IsMade, bits}
use Rattle.sized_terms.proofs.Made.{made_then, made_as}
use Rattle.checked_terms.specs.declared.Checked.{Checked}
use Rattle.checked_terms.specs.declared.Cut.{Cut}
use Rattle.checked_terms.specs.Checked.{stands, check_of, IsChecked, IsPlain, IsCut, plain, comparison_of}
use Rattle.checked_terms.proofs.Fits.{converted_is}
use Rattle.checked_terms.proofs.Works.{stands_below, checked_as, plain_made, signed_made, unsigned_answer, unsigned_number, signed_number, modulo_number, number_modulo, turned, zero_of, truth_is, bit_number, not_bit}

-- an operation on signed numbers, at a greater width
abbrev pub at_width : Op2 → (to w : ℕ) → (x y : ℕ) → ℕ
at_width op to w x y = value2 op to (resized to true w x) (resized to true w y)

pub wide_made : (f g h i : Graph) (op : Op2) (to : ℕ) (a b x y t : SizedTerm) →
    IsMade f g to 0 1 x (λ v. resized to true a.width (bits v a)) → IsMade g h to 0 1 y (λ v. resized to true b.width (bits v b)) → b.width ≡ a.width →
    IsMade h i (width2 op x.width) (gates2 op x.width) 1 t (λ v. value2 op x.width (bits v x) (bits v y)) →
    IsMade f i (width2 op to) (gates2 op to) 3 t (λ v. at_width op to a.width (bits v a) (bits v b))
wide_made f g h i op to a b x y t X Y same T =
    let all = made_then f h i (width2 op x.width) 0 (gates2 op x.width) 2 1 t (λ v. value2 op x.width (bits v x) (bits v y)) (two_built f g h to x y _ _ X Y) T in
    let moved = made_as f i (width2 op x.width) (0 + gates2 op x.width) (gates2 op x.width) (2 + 1) 3 t _ (λ v. at_width op to a.width (bits v a) (bits v b)) all (omega arith) (omega arith) (λ v r.
    let r2 = T.builds.grown v r in
    let r1 = Y.builds.grown v r2 in
    let p : bits v x ≡ resized to true a.width (bits v a) = X.value v r1 in
    let q : bits v y ≡ resized to true a.width (bits v b) = Y.value v r2 ∙ ap (λ w. resized to true w (bits v b)) same in
    ap (λ w. value2 op w (bits v x) (bits v y)) X.width ∙ ap (λ n. value2 op to n (bits v y)) p ∙ ap (value2 op to (resized to true a.width (bits v a))) q) in
    subst (λ w. IsMade f i (width2 op w) (gates2 op w) 3 t (λ v. at_width op to a.width (bits v a) (bits v b))) X.width moved
  where
    two_built : (f g h : Graph) (to : ℕ) (x y : SizedTerm) (m n : Values → ℕ) → IsMade f g to 0 1 x m → IsMade g h to 0 1 y n → Builds f h 0 2
    two_built f g h to x y m n X Y = (made_then f g h to 0 0 1 1 y n X.builds Y).builds

pub signed_result : (f g h : Graph) (t : IntType) (p : Option PropId) (op : Op2) (to : ℕ) (a b wide : SizedTerm) (r : Cut) → IsPlain t → a.width ≡ t.bits → width2 op to ≡ to →
    IsMade f g (width2 op to) (gates2 op to) 3 wide (λ v. at_width op to a.width (bits v a) (bits v b)) → IsCut g h t wide r →
    IsChecked f h t (gates2 op to + 4 * to + 9) 6 (record { division = None; other = check_of p r.fits; value = r.value }) (λ v. result_in t p (number true to (at_width op to t.bits (bits v a) (bits v b))))
signed_result f g h t p op to a b wide r is e k W C =
    signed_made f g h t p to (gates2 op to) 3 wide r (λ v. at_width op to a.width (bits v a) (bits v b)) (λ v. number true to (at_width op to t.bits (bits v a) (bits v b))) is
    (subst (λ w. IsMade f g w (gates2 op to) 3 wide (λ v. at_width op to a.width (bits v a) (bits v b))) k W) C
    (λ v q. ap (λ w. number true to (at_width op to w (bits v a) (bits v b))) e)

-- an operation of signed numbers that is exact at a greater width
pub exact_result : (f g : Graph) (t : IntType) (p : Option PropId) (op : Op2) (to gates : ℕ) (a b : SizedTerm) (r : Checked) (z : ℤ → ℤ → ℤ) → t.signed ≡ true → Has f a → Has f b → a.width ≡ t.bits → b.width ≡ t.bits →
    ((x y : ℕ) → x < 2 ^ t.bits → y < 2 ^ t.bits → number true to (at_width op to t.bits x y) ≡ z (number true t.bits x) (number true t.bits y)) → gates2 op to + 4 * to + 9 ≤ gates →
    IsChecked f g t (gates2 op to + 4 * to + 9) 6 r (λ v. result_in t p (number true to (at_width op to t.bits (bits v a) (bits v b)))) →
    IsChecked f g t gates 6 r (λ v. result_in t p (z (stands t v a) (stands t v b)))
exact_result f g t p op to gates a b r z s ha hb ea eb exact le P =
    checked_as f g t (gates2 op to + 4 * to + 9) gates 6 6 r (λ v. result_in t p (number true to (at_width op to t.bits (bits v a) (bits v b)))) (λ v. result_in t p (z (stands t v a) (stands t v b))) P le (omega arith)
    (λ v q.
    let x = stands_below v f g a t.bits P.made 6 P.builds q ha ea in
    let y = stands_below v f g b t.bits P.made 6 P.builds q hb eb in
    ap (result_in t p) (exact (bits v a) (bits v b) x y ∙ ap (λ m. z m (number true t.bits (bits v b))) (sym (signed_number t (bits v a) s)) ∙ ap (z (stands t v a)) (sym (signed_number t (bits v b) s))))

-- an operation of unsigned numbers
pub unsigned_result : (f g : Graph) (t : IntType) (p : Option PropId) (op : Op2) (gates : ℕ) (a b : SizedTerm) (r : Checked) (z : ℤ → ℤ → ℤ) → IsPlain t → t.signed ≡ false → p ≡ None → a.width ≡ t.bits → width2 op t.bits ≡ t.bits →
    gates2 op t.bits ≤ gates → ((x y : ℕ) → value2 op t.bits x y ≡ modulo t.bits (z (pos x) (pos y))) → r ≡ plain r.value →
    IsMade f g (width2 op a.width) (gates2 op a.width) 1 r.value (λ v. value2 op a.width (bits v a) (bits v b)) →
    IsChecked f g t gates 6 r (λ v. result_in t p (z (stands t v a) (stands t v b)))
unsigned_result f g t p op gates a b r z is s none e k le same pl M =
    let M' = subst (λ w. IsMade f g (width2 op w) (gates2 op w) 1 r.value (λ v. value2 op w (bits v a) (bits v b))) e M in
    let one = plain_made f g t (width2 op t.bits) (gates2 op t.bits) 1 r.value (λ v. value2 op t.bits (bits v a) (bits v b)) (λ v. result_in t p (z (stands t v a) (stands t v b))) k M'
    (λ v q. unsigned_answer t p (value2 op t.bits (bits v a) (bits v b)) (z (stands t v a) (stands t v b)) is none
    (same (bits v a) (bits v b) ∙ ap (λ m. modulo t.bits (z m (pos (bits v b)))) (sym (unsigned_number t (bits v a) s)) ∙ ap (λ m. modulo t.bits (z (stands t v a) m)) (sym (unsigned_number t (bits v b) s)))) in
    subst (λ c. IsChecked f g t gates 6 c (λ v. result_in t p (z (stands t v a) (stands t v b)))) (sym pl)
    (checked_as f g t (gates2 op t.bits) gates 1 6 (plain r.value) _ _ one le (omega arith) (λ v q. refl))

-- minus
pub minus_made : (f g h i : Graph) (t : IntType) (p : Option PropId) (a x wide : SizedTerm) (r : Cut) → IsPlain t → t.signed ≡ true → Has f a → a.width ≡ t.bits →
    IsMade f g (t.bits + 1) 0 1 x (λ v. resized (t.bits + 1) true a.width (bits v a)) → IsMade g h x.width (10 * x.width) 1 wide (λ v. value1 op1.Neg x.width (bits v x)) → IsCut h i t wide r →
    IsChecked f i t (8 * (10 * t.bits + 32)) 5 (record { division = None; other = check_of p r.fits; value = r.value }) (λ v. result_in t p (neg_ℤ (stands t v a)))
minus_made f g h i t p a x wide r is s ha ea X N C =
    let N' = subst (λ w. IsMade g h w (10 * w) 1 wide (λ v. value1 op1.Neg w (bits v x))) X.width N in
    let W = made_then f g h (t.bits + 1) 0 (10 * (t.bits + 1)) 1 1 wide (λ v. value1 op1.Neg (t.bits + 1) (bits v x)) X.builds N' in
    let all = signed_made f h i t p (t.bits + 1) (0 + 10 * (t.bits + 1)) (1 + 1) wide r (λ v. value1 op1.Neg (t.bits + 1) (bits v x)) (λ v. neg_ℤ (stands t v a)) is W C (λ v q.
    let lt = stands_below v f h a t.bits _ _ W.builds q ha ea in
    let e : bits v x ≡ resized (t.bits + 1) true t.bits (bits v a) = X.value v (N.builds.grown v q) ∙ ap (λ w. resized (t.bits + 1) true w (bits v a)) ea in
    ap (λ n. number true (t.bits + 1) (value1 op1.Neg (t.bits + 1) n)) e ∙ wide_opposite t.bits (bits v a) lt ∙ ap neg_ℤ (sym (signed_number t (bits v a) s))) in
    checked_as f i t (0 + 10 * (t.bits + 1) + 4 * (t.bits + 1) + 9) (8 * (10 * t.bits + 32)) (1 + 1 + 3) 5 _ _ _ all (omega arith) (omega arith) (λ v q. refl)

pub unsigned_minus : (f g : Graph) (t : IntType) (p : Option PropId) (a x : SizedTerm) → IsPlain t → t.signed ≡ false → p ≡ None → a.width ≡ t.bits →
    IsMade f g a.width (10 * a.width) 1 x (λ v. value1 op1.Neg a.width (bits v a)) → IsChecked f g t (8 * (10 * t.bits + 32)) 5 (plain x) (λ v. result_in t p (neg_ℤ (stands t v a)))
unsigned_minus f g t p a x is s none e M =
    let M' = subst (λ w. IsMade f g w (10 * w) 1 x (λ v. value1 op1.Neg w (bits v a))) e M in
    checked_as f g t (10 * t.bits) (8 * (10 * t.bits + 32)) 1 5 (plain x) _ _
    (plain_made f g t t.bits (10 * t.bits) 1 x (λ v. value1 op1.Neg t.bits (bits v a)) (λ v. result_in t p (neg_ℤ (stands t v a))) refl M'
    (λ v q. unsigned_answer t p (value1 op1.Neg t.bits (bits v a)) (neg_ℤ (stands t v a)) is none (ap (λ m. modulo t.bits (neg_ℤ m)) (sym (unsigned_number t (bits v a) s)))))
    (omega arith) (omega arith) (λ v q. refl)

pub flip_made : (f g : Graph) (t : IntType) (a x : SizedTerm) → IsPlain t → Has f a → a.width ≡ t.bits →
    IsMade f g a.width 0 1 x (λ v. value1 op1.Not a.width (bits v a)) → IsChecked f g t 0 1 (plain x) (λ v. Value (converted t (neg_ℤ (stands t v a) -ℤ pos 1)))
flip_made f g t a x is ha e M =
    let M' = subst (λ w. IsMade f g w 0 1 x (λ v. value1 op1.Not w (bits v a))) e M in
    plain_made f g t t.bits 0 1 x (λ v. value1 op1.Not t.bits (bits v a)) (λ v. Value (converted t (neg_ℤ (stands t v a) -ℤ pos 1))) refl M'
    (λ v q.
    let lt = stands_below v f g a t.bits _ _ M.builds q ha e in
    ap Value (ap (number t.signed t.bits) (turned t.signed t.bits (bits v a) lt) ∙ sym (converted_is t (neg_ℤ (stands t v a) -ℤ pos 1) is.truth)))

-- `!`
pub opposite_made : (f g h i : Graph) (u : IntType) (a set unset x : SizedTerm) → Has f a → a.width ≡ u.bits →
    IsMade f g 1 (3 * a.width) 1 set (λ v. bit (nat_lt 0 (bits v a))) → IsMade g h set.width 0 1 unset (λ v. value1 op1.Not set.width (bits v set)) → IsMade h i 32 0 1 x (λ v. resized 32 false unset.width (bits v unset)) →
    IsChecked f i int (3 * a.width) 3 (plain x) (λ v. Value (bit_of (is_zero (stands u v a))))
opposite_made f g h i u a set unset x ha e S N R =
    let N' = subst (λ w. IsMade g h w 0 1 unset (λ v. value1 op1.Not w (bits v set))) S.width N in
    let both = made_then f g h 1 (3 * a.width) 0 1 1 unset _ S.builds N' in
    let all = made_then f h i 32 (3 * a.width + 0) 0 2 1 x _ both.builds R in
    checked_as f i int (3 * a.width + 0 + 0) (3 * a.width) (2 + 1) 3 (plain x) _ _
    (plain_made f i int 32 (3 * a.width + 0 + 0) (2 + 1) x (λ v. resized 32 false unset.width (bits v unset)) (λ v. Value (bit_of (is_zero (stands u v a)))) refl all (λ v q.
    let q2 = R.builds.grown v q in
    let q1 = N.builds.grown v q2 in
    let lt = stands_below v f i a u.bits _ _ all.builds q ha e in
    let k : bits v unset ≡ bit (not (nat_lt 0 (bits v a))) = N'.value v q2 ∙ ap (λ n. 2 ^ 1 - 1 - n) (S.value v q1) ∙ not_bit (nat_lt 0 (bits v a)) in
    ap Value (ap (λ w. number true 32 (resized 32 false w (bits v unset))) (N.width ∙ S.width) ∙ ap (λ n. number true 32 (resized 32 false 1 n)) k ∙ bit_number (not (nat_lt 0 (bits v a))) ∙ ap bit_of (sym (zero_of u.signed u.bits (bits v a) lt)))))
    (omega arith) (omega arith) (λ v q. refl)

-- comparisons
pub holds_made : (f g h : Graph) (op : Op2) (a b holds x : SizedTerm) → Has f a → Has f b → ((w : ℕ) → width2 op w ≡ 1) →
    IsMade f g (width2 op a.width) (gates2 op a.width) 1 holds (λ v. value2 op a.width (bits v a) (bits v b)) → IsMade g h 32 0 1 x (λ v. resized 32 false holds.width (bits v holds)) →
    (test : Values → Bool) → ((v : Values) → bits v a < 2 ^ a.width → bits v b < 2 ^ b.width → value2 op a.width (bits v a) (bits v b) ≡ bit (test v)) → IsChecked f h int (gates2 op a.width) 3 (plain x) (λ v. Value (bit_of (test v)))
holds_made f g h op a b holds x ha hb one H R test is =
    let all = made_then f g h 32 (gates2 op a.width) 0 1 1 x _ H.builds R in
    checked_as f h int (gates2 op a.width + 0) (gates2 op a.width) (1 + 1) 3 (plain x) _ _
    (plain_made f h int 32 (gates2 op a.width + 0) (1 + 1) x (λ v. resized 32 false holds.width (bits v holds)) (λ v. Value (bit_of (test v))) refl all (λ v q.
    let k : bits v holds ≡ bit (test v) = H.value v (R.builds.grown v q) ∙ is v (stands_below v f h a a.width _ _ all.builds q ha refl) (stands_below v f h b b.width _ _ all.builds q hb refl) in
    ap Value (ap (λ w. number true 32 (resized 32 false w (bits v holds))) (H.width ∙ one a.width) ∙ ap (λ n. number true 32 (resized 32 false 1 n)) k ∙ bit_number (test v))))
    (omega arith) (omega arith) (λ v q. refl)

pub fails_made : (f g h i : Graph) (op : Op2) (a b holds fails x : SizedTerm) → Has f a → Has f b → ((w : ℕ) → width2 op w ≡ 1) →
    IsMade f g (width2 op a.width) (gates2 op a.width) 1 holds (λ v. value2 op a.width (bits v a) (bits v b)) → IsMade g h holds.width 0 1 fails (λ v. value1 op1.Not holds.width (bits v holds)) →
    IsMade h i 32 0 1 x (λ v. resized 32 false fails.width (bits v fails)) →
    (test : Values → Bool) → ((v : Values) → bits v a < 2 ^ a.width → bits v b < 2 ^ b.width → value2 op a.width (bits v a) (bits v b) ≡ bit (test v)) → IsChecked f i int (gates2 op a.width) 3 (plain x) (λ v. Value (bit_of (not (test v))))
fails_made f g h i op a b holds fails x ha hb one H N R test is =
    let both = made_then f g h holds.width (gates2 op a.width) 0 1 1 fails _ H.builds N in
    let all = made_then f h i 32 (gates2 op a.width + 0) 0 2 1 x _ both.builds R in
    checked_as f i int (gates2 op a.width + 0 + 0) (gates2 op a.width) (2 + 1) 3 (plain x) _ _
    (plain_made f i int 32 (gates2 op a.width + 0 + 0) (2 + 1) x (λ v. resized 32 false fails.width (bits v fails)) (λ v. Value (bit_of (not (test v)))) refl all (λ v q.
    let q2 = R.builds.grown v q in
    let w : holds.width ≡ 1 = H.width ∙ one a.width in
    let k : bits v holds ≡ bit (test v) = H.value v (N.builds.grown v q2) ∙ is v (stands_below v f i a a.width _ _ all.builds q ha refl) (stands_below v f i b b.width _ _ all.builds q hb refl) in
    let l : bits v fails ≡ bit (not (test v)) = N.value v q2 ∙ ap (λ w. 2 ^ w - 1 - bits v holds) w ∙ ap (λ n. 2 ^ 1 - 1 - n) k ∙ not_bit (test v) in
    ap Value (ap (λ w. number true 32 (resized 32 false w (bits v fails))) (N.width ∙ w) ∙ ap (λ n. number true 32 (resized 32 false 1 n)) l ∙ bit_number (not (test v)))))
    (omega arith) (omega arith) (λ v q. refl)

-- bits
pub bits_made : (f g : Graph) (t : IntType) (op : Op2) (a b x : SizedTerm) → Has f a → Has f b → a.width ≡ t.bits → b.width ≡ t.bits → width2 op t.bits ≡ t.bits →
    IsMade f g (width2 op a.width) (gates2 op a.width) 1 x (λ v. value2 op a.width (bits v a) (bits v b)) →
    (k : ℕ → ℕ → ℕ) → ((x y : ℕ) → value2 op t.bits x y ≡ k x y) → IsChecked f g t (gates2 op t.bits) 1 (plain x) (λ v. Value (bitwise k t (stands t v a) (stands t v b)))
bits_made f g t op a b x ha hb ea eb w M k same =
    let M' = subst (λ w. IsMade f g (width2 op w) (gates2 op w) 1 x (λ v. value2 op w (bits v a) (bits v b))) ea M in
    plain_made f g t (width2 op t.bits) (gates2 op t.bits) 1 x (λ v. value2 op t.bits (bits v a) (bits v b)) (λ v. Value (bitwise k t (stands t v a) (stands t v b))) w M' (λ v q.
    let p = modulo_number t.signed t.bits (bits v a) (stands_below v f g a t.bits _ _ M.builds q ha ea) in
    let r = modulo_number t.signed t.bits (bits v b) (stands_below v f g b t.bits _ _ M.builds q hb eb) in
    ap (λ n. Value (number t.signed t.bits n)) (same (bits v a) (bits v b) ∙ ap (λ m. k m (bits v b)) (sym p) ∙ ap (k (modulo t.bits (stands t v a))) (sym r)))

-- conversions
truth_type : (t : IntType) → IsType t → t.truth ≡ true → (t.bits ≡ 1) × (t.signed ≡ false)
truth_type _ Truth e = (refl, refl)
truth_type _ (Byte s) e = cc
truth_type _ (Half s) e = cc
truth_type _ (Single s) e = cc
truth_type _ (Double s) e = cc

pub truth_made : (f g : Graph) (u t : IntType) (a x : SizedTerm) → Has f a → a.width ≡ u.bits → IsType t → t.truth ≡ true →
    IsMade f g 1 (3 * a.width) 1 x (λ v. bit (nat_lt 0 (bits v a))) → IsChecked f g t (8 * convert_weight t u.bits) 1 (plain x) (λ v. Value (converted t (stands u v a)))
truth_made f g u t a x ha e is q M =
    let y = truth_type t is q in
    let weight : convert_weight t u.bits ≡ u.bits = ap (λ (b : Bool). convert_weight (record { bits = t.bits; signed = t.signed; truth = b }) u.bits) q in
    checked_as f g t (3 * a.width) (8 * convert_weight t u.bits) 1 1 (plain x) _ _
    (plain_made f g t 1 (3 * a.width) 1 x (λ v. bit (nat_lt 0 (bits v a))) (λ v. Value (converted t (stands u v a))) (sym y.0) M (λ v r.
    let lt = stands_below v f g a u.bits _ _ M.builds r ha e in
    ap Value (ap (λ s. number s t.bits (bit (nat_lt 0 (bits v a)))) y.1 ∙ truth_is u.signed u.bits (bits v a) lt
    ∙ sym (ap (λ (b : Bool). converted (record { bits = t.bits; signed = t.signed; truth = b }) (stands u v a)) q))))
    (omega arith) (omega arith) (λ v r. refl)

pub converted_made : (f g : Graph) (u t : IntType) (a x : SizedTerm) → a.width ≡ u.bits → t.truth ≡ false →
    IsMade f g t.bits 0 1 x (λ v. resized t.bits u.signed a.width (bits v a)) → IsChecked f g t (8 * convert_weight t u.bits) 1 (plain x) (λ v. Value (converted t (stands u v a)))
converted_made f g u t a x e q M =
    checked_as f g t 0 (8 * convert_weight t u.bits) 1 1 (plain x) _ _
    (plain_made f g t t.bits 0 1 x (λ v. resized t.bits u.signed a.width (bits v a)) (λ v. Value (converted t (stands u v a))) refl M
    (λ v r. ap Value (ap (λ w. number t.signed t.bits (resized t.bits u.signed w (bits v a))) e ∙ sym (converted_is t (stands u v a) q))))
    (omega arith) (omega arith) (λ v r. refl)

type_some : (t : IntType) → IsType t → 0 < t.bits
type_some _ Truth = omega arith
type_some _ (Byte s) = omega arith
type_some _ (Half s) = omega arith
type_some _ (Single s) = omega arith
type_some _ (Double s) = omega arith

pub literal_made : (f g : Graph) (t : IntType) (n : ℤ) (x : SizedTerm) (m : ℕ) → IsType t → InRange t n → m ≡ modulo t.bits n → IsMade f g t.bits 0 1 x (λ v. m % 2 ^ t.bits) → IsChecked f g t 0 1 (plain x) (λ v. Value n)
literal_made f g t n x m is within e M =
    plain_made f g t t.bits 0 1 x (λ v. m % 2 ^ t.bits) (λ v. Value n) refl M
    (λ v r. ap Value (ap (λ k. number t.signed t.bits (k % 2 ^ t.bits)) e ∙ ap (number t.signed t.bits) (mod-eq_of_lt (modulo_below t.bits n)) ∙ number_modulo t n (type_some t is) within))

-- what each operation at a greater width is
pub sums : (w x y : ℕ) → x < 2 ^ w → y < 2 ^ w → number true (w + 1) (at_width op2.Add (w + 1) w x y) ≡ number true w x +ℤ number true w y
sums w x y p q = wide_sum w x y p q

pub differences : (w x y : ℕ) → x < 2 ^ w → y < 2 ^ w → number true (w + 1) (at_width op2.Sub (w + 1) w x y) ≡ number true w x -ℤ number true w y
differences w x y p q = wide_difference w x y p q

pub products : (w x y : ℕ) → x < 2 ^ w → y < 2 ^ w → number true (w + w) (at_width op2.Mul (w + w) w x y) ≡ number true w x *ℤ number true w y
products w x y p q = wide_product w x y p q

pub signed_product_gates : (t : IntType) → 0 < t.bits → t.signed ≡ true → gates2 op2.Mul (t.bits + t.bits) + 4 * (t.bits + t.bits) + 9 ≤ 8 * product_weight t
signed_product_gates t p s =
    let weight : product_weight t ≡ 44 * (t.bits * t.bits) + 8 * t.bits + 32 = ap (λ (b : Bool). product_weight (record { bits = t.bits; signed = b; truth = t.truth })) s in
    let e : (t.bits + t.bits) * (t.bits + t.bits) ≡ 4 * (t.bits * t.bits) = grind arith in
    omega arith

pub product_gates : (t : IntType) → t.signed ≡ false → gates2 op2.Mul t.bits ≤ 8 * product_weight t
product_gates t s =
    let weight : product_weight t ≡ 11 * (t.bits * t.bits) + 32 = ap (λ (b : Bool). product_weight (record { bits = t.bits; signed = b; truth = t.truth })) s in
    omega arith
