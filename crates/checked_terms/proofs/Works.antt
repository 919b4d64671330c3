-- What the terms of an operator give.
use Rattle.std.proofs.Common.{◌≡◌, ℕ, zero, suc, ◌+◌, ◌-◌, ◌*◌, ◌/◌, ◌%◌, ◌<◌, ◌≤◌, ◌^◌, Bool, true, false, Option, Some, None, length, refl, sym, ap, ◌∙◌, subst, arith}
use Rattle.std.specs.Prelude.{ℤ, pos, negsuc, neg_ℤ, ◌+ℤ◌, ◌-ℤ◌, ◌*ℤ◌, nat_eq, nat_lt, not, ◌≤ℤ◌}
use Rattle.std.proofs.lemmas.Nat.{pow_pos}
use Rattle.std.proofs.Math.Nat.{mod-eq_of_lt}
use Rattle.std.proofs.lemmas.Int.{ints}
use Rattle.std.proofs.lemmas.Bool.Decides.{nat_tests}
use Rattle.bits_core.specs.declared.op.Op1.TheVariants as op1
use Rattle.bits_core.specs.declared.op.Op2.{Op2}
use Rattle.bits_core.specs.declared.op.Op2.TheVariants as op2
use Rattle.bits_core.specs.Word.{number, modulo, resized, wrap, read_signed, bit, at_zero}
use Rattle.bits_core.specs.Ops.{value1, value2, width2}
use Rattle.bits_core.proofs.Laws.{halves, signed_low, signed_high, wrap_small, wrap_signed, wrap_negsuc}
use Rattle.word_eqs.specs.Gates.{gates1, gates2}
use Rattle.word_eqs.specs.Graph.{Graph}
use Rattle.word_eqs.specs.Meaning.{Values, Respects}
use Rattle.word_eqs.proofs.Overflow.{signed_of_wrap}
use Rattle.joint_ir.specs.declared.ctype.IntType.{IntType}
use Rattle.joint_ir.specs.declared.program.PropId.{PropId}
use Rattle.joint_ir.specs.Types.{int, in_range, converted, truth_of, InRange, IsType}
use Rattle.joint_ir.specs.Values.{Answer, Value, Fault, checked, result_in, bit_of, is_zero, bitwise}
use Rattle.sized_terms.specs.declared.SizedTerm.{SizedTerm}
use Rattle.sized_terms.specs.Sized.{Has, Builds, IsMade, bits}
use Rattle.sized_terms.proofs.Made.{builds_then, builds_within, bits_below, made_then}
use Rattle.checked_terms.specs.declared.Check.{Check}
use Rattle.checked_terms.specs.declared.Checked.{Checked}
use Rattle.checked_terms.specs.declared.Cut.{Cut}
use Rattle.checked_terms.specs.Checked.{stands, test_then, check_of, HasCheck, check_gates, IsChecked, IsPlain, IsCut, plain, comparison_of}
use Rattle.checked_terms.proofs.Fits.{doubled, fits_is, converted_is}

-- a number below 2^bits, as a term of a type has
pub stands_below : (v : Values) (g h : Graph) (x : SizedTerm) (w a n : ℕ) → Builds g h a n → Respects v h → Has g x → x.width ≡ w → bits v x < 2 ^ w
stands_below v g h x w a n b r p e = subst (λ k. bits v x < 2 ^ k) e (bits_below v h x b.proper r (b.kept x p))

-- more gates, and an answer in other words
pub checked_as : (f g : Graph) (t : IntType) (a b m n : ℕ) (r : Checked) (answer other : Values → Answer) → IsChecked f g t a m r answer → a ≤ b → m ≤ n → ((v : Values) → Respects v g → answer v ≡ other v) → IsChecked f g t b n r other
checked_as f g t a b m n r answer other p l k e = record {
  made = p.made;
  builds = builds_within f g p.made p.made m n p.builds (omega arith) k;
  has = p.has;
  width = p.width;
  division = p.division;
  other = p.other;
  gives = λ v r'. p.gives v r' ∙ e v r';
  few = let i = p.few in omega arith;
}

-- one term, without checks
pub plain_made : (f g : Graph) (t : IntType) (w a n : ℕ) (x : SizedTerm) (value : Values → ℕ) (answer : Values → Answer) → w ≡ t.bits → IsMade f g w a n x value →
    ((v : Values) → Respects v g → Value (number t.signed t.bits (value v)) ≡ answer v) → IsChecked f g t a n (plain x) answer
plain_made f g t w a n x value answer e p is = record {
  made = a;
  builds = p.builds;
  has = p.has;
  width = p.width ∙ e;
  division = tt;
  other = tt;
  gives = λ v r. ap (λ k. Value (number t.signed t.bits k)) (p.value v r) ∙ is v r;
  few = omega arith;
}

-- a check whose term is a test
pub test_is : (v : Values) (p : Option PropId) (x : SizedTerm) (b : Bool) (a : Answer) → bits v x ≡ bit b → test_then v (check_of p x) a ≡ checked p b a
test_is v None x b a e = refl
test_is v (Some p) x true a e = ap (λ n. at_zero n (Fault p) a) e
test_is v (Some p) x false a e = ap (λ n. at_zero n (Fault p) a) e

pub has_check : (g : Graph) (p : Option PropId) (x : SizedTerm) → Has g x → HasCheck g (check_of p x)
has_check g None x h = tt
has_check g (Some p) x h = h

pub check_few : (p : Option PropId) (x : SizedTerm) → check_gates (check_of p x) ≤ x.width + 8
check_few None x = omega arith
check_few (Some p) x = omega arith

pub cut_made : (g h i j : Graph) (t : IntType) (wide value back fits : SizedTerm) → Has g wide → IsPlain t → t.signed ≡ true → t.bits ≤ wide.width →
    IsMade g h t.bits 0 1 value (λ v. resized t.bits true wide.width (bits v wide)) → IsMade h i wide.width 0 1 back (λ v. resized wide.width true value.width (bits v value)) →
    IsMade i j 1 (4 * back.width) 1 fits (λ v. bit (nat_eq (bits v back) (bits v wide))) → IsCut g j t wide (record { value = value; fits = fits })
cut_made g h i j t wide value back fits has p s le V B F =
    let all = builds_then g h j 0 (0 + 4 * back.width) 1 (1 + 1) V.builds (builds_then h i j 0 (4 * back.width) 1 1 B.builds F.builds) in
    record {
      builds = builds_within g j (0 + (0 + 4 * back.width)) (4 * wide.width) (1 + (1 + 1)) 3 all (let e = B.width in let f : 4 * back.width ≡ 4 * wide.width = ap (λ k. 4 * k) e in omega arith) (omega arith);
      has = F.builds.kept value (B.builds.kept value V.has);
      has_fits = F.has;
      width = V.width;
      width_fits = F.width;
      value = λ v r. V.value v (B.builds.grown v (F.builds.grown v r));
      fits = λ v r.
          let r1 = F.builds.grown v r in
          let r0 = B.builds.grown v r1 in
          let lt : bits v wide < 2 ^ wide.width = stands_below v g j wide wide.width _ _ all r has refl in
          let b : bits v back ≡ resized wide.width true t.bits (resized t.bits true wide.width (bits v wide)) =
          B.value v r1 ∙ ap (λ k. resized wide.width true k (bits v value)) V.width ∙ ap (resized wide.width true t.bits) (V.value v r0) in
          F.value v r ∙ ap (λ k. bit (nat_eq k (bits v wide))) b ∙ ap bit (fits_is t wide.width (bits v wide) s p.some le lt);
    }

-- what is made at a greater width, cut with a check
pub signed_made : (f g h : Graph) (t : IntType) (p : Option PropId) (to a n : ℕ) (wide : SizedTerm) (r : Cut) (value : Values → ℕ) (z : Values → ℤ) → IsPlain t → IsMade f g to a n wide value → IsCut g h t wide r →
    ((v : Values) → Respects v g → number true to (value v) ≡ z v) →
    IsChecked f h t (a + 4 * to + 9) (n + 3) (record { division = None; other = check_of p r.fits; value = r.value }) (λ v. result_in t p (z v))
signed_made f g h t p to a n wide r value z plain W C is = record {
  made = a + 4 * wide.width;
  builds = builds_then f g h a (4 * wide.width) n 3 W.builds C.builds;
  has = C.has;
  width = C.width;
  division = tt;
  other = has_check h p r.fits C.has_fits;
  gives = λ v q.
      let q' = C.builds.grown v q in
      let e : number true wide.width (bits v wide) ≡ z v = ap (λ k. number true k (bits v wide)) W.width ∙ ap (number true to) (W.value v q') ∙ is v q' in
      test_is v p r.fits (in_range t (z v)) _ (C.fits v q ∙ ap (λ k. bit (in_range t k)) e)
      ∙ ap (λ k. checked p (in_range t (z v)) (Value k)) (ap (number t.signed t.bits) (C.value v q ∙ ap (modulo t.bits) e) ∙ sym (converted_is t (z v) plain.truth));
  few = let c = check_few p r.fits in let e = C.width_fits in let f : 4 * wide.width ≡ 4 * to = ap (λ k. 4 * k) W.width in omega arith;
}

-- an operation of unsigned numbers, modulo 2^bits
pub unsigned_answer : (t : IntType) (p : Option PropId) (n : ℕ) (z : ℤ) → IsPlain t → p ≡ None → n ≡ modulo t.bits z → Value (number t.signed t.bits n) ≡ result_in t p z
unsigned_answer t p n z plain e is =
    ap (λ k. Value (number t.signed t.bits k)) is ∙ sym (ap Value (converted_is t z plain.truth)) ∙ sym (ap (λ q. result_in t q z) e)

-- at a type without sign, a number is what its bits are
pub unsigned_number : (t : IntType) (n : ℕ) → t.signed ≡ false → number t.signed t.bits n ≡ pos n
unsigned_number t n e = ap (λ b. number b t.bits n) e

pub signed_number : (t : IntType) (n : ℕ) → t.signed ≡ true → number t.signed t.bits n ≡ number true t.bits n
signed_number t n e = ap (λ b. number b t.bits n) e

-- the bits of a number of a type are those that it was read from
pub modulo_number : (s : Bool) (w n : ℕ) → n < 2 ^ w → modulo w (number s w n) ≡ n
modulo_number true w n h = wrap_signed (2 ^ w) n h
modulo_number false w n h = mod-eq_of_lt h

-- the bits of a number of a type, read again
range_word : (w : ℕ) (s u : Bool) (z : ℤ) → 0 < w → InRange (record { bits = w; signed = s; truth = u }) z → number s w (modulo w z) ≡ z
range_word w true u z h r =
    let l : neg_ℤ (pos (2 ^ (w - 1))) ≤ℤ z = r.low in
    let k : z ≤ℤ (pos (2 ^ (w - 1)) -ℤ pos 1) = r.high in
    let d = doubled w h in
    signed_of_wrap (2 ^ w) z (record { low = omega (arith, ints); high = omega (arith, ints) })
range_word w false u (pos n) h r =
    let k : pos n ≤ℤ (pos (2 ^ w) -ℤ pos 1) = r.high in
    let p = pow_pos w in
    let lt : n < 2 ^ w = omega (arith, ints) in
    ap pos (mod-eq_of_lt lt)
range_word w false u (negsuc n) h r =
    let l : pos 0 ≤ℤ negsuc n = r.low in
    absurd (omega (arith, ints))

pub number_modulo : (t : IntType) (z : ℤ) → 0 < t.bits → InRange t z → number t.signed t.bits (modulo t.bits z) ≡ z
number_modulo t z h r = range_word t.bits t.signed t.truth z h r

-- all bits turned over
less_one : (n : ℕ) → neg_ℤ (pos n) -ℤ pos 1 ≡ negsuc n
less_one n = omega (arith, ints)

more_one : (n : ℕ) → neg_ℤ (negsuc n) -ℤ pos 1 ≡ pos n
more_one n = omega (arith, ints)

turned_low : (m n : ℕ) → n < m → m - 1 - n ≡ wrap m (neg_ℤ (pos n) -ℤ pos 1)
turned_low m n h =
    let e : m - 1 - n ≡ m - suc n = omega arith in
    e ∙ sym (ap (wrap m) (less_one n) ∙ wrap_negsuc m n h)

pub turned : (s : Bool) (w n : ℕ) → n < 2 ^ w → 2 ^ w - 1 - n ≡ modulo w (neg_ℤ (number s w n) -ℤ pos 1)
turned false w n h = turned_low (2 ^ w) n h
turned true w n h = halves (2 ^ w) n
    (λ l. turned_low (2 ^ w) n h ∙ sym (ap (λ z. wrap (2 ^ w) (neg_ℤ z -ℤ pos 1)) (signed_low (2 ^ w) n l)))
    (λ l.
    let e : 2 ^ w - 1 - n ≡ 2 ^ w - suc n = omega arith in
    let lt : 2 ^ w - suc n < 2 ^ w = omega arith in
    e ∙ sym (ap (λ z. wrap (2 ^ w) (neg_ℤ z -ℤ pos 1)) (signed_high (2 ^ w) n l) ∙ ap (wrap (2 ^ w)) (more_one (2 ^ w - suc n)) ∙ wrap_small (2 ^ w) (2 ^ w - suc n) lt))

-- 0, and what isn't 0
zero_pos : (n : ℕ) → is_zero (pos n) ≡ not (nat_lt 0 n)
zero_pos zero = refl
zero_pos (suc n) = let e : nat_lt 0 (suc n) ≡ true = grind (arith, nat_tests) in sym (ap not e)

pub zero_of : (s : Bool) (w n : ℕ) → n < 2 ^ w → is_zero (number s w n) ≡ not (nat_lt 0 n)
zero_of false w n h = zero_pos n
zero_of true w n h = halves (2 ^ w) n
    (λ l. ap is_zero (signed_low (2 ^ w) n l) ∙ zero_pos n)
    (λ l.
    let e : nat_lt 0 n ≡ true = above_zero (2 ^ w) n l (pow_pos w) in
    ap is_zero (signed_high (2 ^ w) n l) ∙ sym (ap not e))
  where
    above_zero : (m n : ℕ) → m ≤ n + n → 0 < m → nat_lt 0 n ≡ true
    above_zero m n l p = grind (arith, nat_tests)

pub truth_is : (s : Bool) (w n : ℕ) → n < 2 ^ w → pos (bit (nat_lt 0 n)) ≡ truth_of (number s w n)
truth_is s w n h = from_zero (number s w n) (nat_lt 0 n) (zero_of s w n h)
  where
    from_zero : (z : ℤ) (b : Bool) → is_zero z ≡ not b → pos (bit b) ≡ truth_of z
    from_zero (pos zero) true e = cc
    from_zero (pos zero) false e = refl
    from_zero (pos (suc n)) true e = refl
    from_zero (pos (suc n)) false e = cc
    from_zero (negsuc n) true e = refl
    from_zero (negsuc n) false e = cc

-- 0 and 1 in 32 bits
pub bit_number : (b : Bool) → number true 32 (resized 32 false 1 (bit b)) ≡ bit_of b
bit_number true = refl
bit_number false = refl

pub not_bit : (b : Bool) → 2 ^ 1 - 1 - bit b ≡ bit (not b)
not_bit true = refl
not_bit false = refl
