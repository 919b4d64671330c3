-- Which numbers are in the range of a type, and numbers that are cut to it.
use Rattle.std.proofs.Common.{◌≡◌, ℕ, zero, suc, ◌+◌, ◌-◌, ◌*◌, ◌/◌, ◌%◌, ◌<◌, ◌≤◌, ◌^◌, Bool, true, false, refl, sym, ap, ◌∙◌, subst, arith}
use Rattle.std.specs.Prelude.{ℤ, pos, negsuc, neg_ℤ, ◌+ℤ◌, ◌-ℤ◌, ◌*ℤ◌, ◌≤ℤ◌, ◌<ℤ◌, int_le, int_lt, nat_eq, nat_lt, ◌&&◌}
use Rattle.std.proofs.Math.Nat.{pow-suc, mod-eq_of_lt}
use Rattle.std.proofs.lemmas.Nat.{pow_pos}
use Rattle.std.proofs.lemmas.Int.{ints}
use Rattle.std.proofs.lemmas.Bool.Decides.{nat_tests}
use Rattle.bits_core.specs.Word.{number, modulo, resized, wrap, read_signed, bit, at_zero}
use Rattle.bits_core.proofs.Laws.{wrap_below, halves, signed_low, signed_high, wrap_small, wrap_signed}
use Rattle.word_eqs.proofs.Overflow.{IsSignedIn, signed_of_wrap, signed_is, word_fits, fits_word}
use Rattle.joint_ir.specs.declared.ctype.IntType.{IntType}
use Rattle.joint_ir.specs.Types.{in_range, lowest, highest, converted}

-- two tests that hold at the same time are one
pub same_test : (a b : Bool) → (a ≡ true → b ≡ true) → (b ≡ true → a ≡ true) → a ≡ b
same_test true true p q = refl
same_test true false p q = sym (p refl)
same_test false true p q = q refl
same_test false false p q = refl

pub eq_true : (m n : ℕ) → nat_eq m n ≡ true → m ≡ n
eq_true m n h = grind (arith, nat_tests)

pub true_eq : (m n : ℕ) → m ≡ n → nat_eq m n ≡ true
true_eq m n h = grind (arith, nat_tests)

both_true : (a b : Bool) → (a && b) ≡ true → (a ≡ true) × (b ≡ true)
both_true true b h = (refl, h)
both_true false b h = cc

true_both : (a b : Bool) → a ≡ true → b ≡ true → (a && b) ≡ true
true_both a b p q = ap (λ x. x && b) p ∙ q

pub le_true : (a b : ℤ) → int_le a b ≡ true → a ≤ℤ b
le_true a b h = grind (arith, ints)

pub true_le : (a b : ℤ) → a ≤ℤ b → int_le a b ≡ true
true_le a b h = grind (arith, ints)

pub doubled : (w : ℕ) → 0 < w → 2 ^ w ≡ 2 ^ (w - 1) + 2 ^ (w - 1)
doubled w h =
    let e : w ≡ suc (w - 1) = omega arith in
    let f = pow-suc 2 (w - 1) in
    let g : 2 ^ w ≡ 2 ^ suc (w - 1) = ap (λ k. 2 ^ k) e in
    omega arith

abbrev pub signed_type : ℕ → Bool → IntType
signed_type w u = record { bits = w; signed = true; truth = u }

range_in : (w : ℕ) (u : Bool) (z : ℤ) → 0 < w → in_range (signed_type w u) z ≡ true → IsSignedIn (2 ^ w) z
range_in w u z h e =
    let p = both_true (int_le (lowest (signed_type w u)) z) (int_le z (highest (signed_type w u))) e in
    let l : neg_ℤ (pos (2 ^ (w - 1))) ≤ℤ z = le_true (lowest (signed_type w u)) z p.0 in
    let k : z ≤ℤ (pos (2 ^ (w - 1)) -ℤ pos 1) = le_true z (highest (signed_type w u)) p.1 in
    let d = doubled w h in
    record { low = omega (arith, ints); high = omega (arith, ints) }

in_of : (w : ℕ) (u : Bool) (z : ℤ) → 0 < w → IsSignedIn (2 ^ w) z → in_range (signed_type w u) z ≡ true
in_of w u z h i =
    let l = i.low in
    let k = i.high in
    let d = doubled w h in
    true_both _ _ (true_le (lowest (signed_type w u)) z (omega (arith, ints))) (true_le z (highest (signed_type w u)) (omega (arith, ints)))

-- in the range of a signed type are the numbers that its words stand for
pub range_signed : (t : IntType) (z : ℤ) → t.signed ≡ true → 0 < t.bits → in_range t z ≡ true → IsSignedIn (2 ^ t.bits) z
range_signed t z s h e = range_in t.bits t.truth z h (subst (λ (b : Bool). in_range (record { bits = t.bits; signed = b; truth = t.truth }) z ≡ true) s e)

pub signed_range : (t : IntType) (z : ℤ) → t.signed ≡ true → 0 < t.bits → IsSignedIn (2 ^ t.bits) z → in_range t z ≡ true
signed_range t z s h i = subst (λ (b : Bool). in_range (record { bits = t.bits; signed = b; truth = t.truth }) z ≡ true) (sym s) (in_of t.bits t.truth z h i)

-- a number is in the range of a type exactly where its word is as before, cut and extended again
pub fits_is : (t : IntType) (w s : ℕ) → t.signed ≡ true → 0 < t.bits → t.bits ≤ w → s < 2 ^ w →
    nat_eq (resized w true t.bits (resized t.bits true w s)) s ≡ in_range t (number true w s)
fits_is t w s e h le lt =
    same_test _ _
    (λ q. signed_range t (number true w s) e h (fits_word t.bits w s le (eq_true _ _ q)))
    (λ q. true_eq _ _ (word_fits t.bits w s lt (range_signed t (number true w s) e h q)))

-- conversion to a type other than `_Bool`
pub converted_is : (t : IntType) (z : ℤ) → t.truth ≡ false → converted t z ≡ number t.signed t.bits (modulo t.bits z)
converted_is t z e = on t.truth e
  where
    on : (b : Bool) → b ≡ false → converted (record { bits = t.bits; signed = t.signed; truth = b }) z ≡ number t.signed t.bits (modulo t.bits z)
    on true e = cc
    on false e = refl
