-- Quotients and remainders of words.
use Rattle.std.proofs.Common.{◌≡◌, ◌≢◌, ℕ, suc, ◌+◌, ◌-◌, ◌*◌, ◌/◌, ◌<◌, ◌≤◌, ◌^◌, Bool, true, false, ◌⊎◌, inl, inr, refl, sym, ap, ◌∙◌, subst, arith}
use Rattle.std.specs.Prelude.{pos, negsuc, neg_ℤ, ◌+ℤ◌, ◌<ℤ◌, nat_eq, not, ◌&&◌, int_div}
use Rattle.std.proofs.Math.Nat.{div-le_self, mod-add-div'}
use Rattle.std.proofs.lemmas.Nat.{pow_pos}
use Rattle.std.proofs.lemmas.Int.{ints}
use Rattle.std.proofs.lemmas.Bool.Decides.{nat_tests}
use Rattle.bits_core.specs.Word.{number, read_signed}
use Rattle.bits_core.proofs.Laws.{halves, signed_low, signed_high}
use Rattle.word_eqs.proofs.Overflow.{IsSignedIn}
use Rattle.joint_ir.specs.declared.ctype.IntType.{IntType}
use Rattle.joint_ir.specs.Types.{in_range}
use Rattle.checked_terms.proofs.Fits.{same_test, doubled, range_signed, signed_range}
use Rattle.division_terms.specs.Division.{quotient_fits}

pos_fits : (m k : ℕ) → k + k < m → IsSignedIn m (pos k)
pos_fits m k h = record { low = omega (arith, ints); high = omega (arith, ints) }

neg_fits : (m k : ℕ) → 0 < m → k + k ≤ m → IsSignedIn m (neg_ℤ (pos k))
neg_fits m k h l = record { low = omega (arith, ints); high = omega (arith, ints) }

-- a quotient by at least 2 is at most a half
halved : (a b : ℕ) → 2 ≤ b → (a / b) + (a / b) ≤ a
halved a b h =
    let s = mod-add-div' a b in
    let e : (a / b) * 2 ≤ (a / b) * b = grind arith in
    omega arith

div_one : (a : ℕ) → a / 1 ≡ a
div_one a = omega arith

-- which of the two may be at a bound
least_or : (h m x y : ℕ) → not (nat_eq x h && nat_eq y (m - 1)) ≡ true → (x ≢ h) ⊎ (y ≢ m - 1)
least_or h m x y e = on (nat_eq x h) (nat_eq y (m - 1)) refl refl e
  where
    on : (a b : Bool) → nat_eq x h ≡ a → nat_eq y (m - 1) ≡ b → not (a && b) ≡ true → (x ≢ h) ⊎ (y ≢ m - 1)
    on false b p q e = inl (λ i. neq x h p i)
      where
        neq : (i j : ℕ) → nat_eq i j ≡ false → i ≡ j → ⊥
        neq i j p q = grind (arith, nat_tests)
    on true false p q e = inr (λ i. neq y (m - 1) q i)
      where
        neq : (i j : ℕ) → nat_eq i j ≡ false → i ≡ j → ⊥
        neq i j p q = grind (arith, nat_tests)
    on true true p q e = cc

-- the quotient of two words is in range where one of them is not at its bound
div_fits : (h m x y : ℕ) → m ≡ h + h → 0 < h → x < m → y < m → y ≢ 0 → (x ≢ h) ⊎ (y ≢ m - 1) → IsSignedIn m (int_div (read_signed m x) (read_signed m y))
div_fits h m x y e p lx ly ny or = halves m x
    (λ l. halves m y
    (λ r. let d = div-le_self x y in
    let k : (x / y) + (x / y) < m = omega arith in
    subst (λ a. IsSignedIn m (int_div a (read_signed m y))) (sym (signed_low m x l)) (subst (λ b. IsSignedIn m (int_div (pos x) b)) (sym (signed_low m y r)) (pos_fits m (x / y) k)))
    (λ r. let d = div-le_self x (suc (m - suc y)) in
    let k : (x / suc (m - suc y)) + (x / suc (m - suc y)) ≤ m = omega arith in
    subst (λ a. IsSignedIn m (int_div a (read_signed m y))) (sym (signed_low m x l)) (subst (λ b. IsSignedIn m (int_div (pos x) b)) (sym (signed_high m y r)) (neg_fits m (x / suc (m - suc y)) (omega arith) k))))
    (λ l. halves m y
    (λ r. let d = div-le_self (suc (m - suc x)) y in
    let k : (suc (m - suc x) / y) + (suc (m - suc x) / y) ≤ m = omega arith in
    subst (λ a. IsSignedIn m (int_div a (read_signed m y))) (sym (signed_high m x l)) (subst (λ b. IsSignedIn m (int_div (negsuc (m - suc x)) b)) (sym (signed_low m y r)) (neg_fits m (suc (m - suc x) / y) (omega arith) k)))
    (λ r. subst (λ a. IsSignedIn m (int_div a (read_signed m y))) (sym (signed_high m x l)) (subst (λ b. IsSignedIn m (int_div (negsuc (m - suc x)) b)) (sym (signed_high m y r)) (pos_fits m (suc (m - suc x) / suc (m - suc y)) (both l r or)))))
  where
    by_one : (a b : ℕ) → b ≡ 1 → a / b ≡ a
    by_one a b f = ap (λ n. a / n) f ∙ div_one a

    both : m ≤ x + x → m ≤ y + y → (x ≢ h) ⊎ (y ≢ m - 1) → (suc (m - suc x) / suc (m - suc y)) + (suc (m - suc x) / suc (m - suc y)) < m
    both l r (inl ne) =
        let d = div-le_self (suc (m - suc x)) (suc (m - suc y)) in
        let k : suc (m - suc x) < h = omega arith in
        omega arith
    both l r (inr ne) =
        let two : 2 ≤ suc (m - suc y) = omega arith in
        let d = halved (suc (m - suc x)) (suc (m - suc y)) two in
        omega arith

-- the least number divided by -1 is out of range
least_out : (h m : ℕ) → m ≡ h + h → 0 < h → IsSignedIn m (int_div (read_signed m h) (read_signed m (m - 1))) → ⊥
least_out h m e p i =
    let l : m ≤ h + h = omega arith in
    let r : m ≤ (m - 1) + (m - 1) = omega arith in
    let a : m - suc h ≡ h - 1 = omega arith in
    let b : m - suc (m - 1) ≡ 0 = omega arith in
    let j : IsSignedIn m (int_div (negsuc (h - 1)) (negsuc 0)) =
    subst (λ k. IsSignedIn m (int_div (negsuc (h - 1)) (negsuc k))) b
    (subst (λ k. IsSignedIn m (int_div (negsuc k) (negsuc (m - suc (m - 1))))) a
    (subst (λ z. IsSignedIn m (int_div (negsuc (m - suc h)) z)) (signed_high m (m - 1) r) (subst (λ z. IsSignedIn m (int_div z (read_signed m (m - 1)))) (signed_high m h l) i))) in
    let k : (pos (suc (h - 1) / 1) +ℤ pos (suc (h - 1) / 1)) <ℤ pos m = j.high in
    let d = div_one (suc (h - 1)) in
    omega (arith, ints)

pub quotient_in : (t : IntType) (x y : ℕ) → t.signed ≡ true → 0 < t.bits → x < 2 ^ t.bits → y < 2 ^ t.bits → y ≢ 0 →
    quotient_fits t.bits x y ≡ in_range t (int_div (number true t.bits x) (number true t.bits y))
quotient_in t x y s p lx ly ny =
    let h : ℕ = 2 ^ (t.bits - 1) in
    let m : ℕ = 2 ^ t.bits in
    let e : m ≡ h + h = doubled t.bits p in
    let ph : 0 < h = pow_pos (t.bits - 1) in
    same_test _ _
    (λ q. signed_range t _ s p (div_fits h m x y e ph lx ly ny (least_or h m x y q)))
    (λ q. back h m x y e ph (range_signed t _ s p q) (nat_eq x h) (nat_eq y (m - 1)) refl refl)
  where
    same : (i j : ℕ) → nat_eq i j ≡ true → i ≡ j
    same i j p = grind (arith, nat_tests)

    back : (h m x y : ℕ) → m ≡ h + h → 0 < h → IsSignedIn m (int_div (read_signed m x) (read_signed m y)) → (a b : Bool) → nat_eq x h ≡ a → nat_eq y (m - 1) ≡ b → not (nat_eq x h && nat_eq y (m - 1)) ≡ true
    back h m x y e ph i false b p q = ap (λ a. not (a && nat_eq y (m - 1))) p
    back h m x y e ph i true false p q = ap (λ a. not (a && nat_eq y (m - 1))) p ∙ ap not q
    back h m x y e ph i true true p q =
        absurd (least_out h m e ph (subst (λ k. IsSignedIn m (int_div (read_signed m h) (read_signed m k))) (same y (m - 1) q) (subst (λ k. IsSignedIn m (int_div (read_signed m k) (read_signed m y))) (same x h p) i)))
