-- When a left shift loses nothing, and which amounts there are.
use Rattle.std.proofs.Common.{◌≡◌, ◌≢◌, ℕ, zero, suc, ◌+◌, ◌-◌, ◌*◌, ◌/◌, ◌%◌, ◌<◌, ◌≤◌, ◌^◌, Bool, true, false, refl, sym, ap, ◌∙◌, subst, arith}
use Rattle.std.specs.Prelude.{ℤ, pos, negsuc, ◌*ℤ◌, ◌+ℤ◌, ◌<ℤ◌, nat_eq, nat_lt, not, ◌&&◌, int_lt, if◌then◌else◌}
use Rattle.std.proofs.Math.Nat.{div-le_self, mod-add-div', mod-eq_of_lt, mod-le, mod-lt, mul-div_cancel}
use Rattle.std.proofs.lemmas.Nat.{pow_pos}
use Rattle.std.proofs.lemmas.Int.{ints}
use Rattle.std.proofs.lemmas.Bool.Decides.{nat_tests}
use Rattle.bits_core.specs.Word.{number, modulo, wrap, read_signed, floor_div, bit}
use Rattle.bits_core.specs.Ops.{less, shifted_right}
use Rattle.bits_core.proofs.Laws.{halves, signed_low, signed_high, wrap_negsuc, pow_le}
use Rattle.word_eqs.proofs.Overflow.{IsSignedIn}
use Rattle.joint_ir.specs.declared.ctype.IntType.{IntType}
use Rattle.joint_ir.specs.Types.{in_range}
use Rattle.joint_ir.specs.Values.{is_amount, may_shift_left}
use Rattle.checked_terms.proofs.Fits.{same_test, eq_true, true_eq, range_signed, signed_range, doubled}
use Rattle.shift_terms.specs.Shifts.{loses_nothing}

exact_div : (x d : ℕ) → 0 < d → (x * d) / d ≡ x
exact_div x d h = mul-div_cancel x h

x_below : (x d : ℕ) → 0 < d → x ≤ x * d
x_below x zero h = absurd (omega arith)
x_below x (suc d) h = let e : x * suc d ≡ x * d + x = grind arith in omega arith

-- a shifted number that comes back was not cut
came_back : (m x r d : ℕ) → 0 < d → x + x < m → r ≡ (x * d) % m → wrap m (floor_div (read_signed m r) d) ≡ x → (x * d) + (x * d) < m
came_back m x r d p l e back = halves m r
    (λ low.
    let a : wrap m (pos (r / d)) ≡ x = subst (λ z. wrap m (floor_div z d) ≡ x) (signed_low m r low) back in
    let le = div-le_self r d in
    let lt : r / d < m = omega arith in
    let q : r / d ≡ x = sym (mod-eq_of_lt lt) ∙ a in
    let s = mod-add-div' r d in
    let k : (r / d) * d ≡ x * d = ap (λ n. n * d) q in
    let t : r ≤ x * d = subst (λ n. n ≤ x * d) (sym e) (mod-le (x * d) m) in
    omega arith)
    (λ high.
    let a : wrap m (negsuc ((m - suc r) / d)) ≡ x = subst (λ z. wrap m (floor_div z d) ≡ x) (signed_high m r high) back in
    let le = div-le_self (m - suc r) d in
    let pm : 0 < m = omega arith in
    let lr : r < m = subst (λ n. n < m) (sym e) (mod-lt (x * d) pm) in
    let lt : (m - suc r) / d < m = omega arith in
    let b : m - suc ((m - suc r) / d) ≡ x = sym (wrap_negsuc m ((m - suc r) / d) lt) ∙ a in
    absurd (omega arith))

stays : (m x r d : ℕ) → 0 < d → (x * d) + (x * d) < m → r ≡ (x * d) % m → wrap m (floor_div (read_signed m r) d) ≡ x
stays m x r d p l e =
    let lt : x * d < m = omega arith in
    let is : r ≡ x * d = e ∙ mod-eq_of_lt lt in
    let low : r + r < m = omega arith in
    let b = x_below x d p in
    let lx : x < m = omega arith in
    ap (λ z. wrap m (floor_div z d)) (signed_low m r low) ∙ ap (λ n. wrap m (pos (n / d))) is ∙ ap (λ n. wrap m (pos n)) (exact_div x d p) ∙ mod-eq_of_lt lx

in_signed : (m k : ℕ) → k + k < m → IsSignedIn m (pos k)
in_signed m k h = record { low = omega (arith, ints); high = omega (arith, ints) }

below_signed : (m k : ℕ) → IsSignedIn m (pos k) → k + k < m
below_signed m k h = let l = h.high in omega (arith, ints)

-- for a number that isn't below 0, coming back is being in range
pub back_is : (t : IntType) (x y : ℕ) → t.signed ≡ true → 0 < t.bits → x + x < 2 ^ t.bits →
    nat_eq (shifted_right true t.bits ((x * 2 ^ y) % 2 ^ t.bits) y) x ≡ in_range t (pos (x * 2 ^ y))
back_is t x y s p l =
    let m : ℕ = 2 ^ t.bits in
    let d : ℕ = 2 ^ y in
    let pd : 0 < d = pow_pos y in
    same_test _ _
    (λ q. signed_range t (pos (x * d)) s p (in_signed m (x * d) (came_back m x ((x * d) % m) d pd l refl (eq_true _ _ q))))
    (λ q. true_eq _ _ (stays m x ((x * d) % m) d pd (below_signed m (x * d) (range_signed t (pos (x * d)) s p q)) refl))

test_low : (y w n : ℕ) → n ≡ w → nat_lt y n ≡ nat_lt y w
test_low y w n e = ap (nat_lt y) e

test_high : (y w n : ℕ) → w ≤ y → n ≡ w → nat_lt y n ≡ false
test_high y w n le e = grind (arith, nat_tests)

-- the amounts of a type
pub amount_is : (t : IntType) (s : Bool) (u y : ℕ) → t.bits ≤ 64 → 32 ≤ u → y < 2 ^ u → less false u y (t.bits % 2 ^ u) ≡ is_amount t (number s u y)
amount_is t s u y few wide lt =
    let big : 2 ^ 32 ≤ 2 ^ u = pow_le 32 u wide in
    let small : t.bits < 2 ^ u = omega arith in
    let e : t.bits % 2 ^ u ≡ t.bits = mod-eq_of_lt small in
    by_sign s e big
  where
    by_sign : (s : Bool) → t.bits % 2 ^ u ≡ t.bits → 2 ^ 32 ≤ 2 ^ u → less false u y (t.bits % 2 ^ u) ≡ is_amount t (number s u y)
    by_sign false e big = test_low y t.bits (t.bits % 2 ^ u) e
    by_sign true e big = halves (2 ^ u) y
        (λ l. test_low y t.bits (t.bits % 2 ^ u) e ∙ sym (ap (is_amount t) (signed_low (2 ^ u) y l)))
        (λ l. let le : t.bits ≤ y = omega arith in
        test_high y t.bits (t.bits % 2 ^ u) le e ∙ sym (ap (is_amount t) (signed_high (2 ^ u) y l)))
