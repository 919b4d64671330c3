-- Laws of words.
use Rattle.std.proofs.Common.{◌≡◌, ◌≢◌, ℕ, zero, suc, ◌+◌, ◌-◌, ◌*◌, ◌/◌, ◌%◌, ◌^◌, ◌<◌, ◌≤◌, Bool, true, false, refl, sym, ap, ◌∙◌, subst, arith}
use Rattle.std.specs.Prelude.{ℤ, pos, negsuc, neg_ℤ, nat_lt, unsigned_abs, int_div, int_rem, if◌then◌else◌, bit_and}
use Rattle.std.proofs.lemmas.Bool.Decides.{nat_tests}
use Rattle.std.proofs.lemmas.Nat.{pow_pos, and_mask, pow-add, mod-mul-add}
use Rattle.std.proofs.Math.Pow.{mod-mod-pow}
use Rattle.std.proofs.lemmas.Nat.Bits.{ones_shr}
use Rattle.std.proofs.Math.Nat.{mod-eq_of_lt, mod-lt, div-le_self, div-eq_of_lt, mul-mod_left, pow-le-pow_right, mod-add-div', mod-le, add-mul-mod_self_right}
use Rattle.bits_core.specs.Word.{below_zero, at_zero, floor_div, read_signed, wrap}

pub ones_is : (w : ℕ) → w ≤ 128 → 0 < w → 340282366920938463463374607431768211455 / 2 ^ (128 - w) + 1 ≡ 2 ^ w
ones_is w h p =
    let within : 128 - w ≤ 128 = omega arith in
    let e : 128 - (128 - w) ≡ w = omega arith in
    let f : 340282366920938463463374607431768211455 / 2 ^ (128 - w) ≡ 2 ^ w - 1 = ones_shr 128 (128 - w) within ∙ ap (λ k. 2 ^ k - 1) e in
    omega (arith, f, pow_pos w)

pub low_is : (w x mask : ℕ) → mask + 1 ≡ 2 ^ w → bit_and x mask ≡ x % 2 ^ w
low_is w x mask e =
    let f : mask ≡ 2 ^ w - 1 = omega arith in
    ap (bit_and x) f ∙ and_mask x w

-- a word read as a signed number, in its two halves
pub signed_low : (m n : ℕ) → n + n < m → read_signed m n ≡ pos n
signed_low m n h = grind (arith, nat_tests)

pub signed_high : (m n : ℕ) → m ≤ n + n → read_signed m n ≡ negsuc (m - suc n)
signed_high m n h = grind (arith, nat_tests)

pub halves : {P : Type 0} (m n : ℕ) → (n + n < m → P) → (m ≤ n + n → P) → P
halves {P = P} m n f g = on (nat_lt (n + n) m) refl
  where
    on : (b : Bool) → nat_lt (n + n) m ≡ b → P
    on true e = f (grind (arith, nat_tests))
    on false e = g (grind (arith, nat_tests))

pub wrap_below : (m : ℕ) (z : ℤ) → 0 < m → wrap m z < m
wrap_below m (pos n) h = mod-lt n h
wrap_below m (negsuc n) h = omega arith

pub wrap_small : (m n : ℕ) → n < m → wrap m (pos n) ≡ n
wrap_small m n h = mod-eq_of_lt h

pub wrap_negsuc : (m n : ℕ) → n < m → wrap m (negsuc n) ≡ m - suc n
wrap_negsuc m n h = ap (λ k. m - suc k) (mod-eq_of_lt h)

-- a word is the number that it stands for, modulo 2^w
pub wrap_signed : (m n : ℕ) → n < m → wrap m (read_signed m n) ≡ n
wrap_signed m n h = halves m n
    (λ l. ap (wrap m) (signed_low m n l) ∙ wrap_small m n h)
    (λ l. let lt : m - suc n < m = omega arith in
    let e : m - suc (m - suc n) ≡ n = omega arith in
    ap (wrap m) (signed_high m n l) ∙ wrap_negsuc m (m - suc n) lt ∙ e)

-- a signed word, read after it was extended
pub extended_signed : (k m n : ℕ) → k ≤ m → n < k → read_signed m (wrap m (read_signed k n)) ≡ read_signed k n
extended_signed k m n le h = halves k n
    (λ l. let lt : n < m = omega arith in
    let l2 : n + n < m = omega arith in
    ap (λ z. read_signed m (wrap m z)) (signed_low k n l) ∙ ap (read_signed m) (wrap_small m n lt) ∙ signed_low m n l2 ∙ sym (signed_low k n l))
    (λ l. let j : ℕ = k - suc n in
    let lt : k - suc n < m = omega arith in
    let l2 : m ≤ (m - suc (k - suc n)) + (m - suc (k - suc n)) = omega arith in
    let e : m - suc (m - suc (k - suc n)) ≡ k - suc n = omega arith in
    ap (λ z. read_signed m (wrap m z)) (signed_high k n l) ∙ ap (read_signed m) (wrap_negsuc m (k - suc n) lt) ∙ signed_high m (m - suc (k - suc n)) l2 ∙ ap negsuc e ∙ sym (signed_high k n l))

pub abs_below : (m n : ℕ) → n < m → unsigned_abs (read_signed m n) < m
abs_below m n h = halves m n
    (λ l. subst (λ z. unsigned_abs z < m) (sym (signed_low m n l)) h)
    (λ l. let lt : suc (m - suc n) < m = omega arith in
    subst (λ z. unsigned_abs z < m) (sym (signed_high m n l)) lt)

pub negated_is : (m x t : ℕ) → t + 1 ≡ m → x < m → x ≢ 0 → t - (x - 1) ≡ wrap m (neg_ℤ (pos x))
negated_is m zero t e h p = absurd (p refl)
negated_is m (suc n) t e h p =
    let lt : n < m = omega arith in
    let g : t - (suc n - 1) ≡ m - suc n = omega arith in
    g ∙ sym (wrap_negsuc m n lt)

-- division by sizes and signs
pub div_alike : (a b : ℤ) → below_zero a ≡ below_zero b → int_div a b ≡ pos (unsigned_abs a / unsigned_abs b)
div_alike (pos a) (pos b) e = refl
div_alike (pos a) (negsuc b) e = cc
div_alike (negsuc a) (pos b) e = cc
div_alike (negsuc a) (negsuc b) e = refl

pub div_unlike : (a b : ℤ) → below_zero a ≢ below_zero b → int_div a b ≡ neg_ℤ (pos (unsigned_abs a / unsigned_abs b))
div_unlike (pos a) (pos b) e = absurd (e refl)
div_unlike (pos a) (negsuc b) e = refl
div_unlike (negsuc a) (pos b) e = refl
div_unlike (negsuc a) (negsuc b) e = absurd (e refl)

pub rem_up : (a b : ℤ) → below_zero a ≡ false → int_rem a b ≡ pos (unsigned_abs a % unsigned_abs b)
rem_up (pos a) b e = refl
rem_up (negsuc a) b e = cc

pub rem_down : (a b : ℤ) → below_zero a ≡ true → int_rem a b ≡ neg_ℤ (pos (unsigned_abs a % unsigned_abs b))
rem_down (pos a) b e = cc
rem_down (negsuc a) b e = refl

pub sign_is : (m n : ℕ) (b : Bool) → nat_lt (n + n) m ≡ b → below_zero (read_signed m n) ≡ (if b then false else true)
sign_is m n true e = ap below_zero (signed_low m n (grind (arith, nat_tests)))
sign_is m n false e = ap below_zero (signed_high m n (grind (arith, nat_tests)))

pub at_zero_else : (y a b : ℕ) → y ≢ 0 → at_zero y a b ≡ b
at_zero_else zero a b h = absurd (h refl)
at_zero_else (suc n) a b h = refl

-- what the code does for a signed quotient
pub quotient_alike : (m x y a b : ℕ) (s : Bool) → x < m → y < m → y ≢ 0 → nat_lt (x + x) m ≡ s → nat_lt (y + y) m ≡ s → a ≡ unsigned_abs (read_signed m x) → b ≡ unsigned_abs (read_signed m y) → a / b ≡ at_zero y 0 (wrap m (int_div (read_signed m x) (read_signed m y)))
quotient_alike m x y a b s p q ne u v e f =
    let alike : below_zero (read_signed m x) ≡ below_zero (read_signed m y) = sign_is m x s u ∙ sym (sign_is m y s v) in
    let al : a < m = subst (λ k. k < m) (sym e) (abs_below m x p) in
    let le : a / b ≤ a = div-le_self a b in
    let lt : a / b < m = omega arith in
    sym (at_zero_else y 0 _ ne ∙ ap (wrap m) (div_alike (read_signed m x) (read_signed m y) alike) ∙ ap (λ k. wrap m (pos k)) (ap (λ k. k / unsigned_abs (read_signed m y)) (sym e) ∙ ap (λ k. a / k) (sym f)) ∙ wrap_small m (a / b) lt)

pub quotient_unlike : (m x y a b r : ℕ) (s t : Bool) → x < m → y < m → y ≢ 0 → nat_lt (x + x) m ≡ s → nat_lt (y + y) m ≡ t → s ≢ t → a ≡ unsigned_abs (read_signed m x) → b ≡ unsigned_abs (read_signed m y) → r ≡ wrap m (neg_ℤ (pos (a / b))) → r ≡ at_zero y 0 (wrap m (int_div (read_signed m x) (read_signed m y)))
quotient_unlike m x y a b r s t p q ne u v st e f g =
    let unlike : below_zero (read_signed m x) ≢ below_zero (read_signed m y) = λ h. st (same s t (sym (sign_is m x s u) ∙ h ∙ sign_is m y t v)) in
    sym (at_zero_else y 0 _ ne ∙ ap (wrap m) (div_unlike (read_signed m x) (read_signed m y) unlike) ∙ ap (λ k. wrap m (neg_ℤ (pos k))) (ap (λ k. k / unsigned_abs (read_signed m y)) (sym e) ∙ ap (λ k. a / k) (sym f)) ∙ sym g)
  where
    same : (s t : Bool) → (if s then false else true) ≡ (if t then false else true) → s ≡ t
    same true true h = refl
    same true false h = cc
    same false true h = cc
    same false false h = refl

pub remainder_up : (m x y a b : ℕ) → x < m → y ≢ 0 → nat_lt (x + x) m ≡ true → a ≡ unsigned_abs (read_signed m x) → b ≡ unsigned_abs (read_signed m y) → a % b ≡ at_zero y 0 (wrap m (int_rem (read_signed m x) (read_signed m y)))
remainder_up m x y a b p ne u e f =
    let al : a < m = subst (λ k. k < m) (sym e) (abs_below m x p) in
    let le : a % b ≤ a = mod-le a b in
    let lt : a % b < m = omega arith in
    sym (at_zero_else y 0 _ ne ∙ ap (wrap m) (rem_up (read_signed m x) (read_signed m y) (sign_is m x true u)) ∙ ap (λ k. wrap m (pos k)) (ap (λ k. k % unsigned_abs (read_signed m y)) (sym e) ∙ ap (λ k. a % k) (sym f)) ∙ wrap_small m (a % b) lt)

-- a mask after a longer one
pub mod_again : (n w : ℕ) → w ≤ 128 → n % 340282366920938463463374607431768211456 % 2 ^ w ≡ n % 2 ^ w
mod_again n w h =
    let e : 128 - w + w ≡ 128 = omega arith in
    ap (λ k. n % 2 ^ k % 2 ^ w) (sym e) ∙ mod-mod-pow n (128 - w) w

pub shl_out : (x y w : ℕ) → w ≤ y → 0 ≡ (x * 2 ^ y) % 2 ^ w
shl_out x y w h =
    let e : y ≡ (y - w) + w = omega arith in
    let f : x * 2 ^ y ≡ (x * 2 ^ (y - w)) * 2 ^ w = ap (λ k. x * 2 ^ k) e ∙ ap (λ k. x * k) (pow-add 2 (y - w) w) ∙ grind arith in
    sym (ap (λ k. k % 2 ^ w) f ∙ mul-mod_left (x * 2 ^ (y - w)) (2 ^ w))

pub pow_le : (i j : ℕ) → i ≤ j → 2 ^ i ≤ 2 ^ j
pow_le i j h = grind (arith, pow-le-pow_right)

pub shr_out : (x y w : ℕ) → x < 2 ^ w → w ≤ y → 0 ≡ (x / 2 ^ y) % 2 ^ w
shr_out x y w p h =
    let le = pow_le w y h in
    let lt : x < 2 ^ y = omega arith in
    let lt2 : 0 < 2 ^ w = pow_pos w in
    sym (ap (λ k. k % 2 ^ w) (div-eq_of_lt lt) ∙ mod-eq_of_lt lt2)

pub shr_low : (m x d : ℕ) → x < m → x / d ≡ (x / d) % m
shr_low m x d h = let le = div-le_self x d in let lt : x / d < m = omega arith in sym (mod-eq_of_lt lt)

-- a shift with the sign, by what stands opposite
pub shr_high : (m x t c d q : ℕ) → t + 1 ≡ m → x < m → c ≡ t - x → q ≡ (c / d) % m → m ≤ x + x → t - q ≡ wrap m (floor_div (read_signed m x) d)
shr_high m x t c d q e h f g l =
    let i : m - suc x ≡ c = omega arith in
    let lt : c < m = omega arith in
    let k = shr_low m c d lt in
    let le = div-le_self c d in
    let lt2 : c / d < m = omega arith in
    let j : t - q ≡ m - suc (c / d) = omega arith in
    j ∙ sym (ap (λ z. wrap m (floor_div z d)) (signed_high m x l ∙ ap negsuc i) ∙ wrap_negsuc m (c / d) lt2)

-- the number that stands opposite, cut
pub opposite : (m q x : ℕ) → 0 < m → x < q * m → m - suc ((q * m - suc x) % m) ≡ x % m
opposite m q x p h =
    let split = mod-add-div' x m in
    let lt = mod-lt x p in
    let dq : x / m < q = grind arith in
    let j : q ≡ (q - suc (x / m)) + suc (x / m) = omega arith in
    let k : q * m ≡ (q - suc (x / m)) * m + m + x / m * m = ap (λ i. i * m) j ∙ grind arith in
    let e : q * m - suc x ≡ (q - suc (x / m)) * m + (m - suc (x % m)) = omega arith in
    let b : m - suc (x % m) < m = omega arith in
    let f = mod-mul-add (q - suc (x / m)) m (m - suc (x % m)) b in
    let g : m - suc (m - suc (x % m)) ≡ x % m = omega arith in
    ap (λ k. m - suc (k % m)) e ∙ ap (λ k. m - suc k) f ∙ g

-- a signed word cut
pub cut_signed : (m q x : ℕ) → 0 < m → x < q * m → wrap m (read_signed (q * m) x) ≡ x % m
cut_signed m q x p h = halves (q * m) x
    (λ l. ap (wrap m) (signed_low (q * m) x l))
    (λ l. ap (wrap m) (signed_high (q * m) x l) ∙ opposite m q x p h)

pub extend_high : (m k x s t : ℕ) → s + 1 ≡ m → t + 1 ≡ k → k ≤ m → x < k → k ≤ x + x → s - (t - x) ≡ wrap m (read_signed k x)
extend_high m k x s t e f le h l =
    let lt : k - suc x < m = omega arith in
    let g : s - (t - x) ≡ m - suc (k - suc x) = omega arith in
    g ∙ sym (ap (wrap m) (signed_high k x l) ∙ wrap_negsuc m (k - suc x) lt)

pub cut_pow : (to w x : ℕ) → to ≤ w → x < 2 ^ w → x % 2 ^ to ≡ wrap (2 ^ to) (read_signed (2 ^ w) x)
cut_pow to w x h p =
    let e : w ≡ (w - to) + to = omega arith in
    let f : 2 ^ w ≡ 2 ^ (w - to) * 2 ^ to = ap (λ k. 2 ^ k) e ∙ pow-add 2 (w - to) to in
    let p2 : x < 2 ^ (w - to) * 2 ^ to = subst (λ k. x < k) f p in
    sym (ap (λ k. wrap (2 ^ to) (read_signed k x)) f ∙ cut_signed (2 ^ to) (2 ^ (w - to)) x (pow_pos to) p2)

pub below_half : (m n : ℕ) → nat_lt (n + n) m ≡ true → n + n < m
below_half m n e = grind (arith, nat_tests)

pub above_half : (m n : ℕ) → nat_lt (n + n) m ≡ false → m ≤ n + n
above_half m n e = grind (arith, nat_tests)

pub quotient_plain : (m x y : ℕ) → x < m → y ≢ 0 → x / y ≡ at_zero y 0 ((x / y) % m)
quotient_plain m x y h ne = shr_low m x y h ∙ sym (at_zero_else y 0 _ ne)

pub remainder_plain : (m x y : ℕ) → x < m → y ≢ 0 → x % y ≡ at_zero y 0 ((x % y) % m)
remainder_plain m x y h ne =
    let le = mod-le x y in
    let lt : x % y < m = omega arith in
    sym (at_zero_else y 0 _ ne ∙ mod-eq_of_lt lt)

twice : (m q n : ℕ) → 0 < m → n % (q * m) % m ≡ n % m
twice m q n p =
    let split = mod-add-div' n (q * m) in
    let e : n ≡ n % (q * m) + (n / (q * m) * q) * m = grind arith in
    sym (ap (λ k. k % m) e ∙ add-mul-mod_self_right (n % (q * m)) (n / (q * m) * q) m)

wrap_parts : (m q : ℕ) (z : ℤ) → 0 < m → 0 < q * m → wrap (q * m) z % m ≡ wrap m z
wrap_parts m q (pos n) p h = twice m q n p
wrap_parts m q (negsuc n) p h = turned m q n p h
  where
    turned : (m q n : ℕ) → 0 < m → 0 < q * m → (q * m - suc (n % (q * m))) % m ≡ m - suc (n % m)
    turned m q n p h =
        let lt : n % (q * m) < q * m = mod-lt n h in
        let low = mod-lt (q * m - suc (n % (q * m))) p in
        let o : m - suc ((q * m - suc (n % (q * m))) % m) ≡ n % (q * m) % m = opposite m q (n % (q * m)) p lt in
        let w : n % (q * m) % m ≡ n % m = twice m q n p in
        omega arith

-- a whole number modulo 2^n and then modulo 2^w
pub wrap_again : (w n : ℕ) (z : ℤ) → w ≤ n → wrap (2 ^ n) z % 2 ^ w ≡ wrap (2 ^ w) z
wrap_again w n z h =
    let e : n ≡ (n - w) + w = omega arith in
    let f : 2 ^ n ≡ 2 ^ (n - w) * 2 ^ w = ap (λ k. 2 ^ k) e ∙ pow-add 2 (n - w) w in
    let p : 0 < 2 ^ (n - w) * 2 ^ w = subst (λ k. 0 < k) f (pow_pos n) in
    ap (λ k. wrap k z % 2 ^ w) f ∙ wrap_parts (2 ^ w) (2 ^ (n - w)) z (pow_pos w) p
