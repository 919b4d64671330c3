-- A sum, a difference and a product modulo 2^w are those of the numbers read with a sign too.
use Rattle.std.proofs.Common.{◌≡◌, ℕ, suc, ◌+◌, ◌-◌, ◌*◌, ◌/◌, ◌%◌, ◌<◌, sym, ap, ◌∙◌, arith}
use Rattle.std.specs.Prelude.{ℤ, pos, negsuc, ◌+ℤ◌, ◌*ℤ◌}
use Rattle.std.proofs.Math.Nat.{mod-eq_of_lt, mod-lt, mod-add-div', add-mul-mod_self_right}
use Rattle.std.proofs.lemmas.Nat.{div_below}
use Rattle.std.proofs.lemmas.Int.{ints}
use Rattle.bits_core.specs.Word.{wrap, read_signed}
use Rattle.bits_core.proofs.Laws.{halves, signed_low, signed_high}

-- z and n differ by a multiple of m
pub wrap_is : (m n k : ℕ) (z : ℤ) → 0 < m → z +ℤ pos (k * m) ≡ pos n → wrap m z ≡ n % m
wrap_is m n k (pos a) h e =
    let f : n ≡ a + k * m = omega (arith, ints) in
    sym (ap (λ i. i % m) f ∙ add-mul-mod_self_right a k m)
wrap_is m n k (negsuc a) h e =
    let f : n + suc a ≡ k * m = omega (arith, ints) in
    let split = mod-add-div' a m in
    let lt = mod-lt a h in
    let g : n + (suc (a % m) + a / m * m) ≡ k * m = omega arith in
    let lt2 : a < k * m = omega arith in
    let below : a / m < k = div_below a m k h lt2 in
    let i : k ≡ (k - suc (a / m)) + suc (a / m) = omega arith in
    let j : k * m ≡ (k - suc (a / m)) * m + m + a / m * m = ap (λ q. q * m) i ∙ grind arith in
    let l : n ≡ (m - suc (a % m)) + (k - suc (a / m)) * m = omega arith in
    let b : m - suc (a % m) < m = omega arith in
    sym (ap (λ q. q % m) l ∙ add-mul-mod_self_right (m - suc (a % m)) (k - suc (a / m)) m ∙ mod-eq_of_lt b)

pub sum_signed : (m x y : ℕ) → x < m → y < m → wrap m (read_signed m x +ℤ read_signed m y) ≡ (x + y) % m
sum_signed m x y p q =
    let h : 0 < m = omega arith in
    halves m x
    (λ l. halves m y
    (λ r. wrap_is m (x + y) 0 _ h (simp (signed_low m x l, signed_low m y r) (omega (arith, ints))))
    (λ r. wrap_is m (x + y) 1 _ h (simp (signed_low m x l, signed_high m y r) (omega (arith, ints)))))
    (λ l. halves m y
    (λ r. wrap_is m (x + y) 1 _ h (simp (signed_high m x l, signed_low m y r) (omega (arith, ints))))
    (λ r. wrap_is m (x + y) 2 _ h (simp (signed_high m x l, signed_high m y r) (omega (arith, ints)))))

low_high : (m x y j : ℕ) → suc j + y ≡ m → pos x *ℤ negsuc j +ℤ pos (x * m) ≡ pos (x * y)
low_high m x y j e = let f : x * (suc j + y) ≡ x * m = ap (λ k. x * k) e in omega (arith, ints, f)

high_low : (m x y j : ℕ) → suc j + x ≡ m → negsuc j *ℤ pos y +ℤ pos (y * m) ≡ pos (x * y)
high_low m x y j e = let f : (suc j + x) * y ≡ m * y = ap (λ k. k * y) e in omega (arith, ints, f)

high_high : (m x y i j : ℕ) → suc i + x ≡ m → suc j + y ≡ m → negsuc i *ℤ negsuc j +ℤ pos ((x + y) * m) ≡ pos (x * y + m * m)
high_high m x y i j e f =
    let g : (suc i + x) * (suc j + y) ≡ m * m = ap (λ k. k * (suc j + y)) e ∙ ap (λ k. m * k) f in
    let a : x * (suc j + y) ≡ x * m = ap (λ k. x * k) f in
    let b : (suc i + x) * y ≡ m * y = ap (λ k. k * y) e in
    omega (arith, ints, g, a, b)

pub product_signed : (m x y : ℕ) → x < m → y < m → wrap m (read_signed m x *ℤ read_signed m y) ≡ (x * y) % m
product_signed m x y p q =
    let h : 0 < m = omega arith in
    let i : suc (m - suc x) + x ≡ m = omega arith in
    let j : suc (m - suc y) + y ≡ m = omega arith in
    halves m x
    (λ l. halves m y
    (λ r. wrap_is m (x * y) 0 _ h (simp (signed_low m x l, signed_low m y r) (omega (arith, ints))))
    (λ r. wrap_is m (x * y) x _ h (simp (signed_low m x l, signed_high m y r) (low_high m x y (m - suc y) j))))
    (λ l. halves m y
    (λ r. wrap_is m (x * y) y _ h (simp (signed_high m x l, signed_low m y r) (high_low m x y (m - suc x) i)))
    (λ r. wrap_is m (x * y + m * m) (x + y) _ h (simp (signed_high m x l, signed_high m y r) (high_high m x y (m - suc x) (m - suc y) i j)) ∙ add-mul-mod_self_right (x * y) m m))
