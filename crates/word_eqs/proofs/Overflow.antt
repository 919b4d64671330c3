-- Signed arithmetic at a greater width gives the whole-number result, and a word fits a width where it
-- stands unchanged after it was cut and extended again.
use Rattle.std.proofs.Common.{◌≡◌, ℕ, zero, suc, ◌+◌, ◌-◌, ◌*◌, ◌%◌, ◌^◌, ◌<◌, ◌≤◌, sym, ap, ◌∙◌, subst, arith}
use Rattle.std.specs.Prelude.{ℤ, pos, negsuc, neg_ℤ, ◌+ℤ◌, ◌-ℤ◌, ◌*ℤ◌, ◌≤ℤ◌, ◌<ℤ◌}
use Rattle.std.proofs.lemmas.Int.{ints}
use Rattle.std.specs.Prelude.{true}
use Rattle.std.proofs.lemmas.Nat.{pow_pos, pow-add}
use Rattle.std.proofs.Math.Nat.{add-mul-mod_self_right}
use Rattle.bits_core.specs.declared.op.Op1.TheVariants.{Neg}
use Rattle.bits_core.specs.declared.op.Op2.TheVariants.{Add, Sub, Mul}
use Rattle.bits_core.specs.Word.{read_signed, wrap, number, resized}
use Rattle.bits_core.specs.Ops.{value1, value2}
use Rattle.bits_core.proofs.Signs.{wrap_is, sum_signed, product_signed}
use Rattle.bits_core.proofs.Laws.{wrap_below, pow_le, halves, signed_low, signed_high, wrap_small, wrap_negsuc, wrap_signed, extended_signed}

-- a whole number in the signed range of a modulus: from -m/2 to m/2 - 1
pub record IsSignedIn (m : ℕ) (z : ℤ) : Type 0 where
  pub low : neg_ℤ (pos m) ≤ℤ (z +ℤ z)
  pub high : (z +ℤ z) <ℤ pos m

pub signed_of_wrap : (m : ℕ) (z : ℤ) → IsSignedIn m z → read_signed m (wrap m z) ≡ z
signed_of_wrap m (pos n) h =
    let l = h.high in
    let lt : n + n < m = omega (arith, ints) in
    let lt' : n < m = omega arith in
    ap (read_signed m) (wrap_small m n lt') ∙ signed_low m n lt
signed_of_wrap m (negsuc n) h =
    let l = h.low in
    let le : suc n + suc n ≤ m = omega (arith, ints) in
    let lt : n < m = omega arith in
    let l : m ≤ (m - suc n) + (m - suc n) = omega arith in
    let e : m - suc (m - suc n) ≡ n = omega arith in
    ap (read_signed m) (wrap_negsuc m n lt) ∙ signed_high m (m - suc n) l ∙ ap negsuc e

pub signed_is : (m n : ℕ) → n < m → IsSignedIn m (read_signed m n)
signed_is m n h = halves m n
    (λ l. subst (IsSignedIn m) (sym (signed_low m n l)) (record { low = omega (arith, ints); high = omega (arith, ints) }))
    (λ l. let e : suc (m - suc n) + suc (m - suc n) ≤ m = omega arith in subst (IsSignedIn m) (sym (signed_high m n l)) (record { low = omega (arith, ints); high = omega (arith, ints) }))

-- sums, differences and opposites fit twice the modulus
pub sum_fits : (m : ℕ) (a b : ℤ) → IsSignedIn m a → IsSignedIn m b → IsSignedIn (2 * m) (a +ℤ b)
sum_fits m a b p q =
    let al = p.low in let ah = p.high in let bl = q.low in let bh = q.high in
    record { low = omega (arith, ints); high = omega (arith, ints) }

pub difference_fits : (m : ℕ) (a b : ℤ) → IsSignedIn m a → IsSignedIn m b → IsSignedIn (2 * m) (a -ℤ b)
difference_fits m a b p q =
    let al = p.low in let ah = p.high in let bl = q.low in let bh = q.high in
    record { low = omega (arith, ints); high = omega (arith, ints) }

pub opposite_fits : (m : ℕ) (a : ℤ) → 0 < m → IsSignedIn m a → IsSignedIn (2 * m) (neg_ℤ a)
opposite_fits m a h p =
    let al = p.low in let ah = p.high in
    record { low = omega (arith, ints); high = omega (arith, ints) }

-- a word at a greater width fits a lower one exactly where it stands after it was cut and extended

pub word_fits : (w to s : ℕ) → s < 2 ^ to → IsSignedIn (2 ^ w) (number true to s) → resized to true w (resized w true to s) ≡ s
word_fits w to s lt h = ap (wrap (2 ^ to)) (signed_of_wrap (2 ^ w) (read_signed (2 ^ to) s) h) ∙ wrap_signed (2 ^ to) s lt

pub fits_word : (w to s : ℕ) → w ≤ to → resized to true w (resized w true to s) ≡ s → IsSignedIn (2 ^ w) (number true to s)
fits_word w to s le e =
    let n : ℕ = wrap (2 ^ w) (read_signed (2 ^ to) s) in
    let lt : n < 2 ^ w = wrap_below (2 ^ w) (read_signed (2 ^ to) s) (pow_pos w) in
    let is : read_signed (2 ^ to) s ≡ read_signed (2 ^ w) n = ap (read_signed (2 ^ to)) (sym e) ∙ extended_signed (2 ^ w) (2 ^ to) n (pow_le w to le) lt in
    subst (IsSignedIn (2 ^ w)) (sym is) (signed_is (2 ^ w) n lt)

times_more : (a m : ℕ) → 0 < m → a ≤ a * m
times_more a zero h = absurd (omega arith)
times_more a (suc m) h = let e : a * suc m ≡ a * m + a = grind arith in omega arith

-- a whole number and one that is greater by the modulus are alike
pub wrap_turn : (m : ℕ) (z : ℤ) → 0 < m → wrap m (z +ℤ pos m) ≡ wrap m z
wrap_turn m (pos a) h =
    let e : pos a +ℤ pos m +ℤ pos (0 * m) ≡ pos (a + m) = omega (arith, ints) in
    let f : a + m ≡ a + 1 * m = omega arith in
    wrap_is m (a + m) 0 (pos a +ℤ pos m) h e ∙ ap (λ n. n % m) f ∙ add-mul-mod_self_right a 1 m
wrap_turn m (negsuc a) h =
    let k : suc a ≤ suc a * m = times_more (suc a) m h in
    let n : ℕ = suc a * m - suc a in
    let e : negsuc a +ℤ pos (suc a * m) ≡ pos n = omega (arith, ints) in
    let f : (negsuc a +ℤ pos m) +ℤ pos (suc a * m) ≡ pos (n + m) = omega (arith, ints) in
    let g : n + m ≡ n + 1 * m = omega arith in
    wrap_is m (n + m) (suc a) (negsuc a +ℤ pos m) h f ∙ ap (λ i. i % m) g ∙ add-mul-mod_self_right n 1 m ∙ sym (wrap_is m n (suc a) (negsuc a) h e)

high_is : (m x : ℕ) → x < m → negsuc (m - suc x) +ℤ pos m ≡ pos x
high_is m x h = omega (arith, ints)

-- a difference and an opposite don't depend on the sign that words are read with

pub difference_signed : (m x y : ℕ) → x < m → y < m → wrap m (read_signed m x -ℤ read_signed m y) ≡ wrap m (pos x -ℤ pos y)
difference_signed m x y p q =
    let h : 0 < m = omega arith in
    halves m x
    (λ l. halves m y
    (λ r. simp (signed_low m x l, signed_low m y r))
    (λ r. let e : pos x -ℤ negsuc (m - suc y) ≡ (pos x -ℤ pos y) +ℤ pos m = omega (arith, ints, high_is m y q) in
    simp (signed_low m x l, signed_high m y r) (ap (wrap m) e ∙ wrap_turn m (pos x -ℤ pos y) h)))
    (λ l. halves m y
    (λ r. let e : pos x -ℤ pos y ≡ (negsuc (m - suc x) -ℤ pos y) +ℤ pos m = omega (arith, ints, high_is m x p) in
    simp (signed_high m x l, signed_low m y r) (sym (ap (wrap m) e ∙ wrap_turn m (negsuc (m - suc x) -ℤ pos y) h)))
    (λ r. let e : negsuc (m - suc x) -ℤ negsuc (m - suc y) ≡ pos x -ℤ pos y = omega (arith, ints, high_is m x p, high_is m y q) in
    simp (signed_high m x l, signed_high m y r) (ap (wrap m) e)))

pub opposite_signed : (m x : ℕ) → x < m → wrap m (neg_ℤ (read_signed m x)) ≡ wrap m (neg_ℤ (pos x))
opposite_signed m x p =
    let h : 0 < m = omega arith in
    halves m x
    (λ l. ap (λ z. wrap m (neg_ℤ z)) (signed_low m x l))
    (λ l. let e : neg_ℤ (negsuc (m - suc x)) ≡ neg_ℤ (pos x) +ℤ pos m = omega (arith, ints, high_is m x p) in
    ap (λ z. wrap m (neg_ℤ z)) (signed_high m x l) ∙ ap (wrap m) e ∙ wrap_turn m (neg_ℤ (pos x)) h)

-- at a width of one bit more, sums, differences and opposites are those of the signed numbers

twice_pow : (w : ℕ) → 2 ^ (w + 1) ≡ 2 * 2 ^ w
twice_pow w = pow-add 2 w 1 ∙ omega arith

wide_read : (w to x : ℕ) → w ≤ to → x < 2 ^ w → read_signed (2 ^ to) (resized to true w x) ≡ number true w x
wide_read w to x le h = extended_signed (2 ^ w) (2 ^ to) x (pow_le w to le) h

pub wide_sum : (w x y : ℕ) → x < 2 ^ w → y < 2 ^ w → number true (w + 1) (value2 Add (w + 1) (resized (w + 1) true w x) (resized (w + 1) true w y)) ≡ number true w x +ℤ number true w y
wide_sum w x y p q =
    let le : w ≤ w + 1 = omega arith in
    let a : ℤ = number true w x in
    let b : ℤ = number true w y in
    let i = wrap_below (2 ^ (w + 1)) a (pow_pos (w + 1)) in
    let j = wrap_below (2 ^ (w + 1)) b (pow_pos (w + 1)) in
    let fits : IsSignedIn (2 ^ (w + 1)) (a +ℤ b) = subst (λ m. IsSignedIn m (a +ℤ b)) (sym (twice_pow w)) (sum_fits (2 ^ w) a b (signed_is (2 ^ w) x p) (signed_is (2 ^ w) y q)) in
    let is : (resized (w + 1) true w x + resized (w + 1) true w y) % 2 ^ (w + 1) ≡ wrap (2 ^ (w + 1)) (a +ℤ b) =
    sym (sum_signed (2 ^ (w + 1)) (resized (w + 1) true w x) (resized (w + 1) true w y) i j)
    ∙ ap (λ z. wrap (2 ^ (w + 1)) (z +ℤ read_signed (2 ^ (w + 1)) (resized (w + 1) true w y))) (wide_read w (w + 1) x le p)
    ∙ ap (λ z. wrap (2 ^ (w + 1)) (a +ℤ z)) (wide_read w (w + 1) y le q) in
    ap (read_signed (2 ^ (w + 1))) is ∙ signed_of_wrap (2 ^ (w + 1)) (a +ℤ b) fits

pub wide_difference : (w x y : ℕ) → x < 2 ^ w → y < 2 ^ w → number true (w + 1) (value2 Sub (w + 1) (resized (w + 1) true w x) (resized (w + 1) true w y)) ≡ number true w x -ℤ number true w y
wide_difference w x y p q =
    let le : w ≤ w + 1 = omega arith in
    let a : ℤ = number true w x in
    let b : ℤ = number true w y in
    let i = wrap_below (2 ^ (w + 1)) a (pow_pos (w + 1)) in
    let j = wrap_below (2 ^ (w + 1)) b (pow_pos (w + 1)) in
    let fits : IsSignedIn (2 ^ (w + 1)) (a -ℤ b) = subst (λ m. IsSignedIn m (a -ℤ b)) (sym (twice_pow w)) (difference_fits (2 ^ w) a b (signed_is (2 ^ w) x p) (signed_is (2 ^ w) y q)) in
    let is : wrap (2 ^ (w + 1)) (pos (resized (w + 1) true w x) -ℤ pos (resized (w + 1) true w y)) ≡ wrap (2 ^ (w + 1)) (a -ℤ b) =
    sym (difference_signed (2 ^ (w + 1)) (resized (w + 1) true w x) (resized (w + 1) true w y) i j)
    ∙ ap (λ z. wrap (2 ^ (w + 1)) (z -ℤ read_signed (2 ^ (w + 1)) (resized (w + 1) true w y))) (wide_read w (w + 1) x le p)
    ∙ ap (λ z. wrap (2 ^ (w + 1)) (a -ℤ z)) (wide_read w (w + 1) y le q) in
    ap (read_signed (2 ^ (w + 1))) is ∙ signed_of_wrap (2 ^ (w + 1)) (a -ℤ b) fits

pub wide_opposite : (w x : ℕ) → x < 2 ^ w → number true (w + 1) (value1 Neg (w + 1) (resized (w + 1) true w x)) ≡ neg_ℤ (number true w x)
wide_opposite w x p =
    let le : w ≤ w + 1 = omega arith in
    let a : ℤ = number true w x in
    let i = wrap_below (2 ^ (w + 1)) a (pow_pos (w + 1)) in
    let fits : IsSignedIn (2 ^ (w + 1)) (neg_ℤ a) = subst (λ m. IsSignedIn m (neg_ℤ a)) (sym (twice_pow w)) (opposite_fits (2 ^ w) a (pow_pos w) (signed_is (2 ^ w) x p)) in
    let is : wrap (2 ^ (w + 1)) (neg_ℤ (pos (resized (w + 1) true w x))) ≡ wrap (2 ^ (w + 1)) (neg_ℤ a) =
    sym (opposite_signed (2 ^ (w + 1)) (resized (w + 1) true w x) i)
    ∙ ap (λ z. wrap (2 ^ (w + 1)) (neg_ℤ z)) (wide_read w (w + 1) x le p) in
    ap (read_signed (2 ^ (w + 1))) is ∙ signed_of_wrap (2 ^ (w + 1)) (neg_ℤ a) fits

-- at twice the width, products are those of the signed numbers

square : (m x y : ℕ) → x ≤ m → y ≤ m → m * m ≡ (x + (m - x)) * (y + (m - y))
square m x y p q =
    let e : m ≡ x + (m - x) = omega arith in
    let f : m ≡ y + (m - y) = omega arith in
    ap (λ n. n * m) e ∙ ap (λ n. (x + (m - x)) * n) f

below_square : (a b i j : ℕ) → (a * b) + (a * b) < ((a + a + 1) + i) * ((b + b + 1) + j)
below_square a b i j = omega arith

within_square : (a b i j : ℕ) → (a * b) + (a * b) ≤ ((a + a) + i) * ((b + b) + j)
within_square a b i j = omega arith

less_square : (a b i j : ℕ) → (suc a * suc b) + (suc a * suc b) < ((suc a + suc a) + i) * ((suc b + suc b) + j)
less_square a b i j = omega arith

products_below : (m a b : ℕ) → a + a < m → b + b < m → (a * b) + (a * b) < m * m
products_below m a b p q = subst (λ n. (a * b) + (a * b) < n) (sym (square m (a + a + 1) (b + b + 1) (omega arith) (omega arith))) (below_square a b (m - (a + a + 1)) (m - (b + b + 1)))

products_within : (m a b : ℕ) → a + a ≤ m → b + b ≤ m → (a * b) + (a * b) ≤ m * m
products_within m a b p q = subst (λ n. (a * b) + (a * b) ≤ n) (sym (square m (a + a) (b + b) p q)) (within_square a b (m - (a + a)) (m - (b + b)))

pos_fits : (m k : ℕ) → k + k < m → IsSignedIn m (pos k)
pos_fits m k h = record { low = omega (arith, ints); high = omega (arith, ints) }

neg_fits : (m k : ℕ) → 0 < m → k + k ≤ m → IsSignedIn m (neg_ℤ (pos k))
neg_fits m k h l = record { low = omega (arith, ints); high = omega (arith, ints) }

square_some : (m : ℕ) → 0 < m → 0 < m * m
square_some m h = let t = times_more m m h in omega arith

pub product_fits : (m : ℕ) (a b : ℤ) → 0 < m → IsSignedIn m a → IsSignedIn m b → IsSignedIn (m * m) (a *ℤ b)
product_fits m (pos a) (pos b) h p q =
    let c = p.high in
    let d = q.high in
    pos_fits (m * m) (a * b) (products_below m a b (omega (arith, ints)) (omega (arith, ints)))
product_fits m (pos a) (negsuc b) h p q =
    let c = p.high in
    let d = q.low in
    neg_fits (m * m) (a * suc b) (square_some m h) (products_within m a (suc b) (omega (arith, ints)) (omega (arith, ints)))
product_fits m (negsuc a) (pos b) h p q =
    let c = p.low in
    let d = q.high in
    neg_fits (m * m) (suc a * b) (square_some m h) (products_within m (suc a) b (omega (arith, ints)) (omega (arith, ints)))
product_fits m (negsuc a) (negsuc b) h p q =
    let c = p.low in
    let d = q.low in
    let i : suc a + suc a ≤ m = omega (arith, ints) in
    let j : suc b + suc b ≤ m = omega (arith, ints) in
    pos_fits (m * m) (suc a * suc b) (subst (λ n. (suc a * suc b) + (suc a * suc b) < n) (sym (square m (suc a + suc a) (suc b + suc b) i j)) (less_square a b (m - (suc a + suc a)) (m - (suc b + suc b))))

pub wide_product : (w x y : ℕ) → x < 2 ^ w → y < 2 ^ w → number true (w + w) (value2 Mul (w + w) (resized (w + w) true w x) (resized (w + w) true w y)) ≡ number true w x *ℤ number true w y
wide_product w x y p q =
    let le : w ≤ w + w = omega arith in
    let a : ℤ = number true w x in
    let b : ℤ = number true w y in
    let i = wrap_below (2 ^ (w + w)) a (pow_pos (w + w)) in
    let j = wrap_below (2 ^ (w + w)) b (pow_pos (w + w)) in
    let fits : IsSignedIn (2 ^ (w + w)) (a *ℤ b) = subst (λ m. IsSignedIn m (a *ℤ b)) (sym (pow-add 2 w w)) (product_fits (2 ^ w) a b (pow_pos w) (signed_is (2 ^ w) x p) (signed_is (2 ^ w) y q)) in
    let is : (resized (w + w) true w x * resized (w + w) true w y) % 2 ^ (w + w) ≡ wrap (2 ^ (w + w)) (a *ℤ b) =
    sym (product_signed (2 ^ (w + w)) (resized (w + w) true w x) (resized (w + w) true w y) i j)
    ∙ ap (λ z. wrap (2 ^ (w + w)) (z *ℤ read_signed (2 ^ (w + w)) (resized (w + w) true w y))) (wide_read w (w + w) x le p)
    ∙ ap (λ z. wrap (2 ^ (w + w)) (a *ℤ z)) (wide_read w (w + w) y le q) in
    ap (read_signed (2 ^ (w + w))) is ∙ signed_of_wrap (2 ^ (w + w)) (a *ℤ b) fits
