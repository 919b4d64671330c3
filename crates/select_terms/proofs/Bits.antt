-- The bits that are read, and those of the terms.
use Rattle.std.proofs.Common.{◌≡◌, ℕ, zero, suc, ◌+◌, ◌-◌, ◌*◌, ◌/◌, ◌%◌, ◌^◌, ◌<◌, ◌≤◌, Bool, true, false, refl, sym, ap, ◌∙◌, subst, arith}
use Rattle.std.specs.Prelude.{ℤ, pos, negsuc, ◌+ℤ◌, if◌then◌else◌, nat_lt, bit_and, bit_or, max, min}
use Rattle.std.specs.Int.{bit_at}
use Rattle.std.proofs.lemmas.Bool.Decides.{nat_tests}
use Rattle.std.proofs.lemmas.Int.{ints}
use Rattle.std.proofs.lemmas.Nat.{pow_pos, shr-shr, or_lt, and_le_l, mul-add-lt}
use Rattle.std.proofs.lemmas.Nat.Bits.{bit_at_lowest, bit_at-suc, bit_at-zero, bit_at_and, bit_at_or, bit_at-lt, same_from_bits_below, bit_at_above, bit_at_ones, bit_at_ones_above, bit_at_cat_low, bit_at_cat_high}
use Rattle.std.proofs.Math.Nat.{mod-eq_of_lt, mod-lt, mod-add-div', pow-suc}
use Rattle.select_terms.specs.Shifted.{mixed}
use Rattle.flat_tree.specs.Selects.{bit_read, bits_read}
use Rattle.select_terms.proofs.Places.{IsPlace}

-- a number and what stands opposite have opposite bits
complement : (k n i : ℕ) → n < 2 ^ k → i < k → bit_at (2 ^ k - 1 - n) i ≡ 1 - bit_at n i
complement zero n i fits within = absurd (omega arith)
complement (suc k) n zero fits within = omega (arith, bit_at_lowest (2 ^ suc k - 1 - n), bit_at_lowest n, pow-suc 2 k)
complement (suc k) n (suc i) fits within =
    let half : (2 ^ suc k - 1 - n) / 2 ≡ 2 ^ k - 1 - n / 2 = omega (arith, pow-suc 2 k) in
    bit_at-suc _ i ∙ ap (λ x. bit_at x i) half ∙ complement k (n / 2) i (omega (arith, pow-suc 2 k)) (omega arith) ∙ ap (λ d. 1 - d) (sym (bit_at-suc n i))

-- the bits of the low part of a number that was shifted
low_bit : (x n k : ℕ) → k < n → bit_at (x % 2 ^ n) k ≡ bit_at x k
low_bit x n k lt =
    let e : x / 2 ^ n * 2 ^ n + x % 2 ^ n ≡ x = let s = mod-add-div' x (2 ^ n) in omega arith in
    sym (bit_at_cat_low (x / 2 ^ n) n (x % 2 ^ n) k lt) ∙ ap (λ y. bit_at y k) e

shifted_bit : (x e n k : ℕ) → k < n → bit_at (x / 2 ^ e % 2 ^ n) k ≡ bit_at x (e + k)
shifted_bit x e n k lt = low_bit (x / 2 ^ e) n k lt ∙ ap (λ y. y % 2) (shr-shr x e k)

-- a number with n zeros to its right
zeros_below : (a n j : ℕ) → j < n → bit_at (a * 2 ^ n) j ≡ 0
zeros_below a n j lt = let e : a * 2 ^ n ≡ a * 2 ^ n + 0 = omega arith in ap (λ x. bit_at x j) e ∙ bit_at_cat_low a n 0 j lt ∙ bit_at-zero j

moved_above : (a n j : ℕ) → n ≤ j → bit_at (a * 2 ^ n) j ≡ bit_at a (j - n)
moved_above a n j le = let e : a * 2 ^ n ≡ a * 2 ^ n + 0 = omega arith in ap (λ x. bit_at x j) e ∙ bit_at_cat_high a n 0 j (pow_pos n) le

-- bits of a number that is made of bits
bit_small : (w a site k : ℕ) (p : ℤ) → bit_read w a site k p < 2
bit_small w a site k (negsuc p) = bit_at-lt site k
bit_small w a site k (pos p) = on (nat_lt p w)
  where
    on : (b : Bool) → (if b then bit_at a p else bit_at site k) < 2
    on true = bit_at-lt a p
    on false = bit_at-lt site k

pub bits_below : (n w a site : ℕ) (first : ℤ) → bits_read n w a site first < 2 ^ n
bits_below zero w a site first = omega arith
bits_below (suc n) w a site first =
    let h = bits_below n w a site first in
    let b = bit_small w a site n (first +ℤ pos n) in
    let e = pow-suc 2 n in
    let l = mul-add-lt (bit_read w a site n (first +ℤ pos n)) (2 ^ n) (bits_read n w a site first) 2 b h in
    omega arith

bits_at : (n w a site : ℕ) (first : ℤ) (k : ℕ) → k < n → bit_at (bits_read n w a site first) k ≡ bit_read w a site k (first +ℤ pos k)
bits_at zero w a site first k lt = absurd (omega arith)
bits_at (suc n) w a site first k lt = on (n - k) refl (λ l. bits_at n w a site first k l)
  where
    top : ℕ
    top = bit_read w a site n (first +ℤ pos n)

    turn : bits_read (suc n) w a site first ≡ top * 2 ^ n + bits_read n w a site first
    turn = omega arith

    on : (d : ℕ) → n - k ≡ d → (k < n → bit_at (bits_read n w a site first) k ≡ bit_read w a site k (first +ℤ pos k)) → bit_at (bits_read (suc n) w a site first) k ≡ bit_read w a site k (first +ℤ pos k)
    on (suc d) e again = let l : k < n = omega arith in ap (λ x. bit_at x k) turn ∙ bit_at_cat_low top n (bits_read n w a site first) k l ∙ again l
    on zero e again =
        let same : n ≡ k = omega arith in
        let b = bit_small w a site n (first +ℤ pos n) in
        let f : n - n ≡ 0 = omega arith in
        subst (λ k. bit_at (bits_read (suc n) w a site first) k ≡ bit_read w a site k (first +ℤ pos k)) same
        (ap (λ x. bit_at x n) turn ∙ bit_at_cat_high top n (bits_read n w a site first) n (bits_below n w a site first) (omega arith) ∙ ap (bit_at top) f ∙ bit_at_lowest top ∙ mod-eq_of_lt b)

-- bit k of what the terms give
mixed_bit : (n r m site k : ℕ) → m < 2 ^ n → k < n → bit_at (bit_or r (bit_and site (2 ^ n - 1 - m))) k ≡ max (bit_at r k) (min (bit_at site k) (1 - bit_at m k))
mixed_bit n r m site k lt l = bit_at_or r (bit_and site (2 ^ n - 1 - m)) k ∙ ap (max (bit_at r k)) (bit_at_and site (2 ^ n - 1 - m) k ∙ ap (min (bit_at site k)) (complement n m k lt l))

outside : (n r m site k : ℕ) → m < 2 ^ n → k < n → bit_at r k ≡ 0 → bit_at m k ≡ 0 → bit_at (bit_or r (bit_and site (2 ^ n - 1 - m))) k ≡ bit_at site k
outside n r m site k lt l a b = let e = mixed_bit n r m site k lt l in let s = bit_at-lt site k in omega arith

inside : (n r m site k : ℕ) → m < 2 ^ n → k < n → bit_at m k ≡ 1 → bit_at (bit_or r (bit_and site (2 ^ n - 1 - m))) k ≡ bit_at r k
inside n r m site k lt l b = let e = mixed_bit n r m site k lt l in let s = bit_at-lt site k in omega arith

read_in : (w a site k p : ℕ) → p < w → bit_read w a site k (pos p) ≡ bit_at a p
read_in w a site k p lt = grind (arith, nat_tests)

read_above : (w a site k p : ℕ) → w ≤ p → bit_read w a site k (pos p) ≡ bit_at site k
read_above w a site k p le = grind (arith, nat_tests)

below_place : (n w a site e k : ℕ) → k < n → e + k < n → bit_at (mixed n w a site e) k ≡ bit_at site k
below_place n w a site e k l lt = outside n _ _ site k (mod-lt _ (pow_pos n)) l (shifted_bit (a * 2 ^ n) e n k l ∙ zeros_below a n (e + k) lt) (shifted_bit ((2 ^ w - 1) * 2 ^ n) e n k l ∙ zeros_below (2 ^ w - 1) n (e + k) lt)

above_place : (n w a site e k : ℕ) → k < n → a < 2 ^ w → w + n ≤ e + k → bit_at (mixed n w a site e) k ≡ bit_at site k
above_place n w a site e k l aw le =
    let p : n ≤ e + k = omega arith in
    let q : w ≤ e + k - n = omega arith in
    outside n _ _ site k (mod-lt _ (pow_pos n)) l (shifted_bit (a * 2 ^ n) e n k l ∙ moved_above a n (e + k) p ∙ bit_at_above a w (e + k - n) aw q)
    (shifted_bit ((2 ^ w - 1) * 2 ^ n) e n k l ∙ moved_above (2 ^ w - 1) n (e + k) p ∙ bit_at_ones_above w (e + k - n) q)

in_place : (n w a site e k : ℕ) → k < n → n ≤ e + k → e + k < w + n → bit_at (mixed n w a site e) k ≡ bit_at a (e + k - n)
in_place n w a site e k l p q =
    let lt : e + k - n < w = omega arith in
    inside n _ _ site k (mod-lt _ (pow_pos n)) l (shifted_bit ((2 ^ w - 1) * 2 ^ n) e n k l ∙ moved_above (2 ^ w - 1) n (e + k) p ∙ bit_at_ones w (e + k - n) lt) ∙ shifted_bit (a * 2 ^ n) e n k l ∙ moved_above a n (e + k) p

split : {P : Type 0} (a b : ℕ) → (a ≤ b → P) → (b < a → P) → P
split {P = P} a b f g = on (a - b) refl
  where
    on : (d : ℕ) → a - b ≡ d → P
    on zero e = f (omega arith)
    on (suc d) e = g (omega arith)

-- each bit is the one that is read
mixed_at : (n w a site e : ℕ) (first : ℤ) (k : ℕ) → k < n → a < 2 ^ w → IsPlace (w + n) (first +ℤ pos n) e → bit_at (mixed n w a site e) k ≡ bit_read w a site k (first +ℤ pos k)
mixed_at n w a site e first k l aw place = on (first +ℤ pos n) refl place
  where
    to : (z : ℤ) → first +ℤ pos k ≡ z → bit_at (mixed n w a site e) k ≡ bit_read w a site k z → bit_at (mixed n w a site e) k ≡ bit_read w a site k (first +ℤ pos k)
    to z i h = subst (λ z. bit_at (mixed n w a site e) k ≡ bit_read w a site k z) (sym i) h

    on : (z : ℤ) → first +ℤ pos n ≡ z → IsPlace (w + n) z e → bit_at (mixed n w a site e) k ≡ bit_read w a site k (first +ℤ pos k)
    on (pos p) i j = split n (e + k)
        (λ le.
        let z : first +ℤ pos k ≡ pos (e + k - n) = omega (arith, ints) in
        split (w + n) (e + k)
        (λ above. to (pos (e + k - n)) z (above_place n w a site e k l aw above ∙ sym (read_above w a site k (e + k - n) (omega arith))))
        (λ lt. to (pos (e + k - n)) z (in_place n w a site e k l le lt ∙ sym (read_in w a site k (e + k - n) (omega arith)))))
        (λ lt.
        let z : first +ℤ pos k ≡ negsuc (n - (e + k) - 1) = omega (arith, ints) in
        to (negsuc (n - (e + k) - 1)) z (below_place n w a site e k l lt))
    on (negsuc p) i j =
        let z : first +ℤ pos k ≡ negsuc (p + (n - k)) = omega (arith, ints) in
        let le : w + n ≤ e + k = omega arith in
        to (negsuc (p + (n - k))) z (above_place n w a site e k l aw le)

mixed_below : (n w a site e : ℕ) → site < 2 ^ n → mixed n w a site e < 2 ^ n
mixed_below n w a site e lt =
    let le = and_le_l site (2 ^ n - 1 - (2 ^ w - 1) * 2 ^ n / 2 ^ e % 2 ^ n) in
    or_lt n _ _ (mod-lt (a * 2 ^ n / 2 ^ e) (pow_pos n)) (omega arith)

-- so the number is what is read
pub mixed_is : (n w a site e : ℕ) (first : ℤ) → a < 2 ^ w → site < 2 ^ n → IsPlace (w + n) (first +ℤ pos n) e → mixed n w a site e ≡ bits_read n w a site first
mixed_is n w a site e first aw sn place =
    same_from_bits_below n _ _ (mixed_below n w a site e sn) (bits_below n w a site first) (λ k l. mixed_at n w a site e first k l aw place ∙ sym (bits_at n w a site first k l))

-- where even the highest bit stands below the signal all bits are the site's
pub all_out : (n w a site p : ℕ) (first : ℤ) → site < 2 ^ n → first +ℤ pos n ≡ negsuc p → bits_read n w a site first ≡ site
all_out n w a site p first lt i = same_from_bits_below n _ _ (bits_below n w a site first) lt (λ k l. bits_at n w a site first k l ∙ ap (bit_read w a site k) (z k l))
  where
    z : (k : ℕ) → k < n → first +ℤ pos k ≡ negsuc (p + (n - k))
    z k l = omega (arith, ints)

-- where even the lowest bit stands above the signal all bits are the site's
pub all_above : (n w a site p : ℕ) (first : ℤ) → site < 2 ^ n → first ≡ pos p → w ≤ p → bits_read n w a site first ≡ site
all_above n w a site p first lt i le = same_from_bits_below n _ _ (bits_below n w a site first) lt (λ k l. bits_at n w a site first k l ∙ ap (bit_read w a site k) (z k) ∙ read_above w a site k (p + k) (omega arith))
  where
    z : (k : ℕ) → first +ℤ pos k ≡ pos (p + k)
    z k = omega (arith, ints)
