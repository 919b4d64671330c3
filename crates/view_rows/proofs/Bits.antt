-- Bits of numbers some of whose bits are others.
use Rattle.std.proofs.Common.{◌≡◌, ℕ, zero, suc, ◌+◌, ◌-◌, ◌*◌, ◌/◌, ◌%◌, ◌^◌, ◌<◌, ◌≤◌, refl, sym, ap, ◌∙◌, arith}
use native.Mathlib.Nat.{div-div-eq-div-mul, pow-succ'}
use Rattle.std.proofs.lemmas.Nat.{div-mul-add, pow_pos}
use Rattle.std.proofs.Math.Nat.{mul-add-mod_self_right}
use Rattle.bits_core.specs.Word.{at_zero}
use Rattle.v_views.specs.Spots.{bit_of}
use Rattle.v_views.proofs.Bits.{bit_mod}
use Rattle.view_rows.specs.Parts.{upper, lower, mixed, changed}

-- a bit of what stands from a place on
pub bit_shift : (low k n : ℕ) → bit_of n (low + k) ≡ bit_of (n / 2 ^ low) k
bit_shift zero k n = let p : 0 + k ≡ k = omega arith in let q : n ≡ n / 2 ^ 0 = omega arith in ap (bit_of n) p ∙ ap (λ m. bit_of m k) q
bit_shift (suc low) k n =
    let e : suc low + k ≡ suc (low + k) = omega arith in
    ap (bit_of n) e ∙ bit_shift low k (n / 2) ∙ ap (λ m. bit_of m k) (halves n low)
  where
    halves : (n low : ℕ) → n / 2 / 2 ^ low ≡ n / 2 ^ suc low
    halves n low = div-div-eq-div-mul n 2 (2 ^ low) ∙ ap (λ m. n / m) (sym (pow-succ' 2 low))

-- two numbers side by side
pub right_bit : (n x y k : ℕ) → k < n → bit_of (x * 2 ^ n + y) k ≡ bit_of y k
right_bit n x y k lt = sym (bit_mod k n (x * 2 ^ n + y) lt) ∙ ap (λ m. bit_of m k) (mul-add-mod_self_right x (2 ^ n) y) ∙ bit_mod k n y lt

pub left_bit : (n x y k : ℕ) → y < 2 ^ n → bit_of (x * 2 ^ n + y) (n + k) ≡ bit_of x k
left_bit n x y k lt = bit_shift n k (x * 2 ^ n + y) ∙ ap (λ m. bit_of m k) (div-mul-add x (2 ^ n) y lt)

-- the bits of a number some of whose bits are others
below_part : (w high low a p k : ℕ) → k < low → bit_of (mixed w high low a p) k ≡ bit_of a k
below_part w high low a p k lt = right_bit low (upper w high (high - low + 1) a p) (a % 2 ^ low) k lt ∙ bit_mod k low a lt

from_part : (w high low a p k : ℕ) → bit_of (mixed w high low a p) (low + k) ≡ bit_of (upper w high (high - low + 1) a p) k
from_part w high low a p k = let pos = pow_pos low in left_bit low (upper w high (high - low + 1) a p) (a % 2 ^ low) k (omega (arith, pos))

in_part : (w high low a p k : ℕ) → k < high - low + 1 → bit_of (mixed w high low a p) (low + k) ≡ bit_of p k
in_part w high low a p k lt = from_part w high low a p k ∙ right_bit (high - low + 1) (a / 2 ^ (high + 1) % 2 ^ (w - 1 - high)) p k lt

above_part : (w high low a p k : ℕ) → low ≤ high → p < 2 ^ (high - low + 1) → k < w - 1 - high → bit_of (mixed w high low a p) (high + 1 + k) ≡ bit_of a (high + 1 + k)
above_part w high low a p k le small lt =
    let n = high - low + 1 in
    let there : high + 1 + k ≡ low + (n + k) = omega arith in
    ap (bit_of (mixed w high low a p)) there
    ∙ from_part w high low a p (n + k)
    ∙ left_bit n (a / 2 ^ (high + 1) % 2 ^ (w - 1 - high)) p k small
    ∙ bit_mod k (w - 1 - high) (a / 2 ^ (high + 1)) lt
    ∙ sym (bit_shift (high + 1) k a)

chosen_below : (w high low guard a m : ℕ) → m < 2 ^ (high - low + 1) → at_zero guard (a / 2 ^ low % 2 ^ (high - low + 1)) m < 2 ^ (high - low + 1)
chosen_below w high low zero a m lt = let pos = pow_pos (high - low + 1) in omega (arith, pos)
chosen_below w high low (suc guard) a m lt = lt

-- the bits of a number some of which were changed where a guard isn't 0
pub changed_below : (w high low guard a m k : ℕ) → k < low → bit_of (changed w high low guard a m) k ≡ bit_of a k
changed_below w high low guard a m k lt = below_part w high low a (at_zero guard (a / 2 ^ low % 2 ^ (high - low + 1)) m) k lt

pub changed_above : (w high low guard a m k : ℕ) → low ≤ high → m < 2 ^ (high - low + 1) → high < k → k < w → bit_of (changed w high low guard a m) k ≡ bit_of a k
changed_above w high low guard a m k le small past lt =
    let p = at_zero guard (a / 2 ^ low % 2 ^ (high - low + 1)) m in
    let e : k ≡ high + 1 + (k - high - 1) = omega arith in
    ap (bit_of (mixed w high low a p)) e ∙ above_part w high low a p (k - high - 1) le (chosen_below w high low guard a m small) (omega arith) ∙ sym (ap (bit_of a) e)

pub changed_in : (w high low guard a m k : ℕ) → low ≤ k → k ≤ high → bit_of (changed w high low guard a m) k ≡ at_zero guard (bit_of a k) (bit_of m (k - low))
changed_in w high low guard a m k from to =
    let e : k ≡ low + (k - low) = omega arith in
    ap (bit_of (changed w high low guard a m)) e ∙ in_part w high low a (at_zero guard (a / 2 ^ low % 2 ^ (high - low + 1)) m) (k - low) (omega arith) ∙ pick guard
  where
    pick : (guard : ℕ) → bit_of (at_zero guard (a / 2 ^ low % 2 ^ (high - low + 1)) m) (k - low) ≡ at_zero guard (bit_of a k) (bit_of m (k - low))
    pick zero = let e : k ≡ low + (k - low) = omega arith in bit_mod (k - low) (high - low + 1) (a / 2 ^ low) (omega arith) ∙ sym (bit_shift low (k - low) a) ∙ sym (ap (bit_of a) e)
    pick (suc guard) = refl
