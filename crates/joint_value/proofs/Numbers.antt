-- Which numbers are in the range of a type.
use Rattle.std.proofs.Common.{◌≡◌, ℕ, zero, suc, ◌+◌, ◌-◌, ◌/◌, ◌%◌, ◌^◌, ◌<◌, ◌≤◌, Bool, true, false, List, [], ◌∷◌, refl, ap, arith}
use Rattle.std.specs.Prelude.{ℤ, pos, negsuc, neg_ℤ, int_rem, unsigned_abs, All, slice_index_or, bit_and, bit_or, bit_xor}
use Rattle.std.proofs.Math.Nat.{pow-suc, mod-le, div-le_self}
use Rattle.std.proofs.lemmas.Nat.{pow_pos, and_le_l, or_lt, xor_lt}
use Rattle.std.proofs.lemmas.Int.{ints}
use Rattle.bits_core.specs.Word.{number, modulo, floor_div, read_signed}
use Rattle.bits_core.proofs.Laws.{halves, signed_low, signed_high}
use Rattle.bits_core.proofs.Bounds.{modulo_below}
use Rattle.joint_ir.specs.declared.ctype.IntType.{IntType}
use Rattle.joint_ir.specs.Types.{int, InRange, IsType, Truth, Byte, Half, Single, Double, truth_of, converted}
use Rattle.joint_ir.specs.Values.{bit_of, bitwise, shifted_right}
use Rattle.joint_value.specs.Answers.{HasWidth, IsSmall}

pub width_of : (t : IntType) → IsType t → HasWidth t
width_of _ Truth = record { some = omega arith; few = omega arith }
width_of _ (Byte s) = record { some = omega arith; few = omega arith }
width_of _ (Half s) = record { some = omega arith; few = omega arith }
width_of _ (Single s) = record { some = omega arith; few = omega arith }
width_of _ (Double s) = record { some = omega arith; few = omega arith }

pub small_of : (t : IntType) (n : ℤ) → IsType t → InRange t n → IsSmall n
small_of _ n Truth h = record { low = omega (arith, ints); high = omega (arith, ints) }
small_of _ n (Byte true) h = record { low = omega (arith, ints); high = omega (arith, ints) }
small_of _ n (Byte false) h = record { low = omega (arith, ints); high = omega (arith, ints) }
small_of _ n (Half true) h = record { low = omega (arith, ints); high = omega (arith, ints) }
small_of _ n (Half false) h = record { low = omega (arith, ints); high = omega (arith, ints) }
small_of _ n (Single true) h = record { low = omega (arith, ints); high = omega (arith, ints) }
small_of _ n (Single false) h = record { low = omega (arith, ints); high = omega (arith, ints) }
small_of _ n (Double true) h = record { low = omega (arith, ints); high = omega (arith, ints) }
small_of _ n (Double false) h = record { low = omega (arith, ints); high = omega (arith, ints) }

-- a type from its parts
abbrev type_of : ℕ → Bool → Bool → IntType
type_of w s u = record { bits = w; signed = s; truth = u }

doubled : (w : ℕ) → 0 < w → 2 ^ w ≡ 2 ^ (w - 1) + 2 ^ (w - 1)
doubled w h =
    let e : w ≡ suc (w - 1) = omega arith in
    let f = pow-suc 2 (w - 1) in
    let g : 2 ^ w ≡ 2 ^ suc (w - 1) = ap (λ k. 2 ^ k) e in
    omega arith

read_in : (w h n : ℕ) (u : Bool) → 2 ^ w ≡ h + h → 2 ^ (w - 1) ≡ h → n < 2 ^ w → InRange (type_of w true u) (read_signed (2 ^ w) n)
read_in w h n u e f lt = halves (2 ^ w) n
    (λ l. let g = signed_low (2 ^ w) n l in record { low = omega (arith, ints); high = omega (arith, ints) })
    (λ l. let g = signed_high (2 ^ w) n l in record { low = omega (arith, ints); high = omega (arith, ints) })

number_in_parts : (w : ℕ) (s u : Bool) (n : ℕ) → 0 < w → n < 2 ^ w → InRange (type_of w s u) (number s w n)
number_in_parts w true u n some lt = read_in w (2 ^ (w - 1)) n u (doubled w some) refl lt
number_in_parts w false u n some lt = record { low = omega (arith, ints); high = omega (arith, ints) }

-- the low bits of a type, read with its sign
pub number_in : (t : IntType) (n : ℕ) → HasWidth t → n < 2 ^ t.bits → InRange t (number t.signed t.bits n)
number_in t n h lt = number_in_parts t.bits t.signed t.truth n h.some lt

truth_in : (n : ℤ) → InRange (type_of 1 false true) (truth_of n)
truth_in (pos zero) = record { low = omega (arith, ints); high = omega (arith, ints) }
truth_in (pos (suc n)) = record { low = omega (arith, ints); high = omega (arith, ints) }
truth_in (negsuc n) = record { low = omega (arith, ints); high = omega (arith, ints) }

-- what is converted to a type is a number of it
pub converted_in : (t : IntType) (n : ℤ) → IsType t → InRange t (converted t n)
converted_in _ n Truth = truth_in n
converted_in _ n (Byte s) = number_in_parts 8 s false (modulo 8 n) (omega arith) (modulo_below 8 n)
converted_in _ n (Half s) = number_in_parts 16 s false (modulo 16 n) (omega arith) (modulo_below 16 n)
converted_in _ n (Single s) = number_in_parts 32 s false (modulo 32 n) (omega arith) (modulo_below 32 n)
converted_in _ n (Double s) = number_in_parts 64 s false (modulo 64 n) (omega arith) (modulo_below 64 n)

-- 0 and 1
pub bit_in : (b : Bool) → InRange int (bit_of b)
bit_in true = record { low = omega (arith, ints); high = omega (arith, ints) }
bit_in false = record { low = omega (arith, ints); high = omega (arith, ints) }

pub truth_of_in : (n : ℤ) → InRange int (truth_of n)
truth_of_in (pos zero) = bit_in false
truth_of_in (pos (suc n)) = bit_in true
truth_of_in (negsuc n) = bit_in true

-- numbers that stand nearer to 0
near_pos : (w : ℕ) (s u : Bool) (a b : ℕ) → b ≤ a → InRange (type_of w s u) (pos a) → InRange (type_of w s u) (pos b)
near_pos w true u a b le h = record { low = omega (arith, ints); high = omega (arith, ints) }
near_pos w false u a b le h = record { low = omega (arith, ints); high = omega (arith, ints) }

near_neg : (w : ℕ) (s u : Bool) (a b : ℕ) → b ≤ a → InRange (type_of w s u) (negsuc a) → InRange (type_of w s u) (negsuc b)
near_neg w true u a b le h = let p = pow_pos (w - 1) in record { low = omega (arith, ints); high = omega (arith, ints) }
near_neg w false u a b le h = record { low = absurd (omega (arith, ints)); high = absurd (omega (arith, ints)) }

zero_in_parts : (w : ℕ) (s u : Bool) → InRange (type_of w s u) (pos 0)
zero_in_parts w true u = let p = pow_pos (w - 1) in record { low = omega (arith, ints); high = omega (arith, ints) }
zero_in_parts w false u = let p = pow_pos w in record { low = omega (arith, ints); high = omega (arith, ints) }

pub zero_in : (t : IntType) → InRange t (pos 0)
zero_in t = zero_in_parts t.bits t.signed t.truth

-- the negative of a number up to a + 1
turned_in : (t : IntType) (a b : ℕ) → b ≤ suc a → InRange t (negsuc a) → InRange t (neg_ℤ (pos b))
turned_in t a zero le h = zero_in t
turned_in t a (suc b) le h = let l : b ≤ a = omega arith in near_neg t.bits t.signed t.truth a b l h

pub rest_in : (t : IntType) (x y : ℤ) → InRange t x → InRange t (int_rem x y)
rest_in t (pos a) y h = near_pos t.bits t.signed t.truth a (a % unsigned_abs y) (mod-le a (unsigned_abs y)) h
rest_in t (negsuc a) y h = turned_in t a (suc a % unsigned_abs y) (mod-le (suc a) (unsigned_abs y)) h

floor_in : (t : IntType) (x : ℤ) (d : ℕ) → InRange t x → InRange t (floor_div x d)
floor_in t (pos a) d h = near_pos t.bits t.signed t.truth a (a / d) (div-le_self a d) h
floor_in t (negsuc a) d h = near_neg t.bits t.signed t.truth a (a / d) (div-le_self a d) h

pub shifted_in : (t : IntType) (x y : ℤ) → InRange t x → InRange t (shifted_right x y)
shifted_in t x (pos y) h = floor_in t x (2 ^ y) h
shifted_in t x (negsuc y) h = zero_in t

pub and_in : (t : IntType) (x y : ℤ) → HasWidth t → InRange t (bitwise bit_and t x y)
and_in t x y h =
    let le = and_le_l (modulo t.bits x) (modulo t.bits y) in
    let lt = modulo_below t.bits x in
    let below : bit_and (modulo t.bits x) (modulo t.bits y) < 2 ^ t.bits = omega arith in
    number_in t (bit_and (modulo t.bits x) (modulo t.bits y)) h below

pub or_in : (t : IntType) (x y : ℤ) → HasWidth t → InRange t (bitwise bit_or t x y)
or_in t x y h = number_in t _ h (or_lt t.bits (modulo t.bits x) (modulo t.bits y) (modulo_below t.bits x) (modulo_below t.bits y))

pub xor_in : (t : IntType) (x y : ℤ) → HasWidth t → InRange t (bitwise bit_xor t x y)
xor_in t x y h = number_in t _ h (xor_lt t.bits (modulo t.bits x) (modulo t.bits y) (modulo_below t.bits x) (modulo_below t.bits y))

-- an element, and 0 where there is none
pub element_in : (t : IntType) (row : List ℤ) (i : ℕ) → All (InRange t) row → InRange t (slice_index_or row i (pos 0))
element_in t [] i h = zero_in t
element_in t (n ∷ row) zero h = h 0 (pos 0) (omega arith)
element_in t (n ∷ row) (suc i) h = element_in t row i (λ k d lt. h (suc k) d (omega arith))

-- 1, to which `++` adds
pub one_in : (t : IntType) → IsType t → InRange t (pos 1)
one_in _ Truth = record { low = omega (arith, ints); high = omega (arith, ints) }
one_in _ (Byte true) = record { low = omega (arith, ints); high = omega (arith, ints) }
one_in _ (Byte false) = record { low = omega (arith, ints); high = omega (arith, ints) }
one_in _ (Half true) = record { low = omega (arith, ints); high = omega (arith, ints) }
one_in _ (Half false) = record { low = omega (arith, ints); high = omega (arith, ints) }
one_in _ (Single true) = record { low = omega (arith, ints); high = omega (arith, ints) }
one_in _ (Single false) = record { low = omega (arith, ints); high = omega (arith, ints) }
one_in _ (Double true) = record { low = omega (arith, ints); high = omega (arith, ints) }
one_in _ (Double false) = record { low = omega (arith, ints); high = omega (arith, ints) }
