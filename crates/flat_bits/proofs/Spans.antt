-- Spans of bits.
use Rattle.std.proofs.Common.{w64, ◌≡◌, inl, inr, ℕ, zero, suc, ◌+◌, ◌*◌, ◌%◌, ◌^◌, ◌<◌, ◌≤◌, Bool, true, false, eqb, List, ◌∷◌, Option, Some, None, if◌then◌else◌, zero-add, refl, sym, ap, ◌∙◌, arith, ℤ, pos, negsuc, add-one}
use Rattle.std.specs.Prelude.{◌+ℤ◌, ◌-ℤ◌, ◌≤ℤ◌, ◌<ℤ◌, ◌&&◌, ◌||◌, nat_lt, bit_or}
use Rattle.std.proofs.lemmas.Nat.Bits.{bit_at_set_same, bit_at_set_other}
use Rattle.std.proofs.lemmas.Bool.Decides.{eqb_tells}
use Rattle.std.proofs.lemmas.Bool.{eq-eqb, lt-ltb, le-ltb}
use Rattle.std.proofs.lemmas.Int.{ints}
use lib.IntN.{nat_abs}
use mir.Val.{to_z, of_z}
use Rattle.bit_sets.specs.Sets.{is_set}
use Rattle.v_views.specs.Spots.{Shape, Spot, spot, is_among, place_at, range_at, bits_at}
use Rattle.flat_bits.specs.Selections.{is_place, in_span}
use Rattle.flat_bits.specs.Index.{IsAway}

-- one place more, at a bit
pub span_hit : (bits : ℕ) (from : ℤ) (mask j p : ℕ) → from +ℤ pos j ≡ pos p → p < bits → bits ≤ 64 → ((k : ℕ) → is_set mask k ≡ in_span bits from j k) → (k : ℕ) → is_set (bit_or mask (1 * 2 ^ p % 2 ^ 64)) k ≡ in_span bits from (j + 1) k
span_hit bits from mask j p e lt le h k =
    let within : p < 64 = omega arith in
    let word = bit_or mask (1 * 2 ^ p % 2 ^ 64) in
    let more : in_span bits from (suc j) k ≡ (eqb p k || in_span bits from j k) =
    ap (λ z. is_place bits z k || in_span bits from j k) e ∙ ap (λ t. (t && eqb p k) || in_span bits from j k) (lt-ltb p bits lt) in
    let now : is_set word k ≡ (eqb p k || in_span bits from j k) = elim (eqb_tells p k) [
      | inl t ↦ ap (λ i. is_set word i) (sym t.1) ∙ ap (λ x. eqb x 1) (bit_at_set_same w64 mask p within) ∙ sym (ap (λ x. x || in_span bits from j k) t.0)
      | inr f ↦ ap (λ x. eqb x 1) (bit_at_set_other w64 mask p within k (λ q. f.1 (sym q))) ∙ h k ∙ sym (ap (λ x. x || in_span bits from j k) f.0)
    ] in
    rw add-one (now ∙ sym more)

-- one place more, at none
pub span_miss : (bits : ℕ) (from : ℤ) (mask j : ℕ) → ((k : ℕ) → is_place bits (from +ℤ pos j) k ≡ false) → ((k : ℕ) → is_set mask k ≡ in_span bits from j k) → (k : ℕ) → is_set mask k ≡ in_span bits from (j + 1) k
span_miss bits from mask j none h k = rw add-one (h k ∙ sym (ap (λ x. x || in_span bits from j k) (none k)))

eqb_same : (g : ℕ) → eqb g g ≡ true
eqb_same g = eq-eqb g g refl

-- one place more, as a spot
among_more : (s : Shape) (g k : ℕ) (z : ℤ) (rest : List (Option Spot)) → is_among (place_at s g z ∷ rest) (spot g 0 k) ≡ (is_place s.bits z k || is_among rest (spot g 0 k))
among_more s g k (pos p) rest =
    let P : Bool → Type 0 = λ b. is_among ((if b then Some (spot g 0 p) else None) ∷ rest) (spot g 0 k) ≡ ((b && eqb p k) || is_among rest (spot g 0 k)) in
    elim (nat_lt p s.bits) as P [
      | true ↦ ap (λ t. (t && (eqb 0 0 && eqb p k)) || is_among rest (spot g 0 k)) (eqb_same g)
      | false ↦ refl
    ]
among_more s g k (negsuc p) rest = refl

pub span_spots : (s : Shape) (g k : ℕ) (from : ℤ) (n : ℕ) → in_span s.bits from n k ≡ is_among (range_at s g from n) (spot g 0 k)
span_spots s g k from zero = refl
span_spots s g k from (suc n) = ap (λ x. is_place s.bits (from +ℤ pos n) k || x) (span_spots s g k from n) ∙ sym (among_more s g k (from +ℤ pos n) (range_at s g from n))

pub whole_spots : (bits g k n : ℕ) → n ≤ bits → in_span bits (pos 0) n k ≡ is_among (bits_at g 0 n) (spot g 0 k)
whole_spots bits g k zero le = refl
whole_spots bits g k (suc n) le =
    ap (λ m. (nat_lt m bits && eqb m k) || in_span bits (pos 0) n k) (zero-add n)
    ∙ ap (λ t. (t && eqb n k) || in_span bits (pos 0) n k) (lt-ltb n bits (omega arith))
    ∙ ap (λ x. eqb n k || x) (whole_spots bits g k n (omega arith))
    ∙ sym (ap (λ t. (t && (eqb 0 0 && eqb n k)) || is_among (bits_at g 0 n) (spot g 0 k)) (eqb_same g))

pub place_high : (bits k : ℕ) (w : ℤ) → pos 64 ≤ℤ w → bits ≤ 64 → is_place bits w k ≡ false
place_high bits k (pos p) h le = let l : bits ≤ p = omega (arith, ints, h, le) in ap (λ t. t && eqb p k) (le-ltb p bits l)
place_high bits k (negsuc p) h le = refl

pub place_low : (bits k : ℕ) (w : ℤ) → w <ℤ pos 0 → is_place bits w k ≡ false
place_low bits k (pos p) h = absurd (omega (arith, ints, h))
place_low bits k (negsuc p) h = refl

place_away : (bits low below n k : ℕ) (z : ℤ) → IsAway z → below ≤ 64 → low < 2 ^ 32 → n ≤ 64 → bits ≤ 64 → is_place bits (((z -ℤ pos below) -ℤ pos low) +ℤ pos n) k ≡ false
place_away bits low below n k (pos m) a b l o le = place_high bits k _ (omega (arith, ints, a, b, l)) le
place_away bits low below n k (negsuc m) a b l o le = place_low bits k _ (omega (arith, ints, a, o))

pub span_away : (bits low below n k : ℕ) (z : ℤ) → IsAway z → below ≤ 64 → low < 2 ^ 32 → n ≤ 64 → bits ≤ 64 → in_span bits ((z -ℤ pos below) -ℤ pos low) n k ≡ false
span_away bits low below zero k z a b l m o = refl
span_away bits low below (suc n) k z a b l m o =
    ap (λ x. x || in_span bits ((z -ℤ pos below) -ℤ pos low) n k) (place_away bits low below n k z a b l (omega arith) o)
    ∙ span_away bits low below n k z a b l (omega arith) o

pub place_beyond : (bits k : ℕ) (w : ℤ) → pos bits ≤ℤ w → is_place bits w k ≡ false
place_beyond bits k (pos p) h = let l : bits ≤ p = omega (arith, ints, h) in ap (λ t. t && eqb p k) (le-ltb p bits l)
place_beyond bits k (negsuc p) h = refl

-- what the code computes at 64 bits
pub place_is : (from : ℤ) (j : ℕ) → negsuc (2 ^ 62 + 2 ^ 40) ≤ℤ from → from ≤ℤ pos (2 ^ 62) → j < 2 ^ 8 → to_z w64 (of_z w64 (to_z w64 (of_z w64 from) +ℤ to_z w64 j)) ≡ to_z w64 (of_z w64 from) +ℤ pos j
place_is from j l h lt = omega (arith, ints)

pub difference_is : (at : ℤ) (below low : ℕ) → negsuc (2 ^ 62) ≤ℤ at → at ≤ℤ pos (2 ^ 62) → below < 2 ^ 8 → low < 2 ^ 32 → to_z w64 (of_z w64 (to_z w64 (of_z w64 (to_z w64 (of_z w64 at) -ℤ to_z w64 below)) -ℤ to_z w64 low)) ≡ (at -ℤ pos below) -ℤ pos low
difference_is at below low l h a b = omega (arith, ints)

pub part_is : (end low : ℕ) → end < 2 ^ 32 → low < 2 ^ 32 → to_z w64 (of_z w64 (to_z w64 end -ℤ to_z w64 low)) ≡ pos end -ℤ pos low
part_is end low a b = omega (arith, ints)

pub abs_is : (z : ℤ) → pos 0 ≤ℤ z → z ≡ pos (nat_abs z)
abs_is (pos n) h = refl
abs_is (negsuc n) h = absurd (omega (arith, ints, h))

pub below_is : (z : ℤ) (p bits : ℕ) → z ≡ pos p → z <ℤ pos bits → p < bits
below_is z p bits e h = omega (arith, ints, e, h)

-- places of one signal are none of another's
place_other : (s : Shape) (g h k : ℕ) (z : ℤ) (rest : List (Option Spot)) → eqb g h ≡ false → is_among rest (spot h 0 k) ≡ false → is_among (place_at s g z ∷ rest) (spot h 0 k) ≡ false
place_other s g h k (pos p) rest e r =
    let P : Bool → Type 0 = λ b. is_among ((if b then Some (spot g 0 p) else None) ∷ rest) (spot h 0 k) ≡ false in
    elim (nat_lt p s.bits) as P [
      | true ↦ ap (λ t. (t && (eqb 0 0 && eqb p k)) || is_among rest (spot h 0 k)) e ∙ r
      | false ↦ r
    ]
place_other s g h k (negsuc p) rest e r = r

pub range_other : (s : Shape) (g h k : ℕ) (from : ℤ) (n : ℕ) → eqb g h ≡ false → is_among (range_at s g from n) (spot h 0 k) ≡ false
range_other s g h k from zero e = refl
range_other s g h k from (suc n) e = place_other s g h k (from +ℤ pos n) (range_at s g from n) e (range_other s g h k from n e)
