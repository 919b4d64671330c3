-- Bits of masks.
use Rattle.std.proofs.Common.{◌≡◌, inl, inr, ℕ, zero, suc, ◌+◌, ◌*◌, ◌/◌, ◌%◌, ◌^◌, ◌<◌, ◌≤◌, Bool, true, false, eqb, refl, sym, ap, ◌∙◌, subst, arith}
use Rattle.std.specs.Prelude.{◌⊎◌, not, ◌&&◌, bit_and, bit_xor}
use Rattle.std.specs.Int.{bit_at}
use Rattle.std.proofs.Math.Nat.{pow-suc}
use Rattle.std.proofs.lemmas.Nat.Bits.{bit_at-lt, bit_at-zero, same_from_bits_below}
use Rattle.std.proofs.lemmas.Bool.{cases_lt, cases_Bool, eq-eqb}
use Rattle.bit_sets.specs.Sets.{is_set}
use Rattle.bit_sets.proofs.Masks.{set_and, set_none, set_lacking}
use Rattle.frame_offences.specs.Drivers.{AreMeeting, IsMore}

pub clash : (b : Bool) → b ≡ true → b ≡ false → ⊥
clash true p q = cc
clash false p q = cc

pub both_true : (a b : Bool) → (a && b) ≡ true → (a ≡ true) × (b ≡ true)
both_true true b e = (refl, e)
both_true false b e = (e, absurd (clash false e refl))

not_true : (b : Bool) → not b ≡ true → b ≡ false
not_true true e = sym e
not_true false e = refl

lt_pow : (n : ℕ) → n < 2 ^ n
lt_pow zero = omega arith
lt_pow (suc n) = omega (arith, lt_pow n, pow-suc 2 n)

-- a bit that is 1 among the first w, or none
find_bit : (n w : ℕ) → ((k : ℕ) × (bit_at n k ≡ 1)) ⊎ ((k : ℕ) → k < w → bit_at n k ≡ 0)
find_bit n zero = inr (λ k l. absurd (omega (arith, l)))
find_bit n (suc w) = elim (find_bit n w) [
  | inl h ↦ inl h
  | inr h ↦
      elim (cases_lt (bit_at n w) 1) [
        | inl l ↦
            inr (λ k q. elim (cases_lt k w) [
              | inl r ↦ h k r
              | inr r ↦
                  let same : w ≡ k = omega (arith, q, r) in
                  let zero_at : bit_at n w ≡ 0 = omega (arith, l) in
                  subst (λ j. bit_at n j ≡ 0) same zero_at
            ])
        | inr g ↦ let one : bit_at n w ≡ 1 = omega (arith, g, bit_at-lt n w) in inl (w, one)
      ]
]

-- a number that isn't 0 has a bit
some_bit : (n : ℕ) → 0 < n → (k : ℕ) × (is_set n k ≡ true)
some_bit n some = elim (find_bit n n) [
  | inl h ↦ (h.0, eq-eqb (bit_at n h.0) 1 h.1)
  | inr h ↦
      let room : 0 < 2 ^ n = omega (arith, lt_pow n) in
      let none : n ≡ 0 = same_from_bits_below n n 0 (lt_pow n) room (λ i l. h i l ∙ sym (bit_at-zero i)) in
      absurd (omega (arith, none, some))
]

pub meeting_some : (a b : ℕ) → 0 < bit_and a b → AreMeeting a b true
meeting_some a b some =
    let s = some_bit (bit_and a b) some in
    let h = both_true (is_set a s.0) (is_set b s.0) (sym (set_and a b s.0) ∙ s.1) in
    (s.0, h.0, h.1)

pub meeting_none : (a b : ℕ) → bit_and a b ≡ 0 → AreMeeting a b false
meeting_none a b e k x y =
    clash (is_set (bit_and a b) k) (set_and a b k ∙ ap (λ t. t && is_set b k) x ∙ y) (ap (λ n. is_set n k) e ∙ set_none k)

pub more_some : (a b : ℕ) → 0 < bit_xor a (bit_and a b) → IsMore a b true
more_some a b some =
    let n = bit_xor a (bit_and a b) in
    let s = some_bit n some in
    let h = both_true (is_set a s.0) (not (is_set b s.0)) (sym (set_lacking a b s.0) ∙ s.1) in
    (s.0, h.0, not_true (is_set b s.0) h.1)

pub more_none : (a b : ℕ) → bit_xor a (bit_and a b) ≡ 0 → IsMore a b false
more_none a b e k x = elim (cases_Bool (is_set b k)) [
  | inl t ↦ t
  | inr f ↦
      let n = bit_xor a (bit_and a b) in
      absurd (clash (is_set n k) (set_lacking a b k ∙ ap (λ t. t && not (is_set b k)) x ∙ ap not f) (ap (λ m. is_set m k) e ∙ set_none k))
]
