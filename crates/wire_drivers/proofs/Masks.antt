-- Masks of wires.
use Rattle.std.proofs.Common.{◌≡◌, ℕ, zero, suc, ◌+◌, ◌<◌, ◌≤◌, List, [], ◌∷◌, ◌++◌, length, take, get_or, Bool, true, false, eqb, Some, None, Option, inl, inr, refl, sym, ap, ◌∙◌, subst, arith, pos}
use Rattle.std.specs.Prelude.{◌&&◌, ◌||◌, nat_lt, slice_get}
use Rattle.std.specs.Global.{Vec}
use Rattle.std.proofs.lemmas.Bool.{cases_lt, eq-eqb, eqb-true, lt-ltb, le-ltb}
use Rattle.std.proofs.lemmas.Bool.Decides.{eqb_tells}
use Rattle.bit_sets.specs.declared.Bits.{Bits}
use Rattle.bit_sets.specs.Sets.{has, is_set}
use Rattle.flat_tree.specs.declared.design.Driver.{Driver}
use Rattle.flat_tree.specs.declared.design.FlatSignal.{FlatSignal}
use Rattle.flat_tree.specs.declared.expr.FlatExpr.{FlatExpr}
use Rattle.flat_values.specs.Fits.{shapes_of}
use Rattle.flat_bits.specs.Selections.{in_span}
use Rattle.flat_writes.specs.declared.masks.Extent.TheVariants.{Certain}
use Rattle.frame_offences.specs.Drivers.{mask_has, any_has, IsLacking, IsMissing}
use Rattle.wire_drivers.specs.Wires.{AreSetsOf}
use Rattle.wire_drivers.specs.Undriven.{wire_bit, wire_at, AreMasks, IsUndriven, IsFirstUndriven}
use Rattle.wire_drivers.proofs.Drivers.{or_none, all_is}

and_none : (a : Bool) → (a && false) ≡ false
and_none true = refl
and_none false = refl

-- a bound of one more, but for the bound itself
one_more : (k m : ℕ) → (m ≡ k → ⊥) → nat_lt k m ≡ nat_lt k (suc m)
one_more k m ne = elim (cases_lt k m) [
  | inl l ↦ lt-ltb k m l ∙ sym (lt-ltb k (suc m) (omega arith))
  | inr g ↦ le-ltb k m g ∙ sym (le-ltb k (suc m) (elim (cases_lt m k) [ inl l ↦ omega arith | inr h ↦ absurd (ne (omega arith)) ]))
]

-- the lowest n bits
pub whole_span : (bits n k : ℕ) → n ≤ bits → in_span bits (pos 0) n k ≡ nat_lt k n
whole_span bits zero k le = sym (le-ltb k 0 (omega arith))
whole_span bits (suc n) k le =
    let rest = in_span bits (pos 0) n k in
    let below : n < bits = omega (arith, le) in
    let here : 0 + n ≡ n = omega arith in
    elim (eqb_tells n k) [
      | inl t ↦
          let within : k < suc n = let e = t.1 in omega arith in
          ap (λ m. (nat_lt m bits && eqb m k) || rest) here ∙ ap (λ b. (b && eqb n k) || rest) (lt-ltb n bits below) ∙ ap (λ b. b || rest) t.0 ∙ sym (lt-ltb k (suc n) within)
      | inr f ↦
          ap (λ m. (nat_lt m bits && eqb m k) || rest) here
          ∙ ap (λ b. (nat_lt n bits && b) || rest) f.0
          ∙ ap (λ b. b || rest) (and_none (nat_lt n bits))
          ∙ whole_span bits n k (omega (arith, le))
          ∙ one_more k n f.1
    ]

first_never : (j : ℕ) → eqb 0 (suc j) ≡ false
first_never j = elim (eqb_tells 0 (suc j)) [
  | inl t ↦ let e = t.1 in absurd (omega (arith, e))
  | inr f ↦ f.0
]

later_never : (j : ℕ) → eqb (suc j) 0 ≡ false
later_never j = elim (eqb_tells (suc j) 0) [
  | inl t ↦ let e = t.1 in absurd (omega (arith, e))
  | inr f ↦ f.0
]

same_step : (a b : ℕ) → eqb (suc a) (suc b) ≡ eqb a b
same_step a b = elim (eqb_tells a b) [
  | inl t ↦ eq-eqb (suc a) (suc b) (ap (λ n. suc n) t.1) ∙ sym t.0
  | inr f ↦
      elim (eqb_tells (suc a) (suc b)) [
        | inl t ↦ let e = t.1 in absurd (f.1 (omega (arith, e)))
        | inr q ↦ q.0 ∙ sym f.0
      ]
]

push_at : (ms : List Bits) (b : Bits) (j g k : ℕ) → mask_has (ms ++ b ∷ []) j g k ≡ (mask_has ms j g k || (eqb (length ms) j && has g k b))
push_at [] b zero g k = refl
push_at [] b (suc j) g k = sym (ap (λ t. t && has g k b) (first_never j))
push_at (m ∷ ms) b zero g k = or_none (has g k m) ∙ ap (λ t. has g k m || (t && has g k b)) (sym (later_never (length ms)))
push_at (m ∷ ms) b (suc j) g k = push_at ms b j g k ∙ ap (λ t. mask_has ms j g k || (t && has g k b)) (sym (same_step (length ms) j))

take_at : (xs : List FlatSignal) (i j k : ℕ) (d : FlatSignal) → i < length xs → wire_at (slice_get (take (suc i) xs) j) k ≡ (wire_at (slice_get (take i xs) j) k || (eqb i j && wire_bit (get_or xs i d) k))
take_at [] i j k d lt = absurd (omega (arith, lt))
take_at (x ∷ xs) zero zero k d lt = refl
take_at (x ∷ xs) zero (suc j) k d lt = sym (ap (λ t. t && wire_bit x k) (first_never j))
take_at (x ∷ xs) (suc i) zero k d lt = or_none (wire_bit x k) ∙ ap (λ t. wire_bit x k || (t && wire_bit (get_or xs i d) k)) (sym (later_never i))
take_at (x ∷ xs) (suc i) (suc j) k d lt = take_at xs i j k d (omega (arith, lt)) ∙ ap (λ t. wire_at (slice_get (take i xs) j) k || (t && wire_bit (get_or xs i d) k)) (sym (same_step i j))

spread : (a b c : Bool) → ((a && b) || (a && c)) ≡ (a && (b || c))
spread true b c = refl
spread false b c = refl

-- one mask more
pub masks_more : (signals : List FlatSignal) (masks : List Bits) (i n mask : ℕ) (d : FlatSignal) → i < length signals → length masks ≡ i → n ≡ i → ((k : ℕ) → is_set mask k ≡ wire_bit (get_or signals i d) k) → AreMasks (take i signals) masks → AreMasks (take (suc i) signals) (masks ++ record { signal = n; mask = mask } ∷ [])
masks_more signals masks i n mask d lt len same is are j g k =
    let one : Bits = record { signal = n; mask = mask } in
    let before = wire_at (slice_get (take i signals) j) k in
    let W = wire_bit (get_or signals i d) k in
    push_at masks one j g k
    ∙ ap (λ b. b || (eqb (length masks) j && has g k one)) (are j g k)
    ∙ ap (λ m. (eqb j g && before) || (eqb m j && has g k one)) len
    ∙ ap (λ m. (eqb j g && before) || (eqb i j && (eqb m g && is_set mask k))) same
    ∙ ap (λ b. (eqb j g && before) || (eqb i j && (eqb i g && b))) (is k)
    ∙ elim (eqb_tells i j) [
      | inl t ↦
          ap (λ b. (eqb j g && before) || (b && (eqb i g && W))) t.0
          ∙ ap (λ m. (eqb j g && before) || (eqb m g && W)) t.1
          ∙ spread (eqb j g) before W
          ∙ ap (λ b. eqb j g && (before || (b && W))) (sym t.0)
      | inr f ↦
          ap (λ b. (eqb j g && before) || (b && (eqb i g && W))) f.0
          ∙ sym (or_none (eqb j g && before))
          ∙ ap (λ b. eqb j g && b) (or_none before)
          ∙ ap (λ b. eqb j g && (before || (b && W))) (sym f.0)
    ]
    ∙ ap (λ b. eqb j g && b) (sym (take_at signals i j k d lt))

both : (a b : Bool) → (a && b) ≡ true → (a ≡ true) × (b ≡ true)
both true true e = (refl, refl)
both true false e = cc
both false b e = cc

module _ (signals : List FlatSignal) (drivers : List (Driver FlatExpr)) (masks : List Bits) (sets : List (Vec Bits)) (are : AreMasks signals masks) (of : AreSetsOf (shapes_of signals) Certain drivers sets) where
  forth : (j : ℕ) → IsLacking masks sets j → IsUndriven signals drivers j
  forth j L =
      let h = both (eqb j L.signal) (wire_at (slice_get signals j) L.bit) (sym (are j L.signal L.bit) ∙ L.wants) in
      let same = eqb-true j L.signal h.0 in
      record {
        bit = L.bit;
        wire = h.1;
        none = sym (all_is (shapes_of signals) Certain drivers sets of j L.bit) ∙ ap (λ g. any_has sets g L.bit) same ∙ L.none;
      }

  back : (j : ℕ) → IsUndriven signals drivers j → IsLacking masks sets j
  back j U = record {
    signal = j;
    bit = U.bit;
    wants = are j j U.bit ∙ ap (λ b. b && wire_at (slice_get signals j) U.bit) (eq-eqb j j refl) ∙ U.wire;
    none = all_is (shapes_of signals) Certain drivers sets of j U.bit ∙ U.none;
  }

  -- the first mask with a bit that no set has is the first wire's with one that no driver writes
  pub undriven_is : length masks ≡ length signals → (r : Option ℕ) → IsMissing masks sets r → IsFirstUndriven signals drivers r
  undriven_is len None h = λ j l U. h j (subst (λ n. j < n) (sym len) l) (back j U)
  undriven_is len (Some j) h = (subst (λ n. j < n) len h.0, forth j h.1, λ i l U. h.2 i l (back i U))
