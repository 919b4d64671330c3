-- What the parts of the test say of lists.
use Rattle.std.proofs.Common.{◌≡◌, ◌≢◌, ℕ, suc, zero, ◌+◌, ◌<◌, Bool, true, false, ◌||◌, ◌⊎◌, inl, inr, List, [], ◌∷◌, get_or, refl, sym, subst, arith}
use Rattle.std.proofs.Math.Dec.{eqb}
use Rattle.std.proofs.lemmas.Bool.{and_parts, eqb-true}
use Rattle.std.proofs.lemmas.Bool.Decides.{eqb_tells}
use Rattle.ll_parse.specs.Test.{all_below, only, only_but}

pub all_below_at : (n : ℕ) (f : ℕ → Bool) → all_below n f ≡ true → (k : ℕ) → k < n → f k ≡ true
all_below_at zero f h k l = absurd (omega arith)
all_below_at (suc n) f h k l =
    let w = and_parts (f n) (all_below n f) h in
    elim (eqb_tells k n) [ inl e ↦ subst (λ x. f x ≡ true) (sym e.1) w.0 | inr ne ↦ let l2 : k < n = omega (arith, ne.1) in all_below_at n f w.1 k l2 ]

or_parts : (a b : Bool) → (a || b) ≡ true → (a ≡ true) ⊎ (b ≡ true)
or_parts true b h = inl refl
or_parts false b h = inr h

pub only_at : (v : ℕ) (xs ys : List ℕ) → only v xs ys ≡ true → (a : ℕ) → get_or xs a 0 ≢ 0 → get_or ys a 0 ≡ v
only_at v [] ys h a ne = absurd (ne refl)
only_at v (x ∷ xs) [] h zero ne = absurd (ne (eqb-true x 0 (and_parts (eqb x 0) (only v xs []) h).0))
only_at v (x ∷ xs) [] h (suc a) ne = only_at v xs [] (and_parts (eqb x 0) (only v xs []) h).1 a ne
only_at v (x ∷ xs) (y ∷ ys) h zero ne =
    let w = (and_parts (eqb x 0 || eqb y v) (only v xs ys) h).0 in
    elim (or_parts (eqb x 0) (eqb y v) w) [ inl e ↦ absurd (ne (eqb-true x 0 e)) | inr e ↦ eqb-true y v e ]
only_at v (x ∷ xs) (y ∷ ys) h (suc a) ne = only_at v xs ys (and_parts (eqb x 0 || eqb y v) (only v xs ys) h).1 a ne

pub only_but_at : (v but i : ℕ) (xs ys : List ℕ) → only_but v but i xs ys ≡ true → (a : ℕ) → get_or xs a 0 ≢ 0 → i + a ≢ but → get_or ys a 0 ≡ v
only_but_at v but i [] ys h a ne nb = absurd (ne refl)
only_but_at v but i (x ∷ xs) [] h zero ne nb =
    let w = (and_parts (eqb x 0 || eqb i but) (only_but v but (suc i) xs []) h).0 in
    elim (or_parts (eqb x 0) (eqb i but) w) [ inl e ↦ absurd (ne (eqb-true x 0 e)) | inr e ↦ let f = eqb-true i but e in absurd (omega (arith, f)) ]
only_but_at v but i (x ∷ xs) [] h (suc a) ne nb =
    only_but_at v but (suc i) xs [] (and_parts (eqb x 0 || eqb i but) (only_but v but (suc i) xs []) h).1 a ne (λ e. nb (omega (arith, e)))
only_but_at v but i (x ∷ xs) (y ∷ ys) h zero ne nb =
    let w = (and_parts (eqb x 0 || eqb i but || eqb y v) (only_but v but (suc i) xs ys) h).0 in
    elim (or_parts (eqb x 0 || eqb i but) (eqb y v) w) [
      | inl e ↦ elim (or_parts (eqb x 0) (eqb i but) e) [ inl f ↦ absurd (ne (eqb-true x 0 f)) | inr f ↦ let g = eqb-true i but f in absurd (omega (arith, g)) ]
      | inr e ↦ eqb-true y v e
    ]
only_but_at v but i (x ∷ xs) (y ∷ ys) h (suc a) ne nb =
    only_but_at v but (suc i) xs ys (and_parts (eqb x 0 || eqb i but || eqb y v) (only_but v but (suc i) xs ys) h).1 a ne (λ e. nb (omega (arith, e)))
