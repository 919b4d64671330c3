-- Longest fronts that a first byte, or a run of bytes, goes before.
use Rattle.std.proofs.Common.{◌≡◌, ℕ, zero, suc, ◌+◌, ◌<◌, ◌≤◌, ◌&&◌, Bool, true, false, cond, List, [], ◌∷◌, length, take, drop, Option, None, Some, refl, sym, ◌∙◌, ap, subst, arith}
use Rattle.std.specs.Option.{option_map}
use Rattle.std.specs.List.{prefix_len}
use Rattle.std.proofs.lemmas.List.{length-take-le}
use Rattle.std.proofs.lemmas.List.Sums.{prefix_len-le-length}
use Rattle.text_scan.specs.Words.{run_len}
use Rattle.text_scan.specs.Fronts.{IsLongestFront}
use Rattle.text_scan.proofs.FrontLemmas.{front-stops, front-goes_on}

-- tests that agree on the fronts
pub same_front : (j k : List ℕ → Bool) (bytes : List ℕ) → ((m : ℕ) → j (take m bytes) ≡ k (take m bytes)) → (r : Option ℕ) → IsLongestFront k bytes r → IsLongestFront j bytes r
same_front j k bytes e None h = λ m l. e m ∙ h m l
same_front j k bytes e (Some n) h = (h.0, e n ∙ h.1, λ m g l. e m ∙ h.2 m g l)

-- bytes that begin with b
module _ (test : List ℕ → Bool) (b : ℕ) (bs bytes : List ℕ) (are : bytes ≡ b ∷ bs) where
  pub at_front : (r : Option ℕ) → IsLongestFront test (b ∷ bs) r → IsLongestFront test bytes r
  at_front r h = subst (λ x. IsLongestFront test x r) (sym are) h

  up_one : (r : Option ℕ) → IsLongestFront test (b ∷ bs) (option_map suc r) → IsLongestFront test bytes (option_map (λ n. n + 1) r)
  up_one None h = at_front None h
  up_one (Some n) h = at_front (Some (n + 1)) (subst (λ x. IsLongestFront test (b ∷ bs) (Some x)) (let z : suc n ≡ n + 1 = omega arith in z) h)

  -- b passes or not, and the rest has a test of its own
  module _ (next : List ℕ → Bool) (c : Bool) (none : test [] ≡ false) (some : (xs : List ℕ) → test (b ∷ xs) ≡ (c && next xs)) where
    pub begun-stops : c ≡ false → IsLongestFront test bytes None
    begun-stops e = at_front None (front-stops test next c b bs none some e)

    pub begun-goes_on : c ≡ true → (r : Option ℕ) → IsLongestFront next bs r → IsLongestFront test bytes (option_map (λ n. n + 1) r)
    begun-goes_on e r h = up_one r (front-goes_on test next c b bs none some e r h)

  -- the same where nothing passes too
  module _ (next : List ℕ → Bool) (none : test [] ≡ true) (some : (xs : List ℕ) → test (b ∷ xs) ≡ next xs) where
    pub begun-or_nothing : IsLongestFront next bs None → IsLongestFront test bytes (Some 0)
    begun-or_nothing h = at_front (Some 0) (omega arith, none, by)
      where
        by : (m : ℕ) → 0 < m → m ≤ length (b ∷ bs) → test (take m (b ∷ bs)) ≡ false
        by zero g l = absurd (omega arith)
        by (suc m) g l = some (take m bs) ∙ h m (omega arith)

    pub begun-or_more : (n : ℕ) → IsLongestFront next bs (Some n) → IsLongestFront test bytes (Some (n + 1))
    begun-or_more n h = at_front (Some (n + 1)) (subst (λ x. IsLongestFront test (b ∷ bs) (Some x)) (let z : suc n ≡ n + 1 = omega arith in z) (let w = h.0 in omega arith, some (take n bs) ∙ h.1, by))
      where
        by : (m : ℕ) → suc n < m → m ≤ length (b ∷ bs) → test (take m (b ∷ bs)) ≡ false
        by zero g l = absurd (omega arith)
        by (suc m) g l = some (take m bs) ∙ h.2 m (omega arith) (omega arith)

-- bytes that pass, and then a front of another test
module _ (passes : ℕ → Bool) (whole last : List ℕ → Bool) (none : whole [] ≡ last []) (some : (b : ℕ) (xs : List ℕ) → whole (b ∷ xs) ≡ cond (passes b) (whole xs) (last (b ∷ xs))) where
  of_first : (b : ℕ) (xs : List ℕ) (t : Bool) → passes b ≡ t → whole (b ∷ xs) ≡ cond t (whole xs) (last (b ∷ xs))
  of_first b xs t e = some b xs ∙ ap (λ u. cond u (whole xs) (last (b ∷ xs))) e

  longer_by : (k : ℕ) (r : Option ℕ) → Option ℕ
  longer_by k None = None
  longer_by k (Some n) = Some (n + k)

  further : (k l : ℕ) (r : Option ℕ) → suc k ≡ l → option_map suc (option_map (λ n. n + k) r) ≡ option_map (λ n. n + l) r
  further k l None e = refl
  further k l (Some n) e = ap Some (let z : suc (n + k) ≡ n + l = omega (arith, e) in z)

  same_place : (r : Option ℕ) → r ≡ option_map (λ n. n + 0) r
  same_place None = refl
  same_place (Some n) = ap Some (let z : n ≡ n + 0 = omega arith in z)

  no_bytes : (m : ℕ) → whole (take m []) ≡ last (take m [])
  no_bytes zero = none
  no_bytes (suc m) = none

  passed : (b : ℕ) (bs : List ℕ) → passes b ≡ true → (r : Option ℕ) → ((m : ℕ) → r ≡ None → whole [] ≡ false) → IsLongestFront whole bs r → IsLongestFront whole (b ∷ bs) (option_map suc r)
  passed b bs e None n h = by
    where
      by : (m : ℕ) → m ≤ length (b ∷ bs) → whole (take m (b ∷ bs)) ≡ false
      by zero l = n 0 refl
      by (suc m) l = of_first b (take m bs) true e ∙ h m (omega arith)
  passed b bs e (Some n) none h = (let w = h.0 in omega arith, of_first b (take n bs) true e ∙ h.1, by)
    where
      by : (m : ℕ) → suc n < m → m ≤ length (b ∷ bs) → whole (take m (b ∷ bs)) ≡ false
      by zero g l = absurd (omega arith)
      by (suc m) g l = of_first b (take m bs) true e ∙ h.2 m (omega arith) (omega arith)

  none_at_all : (bs : List ℕ) (r : Option ℕ) → IsLongestFront last bs r → r ≡ None → last [] ≡ false
  none_at_all bs None h e = h 0 (omega arith)
  none_at_all bs (Some n) h e = absurd (cc)

  mapped_none : (f : ℕ → ℕ) (r : Option ℕ) → option_map f r ≡ None → r ≡ None
  mapped_none f None e = refl
  mapped_none f (Some n) e = absurd (cc)

  after_prefix : (bytes : List ℕ) (r : Option ℕ) → IsLongestFront last (drop (prefix_len passes bytes) bytes) r → IsLongestFront whole bytes (option_map (λ n. n + prefix_len passes bytes) r)
  after_prefix [] r h = subst (λ x. IsLongestFront whole [] x) (same_place r) (same_front whole last [] no_bytes r h)
  after_prefix (b ∷ bs) r h = by (passes b) refl h (after_prefix bs r)
    where
      by : (t : Bool) → passes b ≡ t → IsLongestFront last (drop (cond t (1 + prefix_len passes bs) 0) (b ∷ bs)) r →
          (IsLongestFront last (drop (prefix_len passes bs) bs) r → IsLongestFront whole bs (option_map (λ n. n + prefix_len passes bs) r)) →
          IsLongestFront whole (b ∷ bs) (option_map (λ n. n + cond t (1 + prefix_len passes bs) 0) r)
      by true e h ih =
          let up : suc (prefix_len passes bs) ≡ 1 + prefix_len passes bs = omega arith in
          let inner = subst (λ k. IsLongestFront last (drop k (b ∷ bs)) r) (sym up) h in
          subst (λ x. IsLongestFront whole (b ∷ bs) x) (further (prefix_len passes bs) (1 + prefix_len passes bs) r up)
          (passed b bs e (option_map (λ n. n + prefix_len passes bs) r) (λ m is. none ∙ none_at_all (drop (prefix_len passes bs) bs) r inner (mapped_none (λ n. n + prefix_len passes bs) r is)) (ih inner))
      by false e h ih = subst (λ x. IsLongestFront whole (b ∷ bs) x) (same_place r) (same_front whole last (b ∷ bs) agree r h)
        where
          agree : (m : ℕ) → whole (take m (b ∷ bs)) ≡ last (take m (b ∷ bs))
          agree zero = none
          agree (suc m) = of_first b (take m bs) false e

  pub after_run : (bytes : List ℕ) (k : ℕ) (r : Option ℕ) → k ≡ run_len passes bytes → IsLongestFront last (drop k bytes) r → IsLongestFront whole bytes (option_map (λ n. n + k) r)
  after_run bytes k r e h =
      let same : k ≡ prefix_len passes bytes = e ∙ length-take-le (prefix_len passes bytes) bytes (prefix_len-le-length passes bytes) in
      subst (λ x. IsLongestFront whole bytes (option_map (λ n. n + x) r)) (sym same) (after_prefix bytes r (subst (λ x. IsLongestFront last (drop x bytes) r) same h))
