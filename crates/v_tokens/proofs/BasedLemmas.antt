-- The longest based number, from its digits outwards.
use Rattle.std.proofs.Common.{◌≡◌, ℕ, zero, suc, ◌+◌, ◌-◌, ◌<◌, ◌≤◌, ◌&&◌, Bool, true, false, cond, List, [], ◌∷◌, length, take, drop, Option, None, Some, refl, sym, ◌∙◌, ap, subst, arith}
use Rattle.std.specs.Option.{option_map}
use Rattle.std.specs.List.{list_all, prefix_len}
use Rattle.text_scan.specs.Words.{run_len}
use Rattle.text_scan.specs.Fronts.{IsLongestFront}
use Rattle.std.proofs.lemmas.List.{length-take-le}
use Rattle.std.proofs.lemmas.List.Sums.{prefix_len-le-length}
use Rattle.text_scan.proofs.FrontLemmas.{front-stops, front-goes_on, front_of_none, front_of_run}
use Rattle.v_tokens.specs.Rules.{is_base, is_digit_after, goes_on_after, is_space, is_sign, is_digits, is_spaced, is_unsigned, is_based}

empty_front : (n : ℕ) (test : List ℕ → Bool) → test [] ≡ false → test (take n []) ≡ true → ⊥
empty_front zero test e h = (let z : true ≡ false = sym h ∙ e in cc)
empty_front (suc n) test e h = (let z : true ≡ false = sym h ∙ e in cc)

-- tests that agree on the fronts
same_front : (j k : List ℕ → Bool) (bytes : List ℕ) → ((m : ℕ) → j (take m bytes) ≡ k (take m bytes)) → (r : Option ℕ) → IsLongestFront k bytes r → IsLongestFront j bytes r
same_front j k bytes e None h = λ m l. e m ∙ h m l
same_front j k bytes e (Some n) h = (h.0, e n ∙ h.1, λ m g l. e m ∙ h.2 m g l)

module _ (base b : ℕ) (bs bytes : List ℕ) (are : bytes ≡ b ∷ bs) where
  pub digits-stop : is_digit_after base b ≡ false → IsLongestFront (is_digits base) bytes None
  digits-stop e = subst (λ x. IsLongestFront (is_digits base) x None) (sym are)
      (front-stops (is_digits base) (list_all (goes_on_after base)) (is_digit_after base b) b bs refl (λ xs. refl) e)

  pub digits-go : (n : ℕ) → n ≡ run_len (goes_on_after base) bs → is_digit_after base b ≡ true → IsLongestFront (is_digits base) bytes (Some (1 + n))
  digits-go n is e = subst (λ x. IsLongestFront (is_digits base) x (Some (1 + n))) (sym are)
      (subst (λ x. IsLongestFront (is_digits base) (b ∷ bs) (Some x)) (let z : suc (run_len (goes_on_after base) bs) ≡ 1 + n = omega (arith, is) in z)
      (front-goes_on (is_digits base) (list_all (goes_on_after base)) (is_digit_after base b) b bs refl (λ xs. refl) e (Some (run_len (goes_on_after base) bs)) (front_of_run (goes_on_after base) bs)))

  up_one : (test : List ℕ → Bool) (r : Option ℕ) → IsLongestFront test (b ∷ bs) (option_map suc r) → IsLongestFront test bytes (option_map (λ n. n + 1) r)
  up_one test None h = subst (λ x. IsLongestFront test x None) (sym are) h
  up_one test (Some n) h = subst (λ x. IsLongestFront test x (Some (n + 1))) (sym are) (subst (λ x. IsLongestFront test (b ∷ bs) (Some x)) (let z : suc n ≡ n + 1 = omega arith in z) h)

  pub unsigned-stop : is_base b ≡ false → IsLongestFront is_unsigned bytes None
  unsigned-stop e = subst (λ x. IsLongestFront is_unsigned x None) (sym are) (front-stops is_unsigned (is_spaced b) (is_base b) b bs refl (λ xs. refl) e)

  pub unsigned-go : is_base b ≡ true → (r : Option ℕ) → IsLongestFront (is_spaced b) bs r → IsLongestFront is_unsigned bytes (option_map (λ n. n + 1) r)
  unsigned-go e r h = up_one is_unsigned r (front-goes_on is_unsigned (is_spaced b) (is_base b) b bs refl (λ xs. refl) e r h)

  based_on : (t : Bool) → is_sign b ≡ t → (xs : List ℕ) → is_based (b ∷ xs) ≡ cond t (is_unsigned xs) (is_unsigned (b ∷ xs))
  based_on t e xs = ap (λ u. cond u (is_unsigned xs) (is_unsigned (b ∷ xs))) e

  pub based-signed : is_sign b ≡ true → (r : Option ℕ) → IsLongestFront is_unsigned bs r → IsLongestFront is_based bytes (option_map (λ n. n + 1) r)
  based-signed e r h = up_one is_based r (front-goes_on is_based is_unsigned true b bs refl (λ xs. based_on true e xs) refl r h)

  pub based-plain : is_sign b ≡ false → (r : Option ℕ) → IsLongestFront is_unsigned bytes r → IsLongestFront is_based bytes r
  based-plain e r h = same_front is_based is_unsigned bytes (λ m. subst (λ x. is_based (take m x) ≡ is_unsigned (take m x)) (sym are) (by m)) r h
    where
      by : (m : ℕ) → is_based (take m (b ∷ bs)) ≡ is_unsigned (take m (b ∷ bs))
      by zero = refl
      by (suc m) = based_on false e (take m bs)

module _ (base : ℕ) where
  spaced_on : (b : ℕ) (xs : List ℕ) (t : Bool) → is_space b ≡ t → is_spaced base (b ∷ xs) ≡ cond t (is_spaced base xs) (is_digits base (b ∷ xs))
  spaced_on b xs t e = ap (λ u. cond u (is_spaced base xs) (is_digits base (b ∷ xs))) e

  further : (k l : ℕ) (r : Option ℕ) → suc k ≡ l → option_map suc (option_map (λ n. n + k) r) ≡ option_map (λ n. n + l) r
  further k l None e = refl
  further k l (Some n) e = ap Some (let z : suc (n + k) ≡ n + l = omega (arith, e) in z)

  same_place : (r : Option ℕ) → r ≡ option_map (λ n. n + 0) r
  same_place None = refl
  same_place (Some n) = ap Some (let z : n ≡ n + 0 = omega arith in z)

  spaced : (bytes : List ℕ) (r : Option ℕ) → IsLongestFront (is_digits base) (drop (prefix_len is_space bytes) bytes) r → IsLongestFront (is_spaced base) bytes (option_map (λ n. n + prefix_len is_space bytes) r)
  spaced [] None h = front_of_none (is_spaced base) refl
  spaced [] (Some n) h = absurd (empty_front n (is_digits base) refl h.1)
  spaced (b ∷ bs) r h = by (is_space b) refl h (spaced bs r)
    where
      by : (t : Bool) → is_space b ≡ t → IsLongestFront (is_digits base) (drop (cond t (1 + prefix_len is_space bs) 0) (b ∷ bs)) r →
          (IsLongestFront (is_digits base) (drop (prefix_len is_space bs) bs) r → IsLongestFront (is_spaced base) bs (option_map (λ n. n + prefix_len is_space bs) r)) →
          IsLongestFront (is_spaced base) (b ∷ bs) (option_map (λ n. n + cond t (1 + prefix_len is_space bs) 0) r)
      by true e h ih =
          let up : suc (prefix_len is_space bs) ≡ 1 + prefix_len is_space bs = omega arith in
          let inner = ih (subst (λ k. IsLongestFront (is_digits base) (drop k (b ∷ bs)) r) (sym up) h) in
          subst (λ x. IsLongestFront (is_spaced base) (b ∷ bs) x) (further (prefix_len is_space bs) (1 + prefix_len is_space bs) r up)
          (front-goes_on (is_spaced base) (is_spaced base) true b bs refl (λ xs. spaced_on b xs true e) refl (option_map (λ n. n + prefix_len is_space bs) r) inner)
      by false e h ih = subst (λ x. IsLongestFront (is_spaced base) (b ∷ bs) x) (same_place r) (same_front (is_spaced base) (is_digits base) (b ∷ bs) agree r h)
        where
          agree : (m : ℕ) → is_spaced base (take m (b ∷ bs)) ≡ is_digits base (take m (b ∷ bs))
          agree zero = refl
          agree (suc m) = spaced_on b (take m bs) false e

  pub spaced-run : (bytes : List ℕ) (k : ℕ) (r : Option ℕ) → k ≡ run_len is_space bytes → IsLongestFront (is_digits base) (drop k bytes) r → IsLongestFront (is_spaced base) bytes (option_map (λ n. n + k) r)
  spaced-run bytes k r e h =
      let same : k ≡ prefix_len is_space bytes = e ∙ length-take-le (prefix_len is_space bytes) bytes (prefix_len-le-length is_space bytes) in
      subst (λ x. IsLongestFront (is_spaced base) bytes (option_map (λ n. n + x) r)) (sym same) (spaced bytes r (subst (λ x. IsLongestFront (is_digits base) (drop x bytes) r) same h))
