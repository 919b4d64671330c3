-- Numbers grow with their digits.
use Rattle.std.proofs.Common.{◌≡◌, ℕ, ◌+◌, ◌*◌, ◌^◌, ◌<◌, ◌≤◌, cond, List, [], ◌∷◌, ◌++◌, take, drop, filter, get_or, length, refl, sym, ◌∙◌, ap, subst, arith, append-nil}
use Rattle.std.proofs.lemmas.List.{take-append-drop}
use Rattle.std.proofs.lemmas.List.Elements.{filter-append, filter_more}
use Rattle.std.proofs.lemmas.Int.Digits.{digits_value_push}
use Rattle.std.proofs.lemmas.Bool.{lt-ltb, le-ltb}
use Rattle.std.specs.Char.{digit_value}
use Rattle.std.specs.Str.Parse.{digits_value, digits_value_after}
use Rattle.src_text.specs.Digits.{is_digit, value_of}

after_append : (base n : ℕ) (xs ys : List ℕ) → digits_value_after base n (xs ++ ys) ≡ digits_value_after base (digits_value_after base n xs) ys
after_append base n [] ys = refl
after_append base n (x ∷ xs) ys = after_append base (n * base + digit_value x) xs ys

after_grows : (base n : ℕ) (ds : List ℕ) → 0 < base → n ≤ digits_value_after base n ds
after_grows base n [] h = omega arith
after_grows base n (d ∷ ds) h = let w = after_grows base (n * base + digit_value d) ds h in let m = up base n h in omega arith
  where
    up : (base n : ℕ) → 0 < base → n ≤ n * base
    up base n h = grind arith

-- the first bytes write no more than all of them
pub value_of-take : (base : ℕ) (bytes : List ℕ) (i : ℕ) → 0 < base → value_of base (take i bytes) ≤ value_of base bytes
value_of-take base bytes i h =
    let first = filter (is_digit base) (take i bytes) in
    let e : filter (is_digit base) bytes ≡ first ++ filter (is_digit base) (drop i bytes) =
    ap (filter (is_digit base)) (sym (take-append-drop i bytes)) ∙ filter-append (is_digit base) (take i bytes) (drop i bytes) in
    subst (λ n. digits_value base first ≤ n) (sym (ap (digits_value base) e ∙ after_append base 0 first (filter (is_digit base) (drop i bytes))))
    (after_grows base (digits_value base first) (filter (is_digit base) (drop i bytes)) h)

-- one more digit
pub value_of-digit : (base : ℕ) (bytes : List ℕ) (i : ℕ) → i < length bytes → digit_value (get_or bytes i 0) < base →
    value_of base (take (i + 1) bytes) ≡ value_of base (take i bytes) * base + digit_value (get_or bytes i 0)
value_of-digit base bytes i l d =
    ap (digits_value base) (filter_more (is_digit base) bytes i 0 l ∙ ap (λ b. filter (is_digit base) (take i bytes) ++ cond b (get_or bytes i 0 ∷ []) []) (lt-ltb (digit_value (get_or bytes i 0)) base d))
    ∙ digits_value_push base (filter (is_digit base) (take i bytes)) (get_or bytes i 0)

-- one more byte that is no digit
pub value_of-other : (base : ℕ) (bytes : List ℕ) (i : ℕ) → i < length bytes → base ≤ digit_value (get_or bytes i 0) →
    value_of base (take (i + 1) bytes) ≡ value_of base (take i bytes)
value_of-other base bytes i l d =
    ap (digits_value base) (filter_more (is_digit base) bytes i 0 l ∙ ap (λ b. filter (is_digit base) (take i bytes) ++ cond b (get_or bytes i 0 ∷ []) []) (le-ltb (digit_value (get_or bytes i 0)) base d)
    ∙ append-nil (filter (is_digit base) (take i bytes)))

module _ (base : ℕ) (bytes : List ℕ) (i value digit : ℕ) (some : 0 < base) (inside : i < length bytes) (is : value ≡ value_of base (take i bytes)) (small : digit_value (get_or bytes i 0) < base) (d : digit ≡ digit_value (get_or bytes i 0)) where
  pub with_digit-is : value * base + digit ≡ value_of base (take (i + 1) bytes)
  with_digit-is = ap (λ v. v * base + digit) is ∙ ap (λ x. value_of base (take i bytes) * base + x) d ∙ sym (value_of-digit base bytes i inside small)

  -- where the whole number fits, so does each of its fronts
  pub with_digit-fits : value_of base bytes < 2 ^ 128 → value * base + digit < 2 ^ 128
  with_digit-fits h = let e = with_digit-is in let w = value_of-take base bytes (i + 1) some in omega (arith, e, w, h)
