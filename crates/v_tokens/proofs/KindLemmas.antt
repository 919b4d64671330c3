-- The longest token, by its first byte.
use Rattle.std.proofs.Common.{◌≡◌, ℕ, zero, suc, ◌+◌, ◌-◌, ◌<◌, ◌≤◌, ◌==◌, ◌&&◌, ◌||◌, Bool, true, false, cond, List, [], ◌∷◌, length, take, drop, Option, None, Some, refl, sym, ◌∙◌, ap, subst, arith}
use Rattle.std.proofs.lemmas.Bool.{eq-eqb, eqb-true}
use Rattle.std.specs.Option.{option_map}
use Rattle.std.specs.List.{list_all}
use Rattle.text_scan.specs.Pieces.{longest_of}
use Rattle.text_scan.specs.Words.{run_len, kind_in}
use Rattle.text_scan.specs.Fronts.{IsLongestFront}
use Rattle.text_scan.proofs.Longest.{run_longest, longest_of-same}
use Rattle.text_scan.proofs.FrontLemmas.{front-longest, front-stops, front-goes_on, front_of_none, front_of_run}
use Rattle.v_tokens.specs.Kinds.{number_of, MARKS}
use Rattle.v_tokens.specs.Rules.{begins_word, is_decimal, is_word, is_number, is_base, is_digit_after, is_space, is_digits, is_spaced, is_unsigned, is_based, word_kind, if_so, kind_of}
use Rattle.v_tokens.specs.declared.kinds.TokenKind.{TokenKind}
use Rattle.v_tokens.specs.declared.kinds.TokenKind.TheVariants.{Decimal, Based}

if_so-is : (t : Bool) (kind : ℕ) → if_so t kind ≡ cond t (Some kind) None
if_so-is true kind = refl
if_so-is false kind = refl

first_of : (t : Bool) (x y : Option ℕ) → t ≡ true → cond t x y ≡ x
first_of true x y e = refl
first_of false x y e = absurd (cc)

other_of : (t : Bool) (x y : Option ℕ) → t ≡ false → cond t x y ≡ y
other_of true x y e = absurd (cc)
other_of false x y e = refl

pub word_is : (b : ℕ) (xs : List ℕ) → begins_word b ≡ true → kind_of (b ∷ xs) ≡ cond (list_all is_word xs) (Some (word_kind (b ∷ xs))) None
word_is b xs e = first_of (begins_word b) _ _ e ∙ if_so-is (list_all is_word xs) (word_kind (b ∷ xs))

pub number_is : (b : ℕ) (xs : List ℕ) → begins_word b ≡ false → is_decimal b ≡ true → kind_of (b ∷ xs) ≡ cond (list_all is_number xs) (Some (number_of Decimal)) None
number_is b xs e d = other_of (begins_word b) _ _ e ∙ first_of (is_decimal b) _ _ d ∙ if_so-is (list_all is_number xs) (number_of Decimal)

pub based_is : (b : ℕ) (xs : List ℕ) → begins_word b ≡ false → is_decimal b ≡ false → (b == 39) ≡ true → kind_of (b ∷ xs) ≡ cond (is_based xs) (Some (number_of Based)) None
based_is b xs e d q = other_of (begins_word b) _ _ e ∙ other_of (is_decimal b) _ _ d ∙ first_of (b == 39) _ _ q ∙ if_so-is (is_based xs) (number_of Based)

pub mark_is : (b : ℕ) (xs : List ℕ) → begins_word b ≡ false → is_decimal b ≡ false → (b == 39) ≡ false → kind_of (b ∷ xs) ≡ kind_in MARKS (b ∷ xs)
mark_is b xs e d q = other_of (begins_word b) _ _ e ∙ other_of (is_decimal b) _ _ d ∙ other_of (b == 39) _ _ q

pub word_longest : (b : ℕ) (bs : List ℕ) → begins_word b ≡ true → longest_of kind_of (b ∷ bs) ≡ Some (word_kind (take (1 + run_len is_word bs) (b ∷ bs)), 1 + run_len is_word bs)
word_longest b bs e =
    run_longest is_word kind_of word_kind b bs (λ xs. word_is b xs e)
    ∙ ap (λ n. Some (word_kind (take n (b ∷ bs)), n)) (let z : suc (run_len is_word bs) ≡ 1 + run_len is_word bs = omega arith in z)

pub number_longest : (b : ℕ) (bs : List ℕ) → begins_word b ≡ false → is_decimal b ≡ true → longest_of kind_of (b ∷ bs) ≡ Some (number_of Decimal, 1 + run_len is_number bs)
number_longest b bs e d =
    run_longest is_number kind_of (λ _. number_of Decimal) b bs (λ xs. number_is b xs e d)
    ∙ ap (λ n. Some (number_of Decimal, n)) (let z : suc (run_len is_number bs) ≡ 1 + run_len is_number bs = omega arith in z)

pub based_longest : (b : ℕ) (bs : List ℕ) → begins_word b ≡ false → is_decimal b ≡ false → (b == 39) ≡ true → (r : Option ℕ) → IsLongestFront is_based bs r → longest_of kind_of (b ∷ bs) ≡ option_map (λ n. (number_of Based, suc n)) r
based_longest b bs e d q r h = front-longest kind_of is_based (number_of Based) b bs (λ xs. based_is b xs e d q) r h

pub mark_longest : (b : ℕ) (bs : List ℕ) → begins_word b ≡ false → is_decimal b ≡ false → (b == 39) ≡ false → longest_of (kind_in MARKS) (b ∷ bs) ≡ longest_of kind_of (b ∷ bs)
mark_longest b bs e d q = longest_of-same (kind_in MARKS) kind_of (b ∷ bs) by
  where
    by : (m : ℕ) → 0 < m → m ≤ length (b ∷ bs) → kind_in MARKS (take m (b ∷ bs)) ≡ kind_of (take m (b ∷ bs))
    by zero s l = absurd (omega arith)
    by (suc m) s l = sym (mark_is b (take m bs) e d q)

pub none_longest : longest_of kind_of [] ≡ None
none_longest = refl

-- what the code answers, by the first byte

module _ (b : ℕ) (bs bytes : List ℕ) (are : bytes ≡ b ∷ bs) where
  pub word_answer : (kind n : ℕ) → begins_word b ≡ true → n ≡ run_len is_word bs → kind ≡ word_kind (take (1 + n) bytes) → Some (kind, 1 + n) ≡ longest_of kind_of bytes
  word_answer kind n e is k = sym (
      ap (longest_of kind_of) are ∙ word_longest b bs e
      ∙ ap (λ m. Some (word_kind (take (1 + m) (b ∷ bs)), 1 + m)) (sym is)
      ∙ ap (λ x. Some (word_kind (take (1 + n) x), 1 + n)) (sym are)
      ∙ ap (λ x. Some (x, 1 + n)) (sym k))

  pub number_answer : (n : ℕ) → begins_word b ≡ false → is_decimal b ≡ true → n ≡ run_len is_number bs → Some (number_of Decimal, 1 + n) ≡ longest_of kind_of bytes
  number_answer n e d is = sym (ap (longest_of kind_of) are ∙ number_longest b bs e d ∙ ap (λ m. Some (number_of Decimal, 1 + m)) (sym is))

  quote_is : b ≡ 39 → (b == 39) ≡ true
  quote_is q = eq-eqb b 39 q

  pub based_some : (n : ℕ) → begins_word b ≡ false → is_decimal b ≡ false → b ≡ 39 → IsLongestFront is_based bs (Some n) → Some (number_of Based, n + 1) ≡ longest_of kind_of bytes
  based_some n e d q h = sym (ap (longest_of kind_of) are ∙ based_longest b bs e d (quote_is q) (Some n) h ∙ ap (λ m. Some (number_of Based, m)) (let z : suc n ≡ n + 1 = omega arith in z))

  pub based_none : begins_word b ≡ false → is_decimal b ≡ false → b ≡ 39 → IsLongestFront is_based bs None → None ≡ longest_of kind_of bytes
  based_none e d q h = sym (ap (longest_of kind_of) are ∙ based_longest b bs e d (quote_is q) None h)

  pub mark_answer : (r : Option (ℕ × ℕ)) (ws : List (List ℕ × ℕ)) → begins_word b ≡ false → is_decimal b ≡ false → (b ≡ 39 → ⊥) → ws ≡ MARKS → r ≡ longest_of (kind_in ws) bytes → r ≡ longest_of kind_of bytes
  mark_answer r ws e d q are_marks h =
      h ∙ ap (λ x. longest_of (kind_in x) bytes) are_marks ∙ ap (longest_of (kind_in MARKS)) are ∙ mark_longest b bs e d (not_quote (b == 39) refl) ∙ ap (longest_of kind_of) (sym are)
    where
      not_quote : (t : Bool) → (b == 39) ≡ t → t ≡ false
      not_quote true f = absurd (q (eqb-true b 39 f))
      not_quote false f = refl
