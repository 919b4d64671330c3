-- The longest token, by its first byte.
use Rattle.std.proofs.Common.{◌≡◌, ℕ, zero, suc, ◌+◌, ◌<◌, ◌≤◌, ◌==◌, Bool, true, false, cond, List, ◌∷◌, length, take, Option, None, Some, refl, sym, ◌∙◌, ap, arith}
use Rattle.std.proofs.lemmas.Bool.{eq-eqb, eqb-true}
use Rattle.std.specs.Option.{option_map}
use Rattle.std.specs.List.{list_all}
use Rattle.text_scan.specs.Pieces.{longest_of}
use Rattle.text_scan.specs.Words.{run_len, kind_in}
use Rattle.text_scan.specs.Fronts.{IsLongestFront}
use Rattle.text_scan.proofs.Longest.{run_longest, longest_of-same}
use Rattle.text_scan.proofs.FrontLemmas.{front-longest}
use Rattle.c_tokens.specs.Kinds.{number_of, MARKS}
use Rattle.c_tokens.specs.Rules.{begins_word, is_decimal, is_word, is_after_digit, is_after_quote, is_after_double_quote, word_kind, if_so, kind_of}
use Rattle.c_tokens.specs.declared.kinds.TokenKind.TheVariants.{Integer, Character, StringLiteral}

pub is-not : (b c : ℕ) → (b ≡ c → ⊥) → (b == c) ≡ false
is-not b c h = by (b == c) refl
  where
    by : (t : Bool) → (b == c) ≡ t → t ≡ false
    by true e = absurd (h (eqb-true b c e))
    by false e = refl

if_so-is : (t : Bool) (kind : ℕ) → if_so t kind ≡ cond t (Some kind) None
if_so-is true kind = refl
if_so-is false kind = refl

first_of : (t : Bool) (x y : Option ℕ) → t ≡ true → cond t x y ≡ x
first_of true x y e = refl
first_of false x y e = absurd (cc)

other_of : (t : Bool) (x y : Option ℕ) → t ≡ false → cond t x y ≡ y
other_of true x y e = absurd (cc)
other_of false x y e = refl

word_is : (b : ℕ) (xs : List ℕ) → begins_word b ≡ true → kind_of (b ∷ xs) ≡ cond (list_all is_word xs) (Some (word_kind (b ∷ xs))) None
word_is b xs e = first_of (begins_word b) _ _ e ∙ if_so-is (list_all is_word xs) (word_kind (b ∷ xs))

integer_is : (b : ℕ) (xs : List ℕ) → begins_word b ≡ false → is_decimal b ≡ true → kind_of (b ∷ xs) ≡ cond (is_after_digit b xs) (Some (number_of Integer)) None
integer_is b xs e d = other_of (begins_word b) _ _ e ∙ first_of (is_decimal b) _ _ d ∙ if_so-is (is_after_digit b xs) (number_of Integer)

character_is : (b : ℕ) (xs : List ℕ) → begins_word b ≡ false → is_decimal b ≡ false → (b == 39) ≡ true → kind_of (b ∷ xs) ≡ cond (is_after_quote xs) (Some (number_of Character)) None
character_is b xs e d q = other_of (begins_word b) _ _ e ∙ other_of (is_decimal b) _ _ d ∙ first_of (b == 39) _ _ q ∙ if_so-is (is_after_quote xs) (number_of Character)

string_is : (b : ℕ) (xs : List ℕ) → begins_word b ≡ false → is_decimal b ≡ false → (b == 39) ≡ false → (b == 34) ≡ true → kind_of (b ∷ xs) ≡ cond (is_after_double_quote xs) (Some (number_of StringLiteral)) None
string_is b xs e d q s =
    other_of (begins_word b) _ _ e ∙ other_of (is_decimal b) _ _ d ∙ other_of (b == 39) _ _ q ∙ first_of (b == 34) _ _ s ∙ if_so-is (is_after_double_quote xs) (number_of StringLiteral)

mark_is : (b : ℕ) (xs : List ℕ) → begins_word b ≡ false → is_decimal b ≡ false → (b == 39) ≡ false → (b == 34) ≡ false → kind_of (b ∷ xs) ≡ kind_in MARKS (b ∷ xs)
mark_is b xs e d q s = other_of (begins_word b) _ _ e ∙ other_of (is_decimal b) _ _ d ∙ other_of (b == 39) _ _ q ∙ other_of (b == 34) _ _ s

word_longest : (b : ℕ) (bs : List ℕ) → begins_word b ≡ true → longest_of kind_of (b ∷ bs) ≡ Some (word_kind (take (1 + run_len is_word bs) (b ∷ bs)), 1 + run_len is_word bs)
word_longest b bs e =
    run_longest is_word kind_of word_kind b bs (λ xs. word_is b xs e)
    ∙ ap (λ n. Some (word_kind (take n (b ∷ bs)), n)) (let z : suc (run_len is_word bs) ≡ 1 + run_len is_word bs = omega arith in z)

mark_longest : (b : ℕ) (bs : List ℕ) → begins_word b ≡ false → is_decimal b ≡ false → (b == 39) ≡ false → (b == 34) ≡ false → longest_of (kind_in MARKS) (b ∷ bs) ≡ longest_of kind_of (b ∷ bs)
mark_longest b bs e d q s = longest_of-same (kind_in MARKS) kind_of (b ∷ bs) by
  where
    by : (m : ℕ) → 0 < m → m ≤ length (b ∷ bs) → kind_in MARKS (take m (b ∷ bs)) ≡ kind_of (take m (b ∷ bs))
    by zero g l = absurd (omega arith)
    by (suc m) g l = sym (mark_is b (take m bs) e d q s)

-- what the code answers, by the first byte

module _ (b : ℕ) (bs bytes : List ℕ) (are : bytes ≡ b ∷ bs) where
  front_answer : (test : List ℕ → Bool) (kind : ℕ) → ((xs : List ℕ) → kind_of (b ∷ xs) ≡ cond (test xs) (Some kind) None) → (r : Option ℕ) → IsLongestFront test bs r →
      option_map {U = ℕ × ℕ} (λ n. (kind, n + 1)) r ≡ longest_of kind_of bytes
  front_answer test kind is r h = sym (ap (longest_of kind_of) are ∙ front-longest kind_of test kind b bs is r h ∙ one_more r)
    where
      one_more : (r : Option ℕ) → option_map {U = ℕ × ℕ} (λ n. (kind, suc n)) r ≡ option_map {U = ℕ × ℕ} (λ n. (kind, n + 1)) r
      one_more None = refl
      one_more (Some n) = ap (λ m. Some (kind, m)) (let z : suc n ≡ n + 1 = omega arith in z)

  pub word_answer : (kind n : ℕ) → begins_word b ≡ true → n ≡ run_len is_word bs → kind ≡ word_kind (take (1 + n) bytes) → Some (kind, 1 + n) ≡ longest_of kind_of bytes
  word_answer kind n e is k = sym (
      ap (longest_of kind_of) are ∙ word_longest b bs e
      ∙ ap (λ m. Some (word_kind (take (1 + m) (b ∷ bs)), 1 + m)) (sym is)
      ∙ ap (λ x. Some (word_kind (take (1 + n) x), 1 + n)) (sym are)
      ∙ ap (λ x. Some (x, 1 + n)) (sym k))

  pub integer_answer : (n : ℕ) → begins_word b ≡ false → is_decimal b ≡ true → IsLongestFront (is_after_digit b) bs (Some n) → Some (number_of Integer, n + 1) ≡ longest_of kind_of bytes
  integer_answer n e d h = front_answer (is_after_digit b) (number_of Integer) (λ xs. integer_is b xs e d) (Some n) h

  pub character_answer : begins_word b ≡ false → is_decimal b ≡ false → b ≡ 39 → (r : Option ℕ) → IsLongestFront is_after_quote bs r →
      option_map {U = ℕ × ℕ} (λ n. (number_of Character, n + 1)) r ≡ longest_of kind_of bytes
  character_answer e d q r h = front_answer is_after_quote (number_of Character) (λ xs. character_is b xs e d (eq-eqb b 39 q)) r h

  pub string_answer : begins_word b ≡ false → is_decimal b ≡ false → (b ≡ 39 → ⊥) → b ≡ 34 → (r : Option ℕ) → IsLongestFront is_after_double_quote bs r →
      option_map {U = ℕ × ℕ} (λ n. (number_of StringLiteral, n + 1)) r ≡ longest_of kind_of bytes
  string_answer e d q s r h = front_answer is_after_double_quote (number_of StringLiteral) (λ xs. string_is b xs e d (is-not b 39 q) (eq-eqb b 34 s)) r h

  pub mark_answer : (r : Option (ℕ × ℕ)) (ws : List (List ℕ × ℕ)) → begins_word b ≡ false → is_decimal b ≡ false → (b ≡ 39 → ⊥) → (b ≡ 34 → ⊥) → ws ≡ MARKS →
      r ≡ longest_of (kind_in ws) bytes → r ≡ longest_of kind_of bytes
  mark_answer r ws e d q s are_marks h =
      h ∙ ap (λ x. longest_of (kind_in x) bytes) are_marks ∙ ap (longest_of (kind_in MARKS)) are ∙ mark_longest b bs e d (is-not b 39 q) (is-not b 34 s) ∙ ap (longest_of kind_of) (sym are)
