-- The longest integer, from its suffix outwards.
use Rattle.std.proofs.Common.{◌≡◌, ℕ, zero, suc, ◌+◌, ◌<◌, ◌≤◌, ◌==◌, Bool, true, false, cond, List, [], ◌∷◌, length, take, drop, nat_lt, Option, None, Some, refl, sym, ◌∙◌, ap, subst, arith}
use Rattle.std.specs.Option.{is_some}
use Rattle.std.proofs.lemmas.Bool.{eq-eqb, ltb-true, ltb-false}
use Rattle.text_scan.specs.Pieces.{or_shorter, longest_within, longest_of}
use Rattle.text_scan.specs.Words.{run_len, kind_in}
use Rattle.text_scan.specs.Fronts.{IsLongestFront}
use Rattle.c_tokens.specs.Kinds.{SUFFIXES}
use Rattle.c_tokens.specs.Rules.{is_digit, is_suffix, is_digits, is_x, is_after_x, is_after_zero, is_after_digit}
use Rattle.c_tokens.specs.declared.rules.Base.{Base}
use Rattle.c_tokens.specs.declared.rules.Base.TheVariants.{Octal, Decimal, Hexadecimal}
use Rattle.c_tokens.proofs.FrontLemmas.{same_front, begun-stops, begun-goes_on, begun-or_nothing, begun-or_more, after_run}

abbrev len_found : Option (ℕ × ℕ) → ℕ
len_found None = 0
len_found (Some found) = found.1

-- what the longest token says of each front
pub record IsFound (kind_of : List ℕ → Option ℕ) (most : ℕ) (bytes : List ℕ) (n : ℕ) : Type 0 where
  pub some : 0 < n
  pub inside : n ≤ most
  pub token : is_some (kind_of (take n bytes)) ≡ true
  pub longer : (m : ℕ) → n < m → m ≤ most → is_some (kind_of (take m bytes)) ≡ false

IsMissing : (List ℕ → Option ℕ) → ℕ → List ℕ → Type 0
IsMissing kind_of most bytes = (m : ℕ) → 0 < m → m ≤ most → is_some (kind_of (take m bytes)) ≡ false

module _ (kind_of : List ℕ → Option ℕ) (bytes : List ℕ) where
  within-none : (most : ℕ) → longest_within kind_of most bytes ≡ None → (m : ℕ) → 0 < m → m ≤ most → is_some (kind_of (take m bytes)) ≡ false
  within-none zero e m g l = absurd (omega arith)
  within-none (suc most) e m g l = by (kind_of (take (suc most) bytes)) refl e (within-none most)
    where
      by : (k : Option ℕ) → kind_of (take (suc most) bytes) ≡ k → or_shorter k (suc most) (longest_within kind_of most bytes) ≡ None →
          (longest_within kind_of most bytes ≡ None → (m : ℕ) → 0 < m → m ≤ most → is_some (kind_of (take m bytes)) ≡ false) → is_some (kind_of (take m bytes)) ≡ false
      by (Some k) is e ih = absurd (cc)
      by None is e ih = last (nat_lt m (suc most)) refl
        where
          last : (t : Bool) → nat_lt m (suc most) ≡ t → is_some (kind_of (take m bytes)) ≡ false
          last true f = let less = ltb-true m (suc most) f in ih e m g (omega arith)
          last false f = (let same : m ≡ suc most = (let more = ltb-false m (suc most) f in omega arith) in ap (λ n. is_some (kind_of (take n bytes))) same ∙ ap is_some is)

  within-some : (most kind n : ℕ) → longest_within kind_of most bytes ≡ Some (kind, n) → IsFound kind_of most bytes n
  within-some zero kind n e = absurd (cc)
  within-some (suc most) kind n e = by (kind_of (take (suc most) bytes)) refl e (within-some most kind n)
    where
      by : (k : Option ℕ) → kind_of (take (suc most) bytes) ≡ k → or_shorter k (suc most) (longest_within kind_of most bytes) ≡ Some (kind, n) →
          (longest_within kind_of most bytes ≡ Some (kind, n) → IsFound kind_of most bytes n) → IsFound kind_of (suc most) bytes n
      by (Some k) is e ih =
          let same : suc most ≡ n = ap len_found e in
          record {
            some = omega arith;
            inside = omega arith;
            token = ap (λ x. is_some (kind_of (take x bytes))) (sym same) ∙ ap is_some is;
            longer = λ m g l. absurd (omega arith);
          }
      by None is e ih =
          let h = ih e in
          let i = h.inside in
          record {
            some = h.some;
            inside = omega arith;
            token = h.token;
            longer = λ m g l. last m g l (nat_lt m (suc most)) refl h;
          }
        where
          last : (m : ℕ) → n < m → m ≤ suc most → (t : Bool) → nat_lt m (suc most) ≡ t → IsFound kind_of most bytes n → is_some (kind_of (take m bytes)) ≡ false
          last m g l true f h = let less = ltb-true m (suc most) f in h.longer m g (omega arith)
          last m g l false f h = (let same : m ≡ suc most = (let more = ltb-false m (suc most) f in omega arith) in ap (λ x. is_some (kind_of (take x bytes))) same ∙ ap is_some is)

suffix_of : (bytes : List ℕ) (m : ℕ) → 0 < m → m ≤ length bytes → is_suffix (take m bytes) ≡ is_some (kind_in SUFFIXES (take m bytes))
suffix_of bytes zero g l = absurd (omega arith)
suffix_of [] (suc m) g l = absurd (omega arith)
suffix_of (b ∷ bs) (suc m) g l = refl

pub suffix-some : (bytes : List ℕ) (kind n : ℕ) → longest_of (kind_in SUFFIXES) bytes ≡ Some (kind, n) → IsLongestFront is_suffix bytes (Some n)
suffix-some bytes kind n e =
    let h = within-some (kind_in SUFFIXES) bytes (length bytes) kind n e in
    (h.inside, suffix_of bytes n h.some h.inside ∙ h.token, λ m g l. suffix_of bytes m (let s = h.some in omega arith) l ∙ h.longer m g l)

pub suffix-none : (bytes : List ℕ) → longest_of (kind_in SUFFIXES) bytes ≡ None → IsLongestFront is_suffix bytes (Some 0)
suffix-none bytes e = (omega arith, refl, λ m g l. suffix_of bytes m g l ∙ within-none (kind_in SUFFIXES) bytes (length bytes) e m g l)

pub digits-run : (base : Base) (bytes : List ℕ) (run suffix : ℕ) → run ≡ run_len (is_digit base) bytes → IsLongestFront is_suffix (drop run bytes) (Some suffix) → IsLongestFront (is_digits base) bytes (Some (suffix + run))
digits-run base bytes run suffix e h = after_run (is_digit base) (is_digits base) is_suffix refl (λ b xs. refl) bytes run (Some suffix) e h

module _ (b : ℕ) (bs bytes : List ℕ) (are : bytes ≡ b ∷ bs) where
  pub x-stops : is_digit Hexadecimal b ≡ false → IsLongestFront is_after_x bytes None
  x-stops e = begun-stops is_after_x b bs bytes are (is_digits Hexadecimal) (is_digit Hexadecimal b) refl (λ xs. refl) e

  pub x-goes_on : is_digit Hexadecimal b ≡ true → (n : ℕ) → IsLongestFront (is_digits Hexadecimal) bs (Some n) → IsLongestFront is_after_x bytes (Some (n + 1))
  x-goes_on e n h = begun-goes_on is_after_x b bs bytes are (is_digits Hexadecimal) (is_digit Hexadecimal b) refl (λ xs. refl) e (Some n) h

  zero_on : (t : Bool) → is_x b ≡ t → (xs : List ℕ) → is_after_zero (b ∷ xs) ≡ cond t (is_after_x xs) (is_digits Octal (b ∷ xs))
  zero_on t e xs = ap (λ u. cond u (is_after_x xs) (is_digits Octal (b ∷ xs))) e

  pub zero-alone : is_x b ≡ true → IsLongestFront is_after_x bs None → IsLongestFront is_after_zero bytes (Some 0)
  zero-alone e h = begun-or_nothing is_after_zero b bs bytes are is_after_x refl (zero_on true e) h

  pub zero-x : is_x b ≡ true → (n : ℕ) → IsLongestFront is_after_x bs (Some n) → IsLongestFront is_after_zero bytes (Some (n + 1))
  zero-x e n h = begun-or_more is_after_zero b bs bytes are is_after_x refl (zero_on true e) n h

  pub zero-octal : is_x b ≡ false → (r : Option ℕ) → IsLongestFront (is_digits Octal) bytes r → IsLongestFront is_after_zero bytes r
  zero-octal e r h = same_front is_after_zero (is_digits Octal) bytes (λ m. subst (λ x. is_after_zero (take m x) ≡ is_digits Octal (take m x)) (sym are) (by m)) r h
    where
      by : (m : ℕ) → is_after_zero (take m (b ∷ bs)) ≡ is_digits Octal (take m (b ∷ bs))
      by zero = refl
      by (suc m) = zero_on false e (take m bs)

pub zero-ends : (bytes : List ℕ) → bytes ≡ [] → IsLongestFront is_after_zero bytes (Some 0)
zero-ends bytes e = subst (λ x. IsLongestFront is_after_zero x (Some 0)) (sym e) (omega arith, refl, λ m g l. absurd (omega arith))

module _ (first : ℕ) (bytes : List ℕ) where
  digit_on : (t : Bool) → (first == 48) ≡ t → (xs : List ℕ) → is_after_digit first xs ≡ cond t (is_after_zero xs) (is_digits Decimal xs)
  digit_on t e xs = ap (λ u. cond u (is_after_zero xs) (is_digits Decimal xs)) e

  pub digit-zero : first ≡ 48 → (r : Option ℕ) → IsLongestFront is_after_zero bytes r → IsLongestFront (is_after_digit first) bytes r
  digit-zero e r h = same_front (is_after_digit first) is_after_zero bytes (λ m. digit_on true (eq-eqb first 48 e) (take m bytes)) r h

  pub digit-decimal : (first == 48) ≡ false → (r : Option ℕ) → IsLongestFront (is_digits Decimal) bytes r → IsLongestFront (is_after_digit first) bytes r
  digit-decimal e r h = same_front (is_after_digit first) (is_digits Decimal) bytes (λ m. digit_on false e (take m bytes)) r h
