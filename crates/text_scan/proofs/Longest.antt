-- The longest token, for the readers of each language.
use Rattle.std.proofs.Common.{◌≡◌, ◌≢◌, ℕ, zero, suc, ◌+◌, ◌<◌, ◌≤◌, ◌&&◌, Bool, true, false, cond, List, [], ◌∷◌, length, take, nat_lt, nat_le, nat_eq, min, length-take, Option, None, Some, refl, sym, ◌∙◌, ap, subst, arith}
use Rattle.std.specs.List.{starts_with, prefix_len, list_all}
use Rattle.std.proofs.lemmas.List.{length-take-le}
use Rattle.std.proofs.lemmas.List.Sums.{prefix_len-le-length}
use Rattle.std.specs.Str.{bytes_eq}
use Rattle.std.proofs.lemmas.Slice.Eq.{bytes_eq-Decides}
use Rattle.std.proofs.lemmas.Bool.{ltb-true, ltb-false, leb-true, and_parts}
use Rattle.text_scan.specs.Pieces.{or_shorter, longest_within, longest_of}
use Rattle.text_scan.specs.Words.{kind_in, is_longest_first, first_in, run_len}

-- two languages that agree on the fronts of the bytes have the same longest token
pub longest_within-same : (j k : List ℕ → Option ℕ) (n : ℕ) (bytes : List ℕ) → ((m : ℕ) → 0 < m → m ≤ n → j (take m bytes) ≡ k (take m bytes)) → longest_within j n bytes ≡ longest_within k n bytes
longest_within-same j k zero bytes h = refl
longest_within-same j k (suc n) bytes h =
    ap (λ x. or_shorter x (suc n) (longest_within j n bytes)) (h (suc n) (omega arith) (omega arith))
    ∙ ap (λ x. or_shorter (k (take (suc n) bytes)) (suc n) x) (longest_within-same j k n bytes (λ m some l. h m some (omega arith)))

pub longest_of-same : (j k : List ℕ → Option ℕ) (bytes : List ℕ) → ((m : ℕ) → 0 < m → m ≤ length bytes → j (take m bytes) ≡ k (take m bytes)) → longest_of j bytes ≡ longest_of k bytes
longest_of-same j k bytes h = longest_within-same j k (length bytes) bytes h

-- no front of the bytes is a token
longest_within-none : (kind_of : List ℕ → Option ℕ) (n : ℕ) (bytes : List ℕ) → ((m : ℕ) → 0 < m → m ≤ n → kind_of (take m bytes) ≡ None) → longest_within kind_of n bytes ≡ None
longest_within-none kind_of zero bytes h = refl
longest_within-none kind_of (suc n) bytes h =
    ap (λ x. or_shorter x (suc n) (longest_within kind_of n bytes)) (h (suc n) (omega arith) (omega arith))
    ∙ longest_within-none kind_of n bytes (λ m some l. h m some (omega arith))

pub longest_of-none : (kind_of : List ℕ → Option ℕ) (bytes : List ℕ) → ((m : ℕ) → 0 < m → m ≤ length bytes → kind_of (take m bytes) ≡ None) → longest_of kind_of bytes ≡ None
longest_of-none kind_of bytes h = longest_within-none kind_of (length bytes) bytes h

-- the first n bytes are a token, and no longer front is one
longest_within-is : (kind_of : List ℕ → Option ℕ) (most : ℕ) (bytes : List ℕ) (kind n : ℕ) → 0 < n → n ≤ most → kind_of (take n bytes) ≡ Some kind →
    ((m : ℕ) → n < m → m ≤ most → kind_of (take m bytes) ≡ None) → longest_within kind_of most bytes ≡ Some (kind, n)
longest_within-is kind_of zero bytes kind n some l is longer = absurd (omega arith)
longest_within-is kind_of (suc most) bytes kind n some l is longer = by (nat_lt n (suc most)) refl (longest_within-is kind_of most bytes kind n some)
  where
    by : (t : Bool) → nat_lt n (suc most) ≡ t →
        (n ≤ most → kind_of (take n bytes) ≡ Some kind → ((m : ℕ) → n < m → m ≤ most → kind_of (take m bytes) ≡ None) → longest_within kind_of most bytes ≡ Some (kind, n)) →
        or_shorter (kind_of (take (suc most) bytes)) (suc most) (longest_within kind_of most bytes) ≡ Some (kind, n)
    by true e ih =
        let lt = ltb-true n (suc most) e in
        ap (λ x. or_shorter x (suc most) (longest_within kind_of most bytes)) (longer (suc most) lt (omega arith))
        ∙ ih (omega arith) is (λ m a b. longer m a (omega arith))
    by false e ih =
        let same : n ≡ suc most = (let ge = ltb-false n (suc most) e in omega arith) in
        ap (λ x. or_shorter (kind_of (take x bytes)) x (longest_within kind_of most bytes)) (sym same)
        ∙ ap (λ x. or_shorter x n (longest_within kind_of most bytes)) is

pub longest_of-is : (kind_of : List ℕ → Option ℕ) (bytes : List ℕ) (kind n : ℕ) → 0 < n → n ≤ length bytes → kind_of (take n bytes) ≡ Some kind →
    ((m : ℕ) → n < m → m ≤ length bytes → kind_of (take m bytes) ≡ None) → longest_of kind_of bytes ≡ Some (kind, n)
longest_of-is kind_of bytes kind n some l is longer = longest_within-is kind_of (length bytes) bytes kind n some l is longer

-- tables of words

cond_true : (t : Bool) (x y : Option ℕ) → t ≡ true → cond t x y ≡ x
cond_true true x y h = refl
cond_true false x y h = absurd (cc)

cond_false : (t : Bool) (x y : Option ℕ) → t ≡ false → cond t x y ≡ y
cond_false true x y h = absurd (cc)
cond_false false x y h = refl

same_bytes : (a b : List ℕ) → a ≡ b → bytes_eq a b ≡ true
same_bytes a b e = (bytes_eq-Decides a b).1 e

other_bytes : (a b : List ℕ) → a ≢ b → bytes_eq a b ≡ false
other_bytes a b ne = by (bytes_eq a b) refl
  where
    by : (t : Bool) → bytes_eq a b ≡ t → t ≡ false
    by true e = absurd (ne ((bytes_eq-Decides a b).0 e))
    by false e = refl

-- bytes longer than each word are none of them
none_longer : (most : ℕ) (ws : List (List ℕ × ℕ)) (bytes : List ℕ) → is_longest_first most ws ≡ true → most < length bytes → kind_in ws bytes ≡ None
none_longer most [] bytes h l = refl
none_longer most (w ∷ ws) bytes h l =
    let a = and_parts (nat_lt 0 (length w.0) && nat_le (length w.0) most) (is_longest_first (length w.0) ws) h in
    let short = leb-true (length w.0) most (and_parts (nat_lt 0 (length w.0)) (nat_le (length w.0) most) a.0).1 in
    cond_false (bytes_eq bytes w.0) (Some w.1) (kind_in ws bytes) (other_bytes bytes w.0 (λ e. let d = ap length e in absurd (omega (arith, d, short))))
    ∙ none_longer (length w.0) ws bytes a.1 (omega (arith, short))

module _ (w : List ℕ × ℕ) (ws : List (List ℕ × ℕ)) (bytes : List ℕ) (rest : is_longest_first (length w.0) ws ≡ true) where
  taken_len : (m : ℕ) → m ≤ length bytes → length (take m bytes) ≡ m
  taken_len m l = length-take m bytes ∙ (let e : min m (length bytes) ≡ m = omega arith in e)

  begins_with : 0 < length w.0 → starts_with nat_eq bytes w.0 ≡ true → longest_of (kind_in (w ∷ ws)) bytes ≡ Some (w.1, length w.0)
  begins_with some e =
      let is : w.0 ≡ take (length w.0) bytes = (bytes_eq-Decides w.0 (take (length w.0) bytes)).0 e in
      let inside : length w.0 ≤ length bytes = (let d = ap length is in let f = length-take (length w.0) bytes in omega (arith, d, f)) in
      longest_of-is (kind_in (w ∷ ws)) bytes w.1 (length w.0) some inside
      (cond_true (bytes_eq (take (length w.0) bytes) w.0) (Some w.1) (kind_in ws (take (length w.0) bytes)) (same_bytes (take (length w.0) bytes) w.0 (sym is)))
      (λ m longer l. let d = taken_len m l in
      cond_false (bytes_eq (take m bytes) w.0) (Some w.1) (kind_in ws (take m bytes)) (other_bytes (take m bytes) w.0 (λ f. let k = ap length f in absurd (omega (arith, d, k))))
      ∙ none_longer (length w.0) ws (take m bytes) rest (omega (arith, d)))

  begins_else : starts_with nat_eq bytes w.0 ≡ false → longest_of (kind_in (w ∷ ws)) bytes ≡ longest_of (kind_in ws) bytes
  begins_else e = longest_of-same (kind_in (w ∷ ws)) (kind_in ws) bytes (λ m some l.
      cond_false (bytes_eq (take m bytes) w.0) (Some w.1) (kind_in ws (take m bytes)) (other_bytes (take m bytes) w.0 (λ f.
      let same : m ≡ length w.0 = (let k = ap length f in let d = taken_len m l in omega (arith, d, k)) in
      let is : w.0 ≡ take (length w.0) bytes = sym f ∙ ap (λ x. take x bytes) same in
      let t : true ≡ false = sym (same_bytes w.0 (take (length w.0) bytes) is) ∙ e in cc)))

-- the first of the words with which bytes begin is the longest
pub first_in-longest : (most : ℕ) (ws : List (List ℕ × ℕ)) (bytes : List ℕ) → is_longest_first most ws ≡ true → first_in ws bytes ≡ longest_of (kind_in ws) bytes
first_in-longest most [] bytes h = sym (longest_of-none (kind_in []) bytes (λ m some l. refl))
first_in-longest most (w ∷ ws) bytes h =
    let a = and_parts (nat_lt 0 (length w.0) && nat_le (length w.0) most) (is_longest_first (length w.0) ws) h in
    let some = ltb-true 0 (length w.0) (and_parts (nat_lt 0 (length w.0)) (nat_le (length w.0) most) a.0).0 in
    by (starts_with nat_eq bytes w.0) (begins_with w ws bytes a.1 some) (begins_else w ws bytes a.1) (first_in-longest (length w.0) ws bytes a.1)
  where
    by : (t : Bool) → (t ≡ true → longest_of (kind_in (w ∷ ws)) bytes ≡ Some (w.1, length w.0)) → (t ≡ false → longest_of (kind_in (w ∷ ws)) bytes ≡ longest_of (kind_in ws) bytes) →
        first_in ws bytes ≡ longest_of (kind_in ws) bytes → cond t (Some (w.1, length w.0)) (first_in ws bytes) ≡ longest_of (kind_in (w ∷ ws)) bytes
    by true begun other ih = sym (begun refl)
    by false begun other ih = ih ∙ sym (other refl)

-- tokens that go on while bytes pass a test

module _ (test : ℕ → Bool) where
  run_len-prefix_len : (bs : List ℕ) → run_len test bs ≡ prefix_len test bs
  run_len-prefix_len bs = length-take-le (prefix_len test bs) bs (prefix_len-le-length test bs)

  pub run_len-le : (bs : List ℕ) → run_len test bs ≤ length bs
  run_len-le bs = let e = run_len-prefix_len bs in let l = prefix_len-le-length test bs in omega (arith, e, l)

  and_of : (a b : Bool) → a ≡ true → b ≡ true → (a && b) ≡ true
  and_of true b e f = f
  and_of false b e f = absurd (cc)

  prefix_passes : (bs : List ℕ) → list_all test (take (prefix_len test bs) bs) ≡ true
  prefix_passes [] = refl
  prefix_passes (b ∷ bs) = by (test b) refl (prefix_passes bs)
    where
      by : (t : Bool) → test b ≡ t → list_all test (take (prefix_len test bs) bs) ≡ true → list_all test (take (cond t (1 + prefix_len test bs) 0) (b ∷ bs)) ≡ true
      by true e ih =
          let up : suc (prefix_len test bs) ≡ 1 + prefix_len test bs = omega arith in
          subst (λ n. list_all test (take n (b ∷ bs)) ≡ true) up (and_of (test b) (list_all test (take (prefix_len test bs) bs)) e ih)
      by false e ih = refl

  longer_fails : (bs : List ℕ) (m : ℕ) → prefix_len test bs < m → m ≤ length bs → list_all test (take m bs) ≡ false
  longer_fails bs zero l h = absurd (omega arith)
  longer_fails [] (suc m) l h = absurd (omega arith)
  longer_fails (b ∷ bs) (suc m) l h = by (test b) refl (longer_fails bs m) l
    where
      by : (t : Bool) → test b ≡ t → (prefix_len test bs < m → m ≤ length bs → list_all test (take m bs) ≡ false) → cond t (1 + prefix_len test bs) 0 < suc m → (t && list_all test (take m bs)) ≡ false
      by true e ih l = ih (omega arith) (omega arith)
      by false e ih l = refl

  pub run_passes : (bs : List ℕ) → list_all test (take (run_len test bs) bs) ≡ true
  run_passes bs = subst (λ k. list_all test (take k bs) ≡ true) (sym (run_len-prefix_len bs)) (prefix_passes bs)

  pub run_stops : (bs : List ℕ) (m : ℕ) → run_len test bs < m → m ≤ length bs → list_all test (take m bs) ≡ false
  run_stops bs m l h = let e = run_len-prefix_len bs in longer_fails bs m (omega arith) h

  -- a token that begins with b, and goes on while bytes pass the test
  pub run_longest : (kind_of : List ℕ → Option ℕ) (kind : List ℕ → ℕ) (b : ℕ) (bs : List ℕ) →
      ((xs : List ℕ) → kind_of (b ∷ xs) ≡ cond (list_all test xs) (Some (kind (b ∷ xs))) None) →
      longest_of kind_of (b ∷ bs) ≡ Some (kind (b ∷ take (run_len test bs) bs), suc (run_len test bs))
  run_longest kind_of kind b bs is =
      let n = run_len test bs in
      let inside = run_len-le bs in
      longest_of-is kind_of (b ∷ bs) (kind (b ∷ take n bs)) (suc n) (omega arith) (omega arith)
      (is (take n bs) ∙ cond_true (list_all test (take n bs)) (Some (kind (b ∷ take n bs))) None (run_passes bs))
      longer
    where
      longer : (m : ℕ) → suc (run_len test bs) < m → m ≤ length (b ∷ bs) → kind_of (take m (b ∷ bs)) ≡ None
      longer zero l h = absurd (omega arith)
      longer (suc m) l h = is (take m bs) ∙ cond_false (list_all test (take m bs)) (Some (kind (b ∷ take m bs))) None (run_stops bs m (omega arith) (omega arith))
