-- A text is a token of a kind where the longest token that it begins with is of that kind and is all of it.
use Rattle.std.proofs.Common.{◌≡◌, ◌∙◌, ◌<◌, refl, sym, ap, arith, ℕ, zero, suc, Bool, true, false, ◌==◌, ◌&&◌, List, [], ◌∷◌, Option, Some, None, length, take}
use Rattle.std.proofs.Math.Seq.{take-length}
use Rattle.std.proofs.lemmas.Bool.{ne_eqb, eq-eqb}
use Rattle.text_scan.specs.Pieces.{longest_of, longest_within, or_shorter}
use Rattle.command_options.specs.Names.{is_kind}
use Rattle.command_options.specs.Whole.{is_whole}

other : (a b : ℕ) (x : Bool) → a < b → (x && (a == b)) ≡ false
other a b true h = ne_eqb a b (λ e. omega (arith, e, h))
other a b false h = refl

by_shorter : (k : List ℕ → Option ℕ) (kind n m : ℕ) (bytes : List ℕ) (o : Option ℕ) → suc n < m → is_whole kind m (longest_within k n bytes) ≡ false
    → is_whole kind m (or_shorter o (suc n) (longest_within k n bytes)) ≡ false
by_shorter k kind n m bytes None h e = e
by_shorter k kind n m bytes (Some x) h e = other (suc n) m (x == kind) h

-- a shorter one isn't the whole
shorter : (k : List ℕ → Option ℕ) (kind n m : ℕ) (bytes : List ℕ) → n < m → is_whole kind m (longest_within k n bytes) ≡ false
shorter k kind zero m bytes h = refl
shorter k kind (suc n) m bytes h = by_shorter k kind n m bytes (k (take (suc n) bytes)) h (shorter k kind n m bytes (omega (arith, h)))

pub whole : (k : List ℕ → Option ℕ) (kind : ℕ) (bytes : List ℕ) → k [] ≡ None → is_whole kind (length bytes) (longest_of k bytes) ≡ is_kind kind (k bytes)
whole k kind [] e = sym (ap (is_kind kind) e)
whole k kind (b ∷ bs) e =
    by_kind (k (take (suc (length bs)) (b ∷ bs))) ∙ ap (λ x. is_kind kind (k x)) (take-length (b ∷ bs))
  where
    same : (x : Bool) (n : ℕ) → (x && (n == n)) ≡ x
    same true n = eq-eqb n n refl
    same false n = refl

    by_kind : (o : Option ℕ) → is_whole kind (suc (length bs)) (or_shorter o (suc (length bs)) (longest_within k (length bs) (b ∷ bs))) ≡ is_kind kind o
    by_kind None = shorter k kind (length bs) (suc (length bs)) (b ∷ bs) (omega arith)
    by_kind (Some x) = same (x == kind) (suc (length bs))
