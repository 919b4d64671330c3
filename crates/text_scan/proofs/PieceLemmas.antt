-- The first part of a text has a byte at least, and no more than the text.
use Rattle.std.proofs.Common.{◌≡◌, ℕ, zero, suc, ◌+◌, ◌<◌, ◌≤◌, ◌==◌, ◌||◌, Bool, true, false, not, cond, List, [], ◌∷◌, length, take, get_or, nat_lt, position, unwrap_or, Option, None, Some, refl, ap, arith}
use Rattle.std.specs.List.{position_or_len, prefix_len}
use Rattle.std.proofs.lemmas.Bool.{ltb-true}
use Rattle.text_scan.specs.Pieces.{is_blank, is_line_end, line_len, or_shorter, longest_within, longest_of}

or_false : (a b : Bool) → (a || b) ≡ false → (a ≡ false) × (b ≡ false)
or_false true b h = absurd (cc)
or_false false b h = (refl, h)

not_line_end : (b : ℕ) → is_blank b ≡ false → is_line_end b ≡ false
not_line_end b h =
    let v = or_false (b == 32 || b == 9 || b == 10 || b == 12) (b == 13) h in
    let w = or_false (b == 32 || b == 9 || b == 10) (b == 12) v.0 in
    (or_false (b == 32 || b == 9) (b == 10) w.0).1

position_within : (p : ℕ → Bool) (bytes : List ℕ) → unwrap_or (position p bytes) (length bytes) ≤ length bytes
position_within p bytes = by (position_or_len p bytes) (length bytes) (nat_lt (position_or_len p bytes) (length bytes)) refl
  where
    by : (i n : ℕ) (t : Bool) → nat_lt i n ≡ t → unwrap_or (cond t (Some i) None) n ≤ n
    by i n true h = let l = ltb-true i n h in omega arith
    by i n false h = omega arith

pub line_len-within : (bytes : List ℕ) → line_len bytes ≤ length bytes
line_len-within bytes = position_within is_line_end bytes

position_some : (p : ℕ → Bool) (b : ℕ) (bs : List ℕ) → p b ≡ false → 0 < unwrap_or (position p (b ∷ bs)) (length (b ∷ bs))
position_some p b bs h = by (position_or_len p (b ∷ bs)) (nat_lt (position_or_len p (b ∷ bs)) (length (b ∷ bs))) (later (p b) h)
  where
    later : (t : Bool) → t ≡ false → 0 < cond (not t) (1 + prefix_len (λ x. not (p x)) bs) 0
    later true h = absurd (cc)
    later false h = omega arith

    by : (i : ℕ) (t : Bool) → 0 < i → 0 < unwrap_or (cond t (Some i) None) (length (b ∷ bs))
    by i true h = h
    by i false h = omega arith

pub line_len-some : (bytes : List ℕ) → 0 < length bytes → is_blank (get_or bytes 0 0) ≡ false → 0 < line_len bytes
line_len-some [] l h = absurd (omega arith)
line_len-some (b ∷ bs) l h = position_some is_line_end b bs (not_line_end b h)

abbrev len_found : Option (ℕ × ℕ) → ℕ
len_found None = 0
len_found (Some found) = found.1

longest_within-len : (kind_of : List ℕ → Option ℕ) (n : ℕ) (bytes : List ℕ) (kind len : ℕ) → longest_within kind_of n bytes ≡ Some (kind, len) → (0 < len) × (len ≤ n)
longest_within-len kind_of zero bytes kind len h = absurd (cc)
longest_within-len kind_of (suc n) bytes kind len h = by (kind_of (take (suc n) bytes)) (longest_within kind_of n bytes) (longest_within-len kind_of n bytes kind len) h
  where
    by : (found : Option ℕ) (shorter : Option (ℕ × ℕ)) → (shorter ≡ Some (kind, len) → (0 < len) × (len ≤ n)) → or_shorter found (suc n) shorter ≡ Some (kind, len) → (0 < len) × (len ≤ suc n)
    by None shorter ih h = let w = ih h in (w.0, let v = w.1 in omega arith)
    by (Some k) shorter ih h = let e : suc n ≡ len = ap len_found h in (omega arith, omega arith)

pub longest_of-len : (kind_of : List ℕ → Option ℕ) (bytes : List ℕ) (kind len : ℕ) → longest_of kind_of bytes ≡ Some (kind, len) → (0 < len) × (len ≤ length bytes)
longest_of-len kind_of bytes kind len h = longest_within-len kind_of (length bytes) bytes kind len h
