-- A character constant (C99 6.4.4.4) has a byte as its value.
use Rattle.std.proofs.Common.{◌≡◌, ℕ, Bool, true, false, cond, not, ◌&&◌, ◌||◌, List, [], ◌∷◌, Option, None, Some, inl, inr, refl, sym, ap, ◌∙◌, arith}
use Rattle.std.specs.Prelude.{◌==◌, ◌⊎◌, if◌then◌else◌, nat_le, slice_index, unwrap_or}
use Rattle.std.specs.List.{list_all}
use Rattle.std.specs.Str.{bytes_eq}
use Rattle.std.proofs.lemmas.Bool.{and_parts, eq-eqb, eqb-true, leb-true, or_cases}
use Rattle.text_scan.specs.Words.{kind_in}
use Rattle.c_tokens.specs.Kinds.{KEYWORDS, MARKS}
use Rattle.c_tokens.specs.Rules.{begins_word, if_so, is_after_backslash, is_after_digit, is_after_double_quote, is_after_quote, is_decimal, is_escape, is_only, is_plain, is_printable, is_word, kind_of, word_kind}
use Rattle.c_text_laws.specs.Bytes.{IsByte}
use Rattle.c_actions.specs.Characters.{character_value, escaped}

-- the kind of character constants
abbrev pub CHARACTER : ℕ
CHARACTER = 3

-- no word of a table is a character constant
abbrev has_none : List (List ℕ × ℕ) → Bool
has_none [] = true
has_none (w ∷ ws) = not (w.1 == CHARACTER) && has_none ws

no_mark : has_none MARKS ≡ true
unfolding MARKS
no_mark = refl

no_keyword : has_none KEYWORDS ≡ true
unfolding KEYWORDS
no_keyword = refl

differs : (n : ℕ) → not (n == CHARACTER) ≡ true → n ≡ CHARACTER → ⊥
differs n t e = (let f : false ≡ true = sym (ap not (eq-eqb n CHARACTER e)) ∙ t in let z : ⊥ = cc in z)

same : {m n : ℕ} → Some m ≡ Some n → m ≡ n
same e = cc

nothing : {n : ℕ} → None ≡ Some n → ⊥
nothing e = cc

no_word : (ws : List (List ℕ × ℕ)) (bytes : List ℕ) → has_none ws ≡ true → kind_in ws bytes ≡ Some CHARACTER → ⊥
no_word [] bytes t e = nothing e
no_word (w ∷ ws) bytes t e = by (bytes_eq bytes w.0) e (no_word ws bytes (and_parts (not (w.1 == CHARACTER)) (has_none ws) t).1)
  where
    by : (b : Bool) → cond b (Some w.1) (kind_in ws bytes) ≡ Some CHARACTER → (kind_in ws bytes ≡ Some CHARACTER → ⊥) → ⊥
    by true e more = differs w.1 (and_parts (not (w.1 == CHARACTER)) (has_none ws) t).0 (same e)
    by false e more = more e

or_name : (o : Option ℕ) → (o ≡ Some CHARACTER → ⊥) → unwrap_or o 1 ≡ CHARACTER → ⊥
or_name None h e = omega (arith, e)
or_name (Some k) h e = h (ap Some e)

if_so_not : (b : Bool) (k : ℕ) → (k ≡ CHARACTER → ⊥) → if_so b k ≡ Some CHARACTER → ⊥
if_so_not true k h e = h (same e)
if_so_not false k h e = nothing e

if_so_holds : (b : Bool) (k : ℕ) → if_so b k ≡ Some CHARACTER → b ≡ true
if_so_holds true k e = refl
if_so_holds false k e = absurd (nothing e)

first_of : (t : Bool) (x y : Option ℕ) → (y ≡ Some CHARACTER → ⊥) → cond t x y ≡ Some CHARACTER → x ≡ Some CHARACTER
first_of true x y h e = e
first_of false x y h e = absurd (h e)

other_of : (t : Bool) (x y : Option ℕ) → (x ≡ Some CHARACTER → ⊥) → cond t x y ≡ Some CHARACTER → y ≡ Some CHARACTER
other_of true x y h e = absurd (h e)
other_of false x y h e = e

no_other : (b : ℕ) (bs : List ℕ) → cond (b == 34) (if_so (is_after_double_quote bs) 4) (kind_in MARKS (b ∷ bs)) ≡ Some CHARACTER → ⊥
no_other b bs e = no_word MARKS (b ∷ bs) no_mark (other_of (b == 34) _ _ (if_so_not (is_after_double_quote bs) 4 (λ z. omega (arith, z))) e)

-- a token of the kind of character constants is in quotes
in_quotes : (b : ℕ) (bs : List ℕ) → kind_of (b ∷ bs) ≡ Some CHARACTER → is_after_quote bs ≡ true
in_quotes b bs e =
    let no_name = if_so_not (list_all is_word bs) (word_kind (b ∷ bs)) (or_name (kind_in KEYWORDS (b ∷ bs)) (no_word KEYWORDS (b ∷ bs) no_keyword)) in
    let behind_names = other_of (begins_word b) _ _ no_name e in
    let behind_integers = other_of (is_decimal b) _ _ (if_so_not (is_after_digit b bs) 2 (λ z. omega (arith, z))) behind_names in
    if_so_holds (is_after_quote bs) CHARACTER (first_of (b == 39) _ _ (no_other b bs) behind_integers)

or_last : (c k : ℕ) (others : Bool) → IsByte k → (others ≡ true → IsByte c) → (others || (c == k)) ≡ true → IsByte c
or_last c k others small more h = by (or_cases others (c == k) h)
  where
    by : (others ≡ true) ⊎ ((c == k) ≡ true) → IsByte c
    by (inl e) = more e
    by (inr e) = (let z = eqb-true c k e in omega (arith, z, small))

escape_small : (c : ℕ) → is_escape c ≡ true → IsByte c
escape_small c h =
    or_last c 34 _ (omega arith) (or_last c 39 _ (omega arith) (or_last c 92 _ (omega arith) (or_last c 48 _ (omega arith) (or_last c 114 _ (omega arith) (or_last c 116 _ (omega arith)
    (λ e. (let z = eqb-true c 110 e in omega (arith, z)))))))) h

plain_small : (c : ℕ) → is_plain c ≡ true → IsByte c
plain_small c h =
    let printable = (and_parts (is_printable c) _ (and_parts (is_printable c && not (c == 39)) _ h).0).0 in
    let most = leb-true c 126 (and_parts (nat_le 32 c) (nat_le c 126) printable).1 in
    omega (arith, most)

either : (b : Bool) (x y : ℕ) → IsByte x → IsByte y → IsByte (if b then x else y)
either true x y h k = h
either false x y h k = k

escaped_byte : (c : ℕ) → IsByte c → IsByte (escaped c)
escaped_byte c h =
    let zero_or = either (c == 48) 0 c (omega arith) h in
    let return_or = either (c == 114) 13 _ (omega arith) zero_or in
    let tab_or = either (c == 116) 9 _ (omega arith) return_or in
    either (c == 110) 10 _ (omega arith) tab_or

-- what stands in quotes is a byte
after_backslash : (cs : List ℕ) → is_after_backslash cs ≡ true → IsByte (escaped (slice_index cs 0))
after_backslash [] q = (let f : ⊥ = cc in absurd f)
after_backslash (d ∷ ds) q = escaped_byte d (escape_small d (and_parts (is_escape d) (is_only 39 ds) q).0)

after_quote : (b : ℕ) (bs : List ℕ) → is_after_quote bs ≡ true → IsByte (character_value (b ∷ bs))
after_quote b [] q = (let f : ⊥ = cc in absurd f)
after_quote b (c ∷ cs) q = by (c == 92) q
  where
    by : (t : Bool) → cond t (is_after_backslash cs) (is_plain c && is_only 39 cs) ≡ true → IsByte (cond t (escaped (slice_index cs 0)) c)
    by true q = after_backslash cs q
    by false q = plain_small c (and_parts (is_plain c) (is_only 39 cs) q).0

pub character_byte : (bytes : List ℕ) → kind_of bytes ≡ Some CHARACTER → IsByte (character_value bytes)
character_byte [] e = absurd (nothing e)
character_byte (b ∷ bs) e = after_quote b bs (in_quotes b bs e)
