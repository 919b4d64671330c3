-- One part of a text after the other.
use Rattle.std.proofs.Common.{◌≡◌, ℕ, zero, suc, ◌+◌, ◌-◌, ◌<◌, ◌≤◌, Bool, true, List, [], ◌∷◌, ◌++◌, length, take, drop, Option, refl, sym, ◌∙◌, ap, arith, append-nil, length-drop}
use Rattle.std.proofs.lemmas.List.{drop-drop, take_all}
use Rattle.text_scan.specs.Pieces.{piece_of}
use Rattle.text_scan.specs.Tokens.{with_piece, fresh_after, tokens_within, tokens_of}
use Rattle.text_scan.specs.declared.pieces.Piece.{Piece}
use Rattle.text_scan.specs.declared.scanner.Token.{Token}

-- what a slice from byte n on has
pub rest_is : (n : ℕ) (xs : List ℕ) → take (length xs - n) (drop n xs) ≡ drop n xs
rest_is n xs = take_all (length xs - n) (drop n xs) (let d = length-drop n xs in omega (arith, d))

module _ (kind_of : List ℕ → Option ℕ) (is_blank_line : List ℕ → Bool) where
  -- the tokens of bytes that aren't empty
  first_part : (n : ℕ) (fresh : Bool) (at : ℕ) (bytes : List ℕ) (p : Piece) → 0 < length bytes → p ≡ piece_of kind_of is_blank_line fresh bytes →
      tokens_within kind_of is_blank_line (suc n) fresh at bytes ≡ with_piece p.kind p.len at (tokens_within kind_of is_blank_line n (fresh_after p.kind p.len fresh bytes) (at + p.len) (drop p.len bytes))
  first_part n fresh at [] p l e = absurd (omega arith)
  first_part n fresh at (b ∷ bs) p l e =
      ap (λ (q : Piece). with_piece q.kind q.len at (tokens_within kind_of is_blank_line n (fresh_after q.kind q.len fresh (b ∷ bs)) (at + q.len) (drop q.len (b ∷ bs)))) (sym e)

  no_part : (n : ℕ) (fresh : Bool) (at : ℕ) → tokens_within kind_of is_blank_line n fresh at [] ≡ []
  no_part zero fresh at = refl
  no_part (suc n) fresh at = refl

  -- the tokens so far, and those of the bytes from `at` on
  pub record Parts (text : List ℕ) (tokens : List Token) (fresh : Bool) (at : ℕ) : Type 0 where
    pub parts : ℕ
    pub enough : length text ≤ parts + at
    pub whole : tokens ++ tokens_within kind_of is_blank_line parts fresh at (drop at text) ≡ tokens_of kind_of is_blank_line text

  pub parts-start : (text : List ℕ) (tokens : List Token) → tokens ≡ [] → Parts text tokens true 0
  parts-start text tokens e = record {
    parts = length text;
    enough = omega arith;
    whole = ap (λ x. x ++ tokens_of kind_of is_blank_line text) e;
  }

  pub parts-end : (text : List ℕ) (tokens : List Token) (fresh : Bool) (at : ℕ) → length text ≤ at → Parts text tokens fresh at → tokens ≡ tokens_of kind_of is_blank_line text
  parts-end text tokens fresh at l h =
      sym (append-nil tokens) ∙ ap (λ x. tokens ++ x) (sym (ap (λ x. tokens_within kind_of is_blank_line h.parts fresh at x) (drop_all at text l) ∙ no_part h.parts fresh at)) ∙ h.whole
    where
      drop_all : (n : ℕ) (xs : List ℕ) → length xs ≤ n → drop n xs ≡ []
      drop_all zero [] l = refl
      drop_all zero (x ∷ xs) l = absurd (omega arith)
      drop_all (suc n) [] l = refl
      drop_all (suc n) (x ∷ xs) l = drop_all n xs (omega arith)

  pub parts-step : (text : List ℕ) (tokens tokens' : List Token) (fresh : Bool) (at : ℕ) (p : Piece) → at < length text → Parts text tokens fresh at →
      p ≡ piece_of kind_of is_blank_line fresh (drop at text) → 0 < p.len → ((rest : List Token) → tokens' ++ rest ≡ tokens ++ with_piece p.kind p.len at rest) →
      Parts text tokens' (fresh_after p.kind p.len fresh (drop at text)) (at + p.len)
  parts-step text tokens tokens' fresh at p l h e some pushed = by h.parts h.enough h.whole
    where
      by : (n : ℕ) → length text ≤ n + at → tokens ++ tokens_within kind_of is_blank_line n fresh at (drop at text) ≡ tokens_of kind_of is_blank_line text →
          Parts text tokens' (fresh_after p.kind p.len fresh (drop at text)) (at + p.len)
      by zero enough whole = absurd (omega arith)
      by (suc n) enough whole =
          let after = fresh_after p.kind p.len fresh (drop at text) in
          record {
            parts = n;
            enough = omega arith;
            whole = ap (λ x. tokens' ++ tokens_within kind_of is_blank_line n after (at + p.len) x) (sym (drop-drop p.len at text))
                ∙ pushed (tokens_within kind_of is_blank_line n after (at + p.len) (drop p.len (drop at text)))
                ∙ ap (λ x. tokens ++ x) (sym (first_part n fresh at (drop at text) p (let d = length-drop at text in omega (arith, d)) e))
                ∙ whole;
          }
