-- To compute in order: each part is handed on as a value, so that no part is computed again where it is used.
use Rattle.std.proofs.Common.{◌≡◌, ℕ, suc, zero, ◌+◌, Bool, true, false, List, [], ◌∷◌, ◌++◌, drop, Option, Some, None, refl, ap, ◌∙◌}
use Rattle.ll_parse.specs.Grammar.{Grammar}
use Rattle.ll_parse.specs.Places.{place_of, below, placed}
use Rattle.ll_parse.specs.declared.placing.Placed.{Placed}
use Rattle.text_scan.specs.Pieces.{piece_of}
use Rattle.text_scan.specs.Tokens.{with_piece, fresh_after, tokens_within}
use Rattle.text_scan.specs.declared.pieces.Piece.{Piece}
use Rattle.text_scan.specs.declared.scanner.Token.{Token}

module _ {A : Type 0} where
  abbrev pub at_number : ℕ → (ℕ → A) → A
  at_number zero go = go zero
  at_number (suc n) go = go (suc n)

  pub at_number_is : (n : ℕ) (go : ℕ → A) → at_number n go ≡ go n
  at_number_is zero go = refl
  at_number_is (suc n) go = refl

  abbrev pub at_numbers : List ℕ → (List ℕ → A) → A
  at_numbers [] go = go []
  at_numbers (x ∷ xs) go = at_number x (λ y. at_numbers xs (λ ys. go (y ∷ ys)))

  pub at_numbers_is : (xs : List ℕ) (go : List ℕ → A) → at_numbers xs go ≡ go xs
  at_numbers_is [] go = refl
  at_numbers_is (x ∷ xs) go = at_number_is x (λ y. at_numbers xs (λ ys. go (y ∷ ys))) ∙ at_numbers_is xs (λ ys. go (x ∷ ys))

  abbrev pub at_truth : Bool → (Bool → A) → A
  at_truth true go = go true
  at_truth false go = go false

  pub at_truth_is : (b : Bool) (go : Bool → A) → at_truth b go ≡ go b
  at_truth_is true go = refl
  at_truth_is false go = refl

  abbrev pub at_kind : Option ℕ → (Option ℕ → A) → A
  at_kind None go = go None
  at_kind (Some k) go = at_number k (λ j. go (Some j))

  pub at_kind_is : (o : Option ℕ) (go : Option ℕ → A) → at_kind o go ≡ go o
  at_kind_is None go = refl
  at_kind_is (Some k) go = at_number_is k (λ j. go (Some j))

-- the productions of a derivation, each with the tokens before it
module _ (g : Grammar) where
  abbrev put_at : (ℕ → List ℕ → List Placed) → ℕ → List ℕ → ℕ → List Placed
  put_at go p ss j = record { production = p; place = j } ∷ at_numbers (g.body p ++ below ss) (go j)

  abbrev pub placed_in_order : List ℕ → ℕ → List ℕ → List Placed
  placed_in_order [] i ss = []
  placed_in_order (p ∷ ps) i ss = at_number (place_of i ss) (put_at (placed_in_order ps) p ss)

  pub placed_in_order_is : (ps : List ℕ) (i : ℕ) (ss : List ℕ) → placed_in_order ps i ss ≡ placed g i ss ps
  placed_in_order_is [] i ss = refl
  placed_in_order_is (p ∷ ps) i ss =
      at_number_is (place_of i ss) (put_at (placed_in_order ps) p ss)
      ∙ ap (λ rest. record { production = p; place = place_of i ss } ∷ rest)
      (at_numbers_is (g.body p ++ below ss) (placed_in_order ps (place_of i ss)) ∙ placed_in_order_is ps (place_of i ss) (g.body p ++ below ss))

-- the tokens of a text
module _ (kind_of : List ℕ → Option ℕ) (is_blank_line : List ℕ → Bool) where
  abbrev Rest : Type 0
  Rest = Bool → ℕ → List ℕ → List Token

  abbrev go_on : Rest → Option ℕ → ℕ → ℕ → Bool → ℕ → List ℕ → List Token
  go_on go kind len at fresh next rest = with_piece kind len at (go fresh next rest)

  abbrev at_rest : Rest → (at : ℕ) → List ℕ → Option ℕ → ℕ → Bool → ℕ → List Token
  at_rest go at bytes kind len fresh next = at_numbers (drop len bytes) (go_on go kind len at fresh next)

  abbrev at_next : Rest → (at : ℕ) → List ℕ → Option ℕ → ℕ → Bool → List Token
  at_next go at bytes kind len fresh = at_number (at + len) (at_rest go at bytes kind len fresh)

  abbrev at_fresh : Rest → Bool → (at : ℕ) → List ℕ → Option ℕ → ℕ → List Token
  at_fresh go fresh at bytes kind len = at_truth (fresh_after kind len fresh bytes) (at_next go at bytes kind len)

  abbrev at_len : Rest → Bool → (at : ℕ) → List ℕ → ℕ → Option ℕ → List Token
  at_len go fresh at bytes len kind = at_number len (at_fresh go fresh at bytes kind)

  abbrev at_piece : Rest → Bool → (at : ℕ) → List ℕ → Piece → List Token
  at_piece go fresh at bytes piece = at_kind piece.kind (at_len go fresh at bytes piece.len)

  abbrev pub tokens_in_order : ℕ → Bool → ℕ → List ℕ → List Token
  tokens_in_order zero fresh at bytes = []
  tokens_in_order (suc n) fresh at [] = []
  tokens_in_order (suc n) fresh at (b ∷ bs) = at_piece (tokens_in_order n) fresh at (b ∷ bs) (piece_of kind_of is_blank_line fresh (b ∷ bs))

  at_piece_is : (go : Rest) (fresh : Bool) (at : ℕ) (bytes : List ℕ) (piece : Piece)
      → at_piece go fresh at bytes piece ≡ with_piece piece.kind piece.len at (go (fresh_after piece.kind piece.len fresh bytes) (at + piece.len) (drop piece.len bytes))
  at_piece_is go fresh at bytes piece =
      let kind = piece.kind in
      let len = piece.len in
      let after = fresh_after kind len fresh bytes in
      at_kind_is kind (at_len go fresh at bytes len)
      ∙ at_number_is len (at_fresh go fresh at bytes kind)
      ∙ at_truth_is after (at_next go at bytes kind len)
      ∙ at_number_is (at + len) (at_rest go at bytes kind len after)
      ∙ at_numbers_is (drop len bytes) (go_on go kind len at after (at + len))

  pub tokens_in_order_is : (n : ℕ) (fresh : Bool) (at : ℕ) (bytes : List ℕ) → tokens_in_order n fresh at bytes ≡ tokens_within kind_of is_blank_line n fresh at bytes
  tokens_in_order_is zero fresh at bytes = refl
  tokens_in_order_is (suc n) fresh at [] = refl
  tokens_in_order_is (suc n) fresh at (b ∷ bs) =
      let piece = piece_of kind_of is_blank_line fresh (b ∷ bs) in
      at_piece_is (tokens_in_order n) fresh at (b ∷ bs) piece
      ∙ ap (with_piece piece.kind piece.len at) (tokens_in_order_is n (fresh_after piece.kind piece.len fresh (b ∷ bs)) (at + piece.len) (drop piece.len (b ∷ bs)))

-- tokens as values
module _ {A : Type 0} where
  abbrev put_token : (Token → A) → ℕ → ℕ → ℕ → A
  put_token go kind start len = go (record { kind = kind; start = start; len = len })

  abbrev pub at_token : Token → (Token → A) → A
  at_token t go = at_number t.kind (λ kind. at_number t.start (λ start. at_number t.len (put_token go kind start)))

  pub at_token_is : (t : Token) (go : Token → A) → at_token t go ≡ go t
  at_token_is t go =
      at_number_is t.kind (λ kind. at_number t.start (λ start. at_number t.len (put_token go kind start)))
      ∙ at_number_is t.start (λ start. at_number t.len (put_token go t.kind start))
      ∙ at_number_is t.len (put_token go t.kind t.start)

  abbrev pub at_tokens : List Token → (List Token → A) → A
  at_tokens [] go = go []
  at_tokens (t ∷ ts) go = at_token t (λ u. at_tokens ts (λ us. go (u ∷ us)))

  pub at_tokens_is : (ts : List Token) (go : List Token → A) → at_tokens ts go ≡ go ts
  at_tokens_is [] go = refl
  at_tokens_is (t ∷ ts) go = at_token_is t (λ u. at_tokens ts (λ us. go (u ∷ us))) ∙ at_tokens_is ts (λ us. go (t ∷ us))
