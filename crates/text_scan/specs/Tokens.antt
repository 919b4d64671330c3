-- The tokens of a text.
use Rattle.std.specs.Prelude.{ℕ, ◌+◌, ◌||◌, Bool, true, false, List, [], ◌∷◌, length, take, drop, Option, None, Some}
use Rattle.std.specs.List.{list_any}
use Rattle.std.proofs.Common.{zero, suc}
use Rattle.text_scan.specs.Pieces.{is_line_end, piece_of}
use Rattle.text_scan.specs.declared.scanner.Token.{Token}

-- the tokens from byte `at` on, where the first part is a token of this kind, or none
abbrev pub with_piece : Option ℕ → ℕ → ℕ → List Token → List Token
with_piece None len at tokens = tokens
with_piece (Some kind) len at tokens = record { kind = kind; start = at; len = len } ∷ tokens

-- whether only blanks come, on its line, before what follows the first part of the text
abbrev pub fresh_after : Option ℕ → ℕ → Bool → List ℕ → Bool
fresh_after None len fresh bytes = fresh || list_any is_line_end (take len bytes)
fresh_after (Some _) len fresh bytes = false

-- The tokens of the bytes, of which the first is byte `at` of a text, in at most n parts.
module _ (kind_of : List ℕ → Option ℕ) (is_blank_line : List ℕ → Bool) where
  -- where the bytes are `fresh`, only blanks come before them on their line
  abbrev pub tokens_within : ℕ → Bool → ℕ → List ℕ → List Token
  tokens_within zero fresh at bytes = []
  tokens_within (suc n) fresh at [] = []
  tokens_within (suc n) fresh at (b ∷ bs) =
      let piece = piece_of kind_of is_blank_line fresh (b ∷ bs) in
      with_piece piece.kind piece.len at (tokens_within n (fresh_after piece.kind piece.len fresh (b ∷ bs)) (at + piece.len) (drop piece.len (b ∷ bs)))

  -- each part has a byte at least, so there are no more parts than bytes
  abbrev pub tokens_of : List ℕ → List Token
  tokens_of text = tokens_within (length text) true 0 text
