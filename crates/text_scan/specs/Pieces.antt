-- How a text falls into blanks, comments and tokens (C99 6.4 and 6.4.9, IEEE 1364-2005 3.1 to 3.3).
use Rattle.std.specs.Prelude.{ℕ, ◌+◌, ◌==◌, ◌&&◌, ◌||◌, Bool, if◌then◌else◌, List, [], ◌∷◌, length, take, drop, position, Option, None, Some, nat_eq, slice_index, unwrap_or}
use Rattle.std.specs.List.{starts_with, zip}
use Rattle.std.proofs.Common.{zero, suc}
use Rattle.text_scan.specs.declared.pieces.Piece.{Piece}
use Rattle.text_scan.specs.declared.pieces.TheConstants.{STRAY}

-- space, tab, line feed, form feed, carriage return
abbrev pub is_blank : ℕ → Bool
is_blank b = b == 32 || b == 9 || b == 10 || b == 12 || b == 13

-- whether a byte ends a line: the line feed
abbrev pub is_line_end : ℕ → Bool
is_line_end b = b == 10

-- how many bytes come before the end of the line
abbrev pub line_len : List ℕ → ℕ
line_len bytes = unwrap_or (position is_line_end bytes) (length bytes)

-- where the first `*/` begins
abbrev pub close_of : List ℕ → Option ℕ
close_of bytes = position (λ pair. pair.0 == 42 && pair.1 == 47) (zip bytes (drop 1 bytes))

-- whether a text begins with these bytes
abbrev pub begins : List ℕ → List ℕ → Bool
begins bytes with = starts_with nat_eq bytes with

-- the token of n bytes, or else what was found among the shorter ones
abbrev pub or_shorter : Option ℕ → ℕ → Option (ℕ × ℕ) → Option (ℕ × ℕ)
or_shorter (Some kind) n shorter = Some (kind, n)
or_shorter None n shorter = shorter

-- the longest token of at most n bytes with which a text begins, as its kind and length
abbrev pub longest_within : (List ℕ → Option ℕ) → ℕ → List ℕ → Option (ℕ × ℕ)
longest_within kind_of zero bytes = None
longest_within kind_of (suc n) bytes = or_shorter (kind_of (take (suc n) bytes)) (suc n) (longest_within kind_of n bytes)

-- the longest token with which a text begins (C99 6.4, paragraph 4)
abbrev pub longest_of : (List ℕ → Option ℕ) → List ℕ → Option (ℕ × ℕ)
longest_of kind_of bytes = longest_within kind_of (length bytes) bytes

-- so many bytes that are no token
abbrev pub skipped : ℕ → Piece
skipped n = record { kind = None; len = n }

-- a token of a kind, of so many bytes
abbrev pub token : ℕ → ℕ → Piece
token kind n = record { kind = Some kind; len = n }

-- a comment that ends so many bytes after its `/*`, in a text of `all` bytes
abbrev pub comment : Option ℕ → ℕ → Piece
comment (Some close) all = skipped (close + 4)
comment None all = token STRAY all

-- the token that was found, or else one byte that begins none
abbrev pub token_or_stray : Option (ℕ × ℕ) → Piece
token_or_stray (Some found) = token found.0 found.1
token_or_stray None = token STRAY 1

-- What a text that isn't empty begins with, where only blanks come before it on its line if it is `fresh`.
abbrev pub piece_of : (List ℕ → Option ℕ) → (List ℕ → Bool) → Bool → List ℕ → Piece
piece_of kind_of is_blank_line fresh bytes =
    if is_blank (slice_index bytes 0) then skipped 1
    else if begins bytes (47 ∷ 47 ∷ []) then skipped (line_len bytes)
    else if begins bytes (47 ∷ 42 ∷ []) then comment (close_of (drop 2 bytes)) (length bytes)
    else if fresh && is_blank_line bytes then skipped (line_len bytes)
    else token_or_stray (longest_of kind_of bytes)
