-- Directives (ISO C99, 6.10): what the tokens of a text are once its directives are carried out.
use Rattle.std.specs.Prelude.{ℕ, ◌+◌, ◌==◌, ◌&&◌, ◌||◌, Bool, false, nat_lt, if◌then◌else◌, List, [], ◌∷◌, ◌++◌, length, take, drop, take_while, map, Option, None, Some, is_none, unwrap_or, codes}
use Rattle.std.specs.List.{flat_map}
use Rattle.std.specs.Map.{update}
use Rattle.std.specs.Str.{bytes_eq}
use Rattle.std.proofs.Common.{zero, suc}
use Rattle.text_scan.specs.Pieces.{line_len}
use Rattle.text_scan.specs.Tokens.{tokens_of}
use Rattle.text_scan.specs.declared.pieces.TheConstants.{STRAY}
use Rattle.text_scan.specs.declared.scanner.Token.{Token}
use Rattle.c_tokens.specs.Kinds.{number_of}
use Rattle.c_tokens.specs.Rules.{kind_of, is_blank_line}
use Rattle.c_tokens.specs.declared.kinds.TokenKind.{TokenKind}
use Rattle.c_tokens.specs.declared.kinds.TokenKind.TheVariants.{Identifier, Integer, Minus, Less, Greater, OpenParenthesis, CloseParenthesis, Dot, Hash}
use Rattle.c_tokens.specs.declared.directives.CToken.{CToken}

-- a token is of this kind
abbrev pub is_kind : TokenKind → Token → Bool
is_kind kind t = t.kind == number_of kind

-- the headers that may be included
abbrev pub is_header : List ℕ → Bool
is_header name = bytes_eq name (codes "assert") || bytes_eq name (codes "stdbool") || bytes_eq name (codes "stdint")

-- an integer, or `-` and an integer
abbrev pub is_signed : List Token → Bool
is_signed (a ∷ []) = is_kind Integer a
is_signed (a ∷ b ∷ []) = is_kind Minus a && is_kind Integer b
is_signed _ = false

-- either, or either in parentheses
abbrev pub is_constant : List Token → Bool
is_constant (a ∷ b ∷ c ∷ []) = is_kind OpenParenthesis a && is_signed (b ∷ []) && is_kind CloseParenthesis c
is_constant (a ∷ b ∷ c ∷ d ∷ []) = is_kind OpenParenthesis a && is_signed (b ∷ c ∷ []) && is_kind CloseParenthesis d
is_constant ts = is_signed ts

-- a token that is reported at a byte
abbrev pub token_at : ℕ → Token → CToken
token_at at t = record { kind = t.kind; at = at; start = t.start; len = t.len }

-- a directive that isn't accepted is one token, at its `#`, that no text of the language holds
abbrev pub refused : Token → CToken
refused hash = record { kind = STRAY; at = hash.start; start = hash.start; len = hash.len }

-- what each name stands for, if it is defined
abbrev pub Names : Type 0
Names = List ℕ → Option (List Token)

-- what a directive gives, and the names that are defined after it
abbrev pub carried_out : Names → Token → Option Names → List CToken × Names
carried_out names hash (Some after) = ([], after)
carried_out names hash None = (refused hash ∷ [], names)

module _ (text : List ℕ) where
  -- the bytes that spell a token
  abbrev pub spelling : Token → List ℕ
  spelling t = take t.len (drop t.start text)

  -- A token stands on the line of its first byte. Those on the line of t come before the byte that ends it.
  abbrev pub is_on_line_of : Token → Token → Bool
  is_on_line_of t u = nat_lt u.start (t.start + line_len (drop t.start text))

  -- the tokens of the first line
  abbrev pub first_line : List Token → List Token
  first_line [] = []
  first_line (t ∷ ts) = t ∷ take_while (is_on_line_of t) ts

  -- the tokens line by line, in at most n lines
  abbrev pub lines_within : ℕ → List Token → List (List Token)
  lines_within zero tokens = []
  lines_within (suc n) [] = []
  lines_within (suc n) (t ∷ ts) = first_line (t ∷ ts) ∷ lines_within n (drop (length (first_line (t ∷ ts))) (t ∷ ts))

  -- each line has a token at least
  abbrev pub lines_of : List Token → List (List Token)
  lines_of tokens = lines_within (length tokens) tokens

  -- `<`, the name of a header, `.h>`
  abbrev pub is_file : List Token → Bool
  is_file (less ∷ header ∷ dot ∷ h ∷ greater ∷ []) =
      is_kind Less less && is_header (spelling header) && is_kind Dot dot && bytes_eq (spelling h) (codes "h") && is_kind Greater greater
  is_file _ = false

  -- `#include` and a header's file
  abbrev pub is_include : List Token → Bool
  is_include (hash ∷ include ∷ file) = bytes_eq (spelling include) (codes "include") && is_file file
  is_include _ = false

  -- the names after `#define ID C`, where ID wasn't defined before
  abbrev pub after_define : Names → List Token → Option Names
  after_define names (hash ∷ define ∷ name ∷ constant) =
      if bytes_eq (spelling define) (codes "define") && is_kind Identifier name && is_constant constant && is_none (names (spelling name))
      then Some (update bytes_eq names (spelling name) (Some constant)) else None
  after_define names _ = None

  -- the names after a directive, if it is accepted
  abbrev pub after_directive : Names → List Token → Option Names
  after_directive names line = if is_include line then Some names else after_define names line

  -- an identifier that is defined stands for its constant, at the identifier's own place
  abbrev pub expansion : Names → Token → List CToken
  expansion names t = map (token_at t.start) (unwrap_or (if is_kind Identifier t then names (spelling t) else None) (t ∷ []))

  -- what a line gives, and the names that are defined after it; a directive is a line that begins with `#`
  abbrev pub line_gives : Names → List Token → List CToken × Names
  line_gives names [] = ([], names)
  line_gives names (t ∷ ts) =
      if is_kind Hash t then carried_out names t (after_directive names (t ∷ ts))
      else (flat_map (expansion names) (t ∷ ts), names)

  -- what lines give, where these names are defined before them
  abbrev pub lines_give : Names → List (List Token) → List CToken
  lines_give names [] = []
  lines_give names (line ∷ lines) =
      let given = line_gives names line in
      given.0 ++ lines_give given.1 lines

-- The tokens of a C text.
abbrev pub c_tokens : List ℕ → List CToken
c_tokens text = lines_give text (λ _. None) (lines_of text (tokens_of kind_of is_blank_line text))
