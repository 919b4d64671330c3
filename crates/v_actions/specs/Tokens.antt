-- What is read of a token: its place, and its bytes where it is a name or a number (IEEE 1364-2005, 3.5.1 and 3.7).
use Rattle.std.specs.Prelude.{ℕ, ◌==◌, ◌||◌, Bool, if◌then◌else◌, List, [], take, drop, slice_get, slice_index, slice_index_or, Option, Some, None}
use Rattle.std.specs.Str.Lossy.{utf8_lossy}
use Rattle.src_text.specs.declared.refusal.Place.{Place}
use Rattle.text_scan.specs.declared.scanner.Token.{Token}
use Rattle.text_scan.specs.Words.{run_len}
use Rattle.v_actions.specs.declared.actions.TokenAction.{TokenAction}
use Rattle.v_actions.specs.declared.actions.TokenAction.TheVariants as Action
use Rattle.v_stack.specs.declared.values.TokenValue.TheVariants as TokenValue
use Rattle.v_stack.specs.declared.values.Value.{Value}
use Rattle.v_tokens.specs.Rules.{is_sign, is_space, is_base_ten}
use Rattle.v_tree.specs.declared.expr.Base.{Base}
use Rattle.v_tree.specs.declared.expr.BasedNumber.{BasedNumber}
use Rattle.v_tree.specs.declared.expr.DecimalNumber.{DecimalNumber}
use Rattle.v_tree.specs.declared.name.Identifier.{Identifier}

-- A text, its tokens, and the place of each.
pub record Lexemes : Type 0 where
  pub text : List ℕ
  pub tokens : List Token
  pub places : List Place

-- the place of a token; each token has one
abbrev pub place_in : List Place → ℕ → Place
place_in places i = slice_index_or places i (record { line = 1; column = 1 })

-- the bytes of a token
abbrev pub bytes_of : List ℕ → Option Token → List ℕ
bytes_of text None = []
bytes_of text (Some token) = take token.len (drop token.start text)

-- the bytes of token i, and none where there is no such token
abbrev pub bytes_at : List ℕ → List Token → ℕ → List ℕ
bytes_at text tokens i = bytes_of text (slice_get tokens i)

-- the text that the token's bytes are; those of a name and of a number are ASCII
abbrev pub spelling : Lexemes → ℕ → List ℕ
spelling x i = utf8_lossy (bytes_at x.text x.tokens i)

-- whether `s` stands after the `'` of a based number
abbrev pub is_signed : List ℕ → Bool
is_signed bytes = is_sign (slice_index bytes 1)

-- the base and what follows it
abbrev pub based_part : List ℕ → List ℕ
based_part bytes = if is_signed bytes then drop 2 bytes else drop 1 bytes

-- the base that a letter writes: `b`, `o`, `d` or `h`, small or large (3.5.1)
abbrev pub base_of : ℕ → Base
base_of b =
    if b == 98 || b == 66 then Base.Binary
    else if b == 111 || b == 79 then Base.Octal
    else if is_base_ten b then Base.Decimal
    else Base.Hexadecimal

-- what follows the spaces and tabs that the bytes begin with
abbrev pub without_spaces : List ℕ → List ℕ
without_spaces bytes = drop (run_len is_space bytes) bytes

-- a based number, by the bytes of its token: perhaps `s` after `'`, then the base, spaces and digits (3.5.1)
abbrev pub based_number : Place → List ℕ → BasedNumber
based_number place bytes = record {
  place = place;
  signed = is_signed bytes;
  base = base_of (slice_index (based_part bytes) 0);
  digits = utf8_lossy (without_spaces (drop 1 (based_part bytes)));
}

-- token i as a name (3.7)
abbrev pub identifier_at : Lexemes → ℕ → Identifier
identifier_at x i = record { place = place_in x.places i; name = spelling x i }

-- token i as a decimal number, which is its digits (3.5.1)
abbrev pub decimal_at : Lexemes → ℕ → DecimalNumber
decimal_at x i = record { place = place_in x.places i; digits = spelling x i }

-- the value that is made of token i
abbrev pub token_value : Lexemes → TokenAction → ℕ → Value
token_value x Action.Place i = Value.Token (TokenValue.Place (place_in x.places i))
token_value x Action.Name i = Value.Token (TokenValue.Name (identifier_at x i))
token_value x Action.Declared i = Value.Token (TokenValue.Declared (identifier_at x i))
token_value x Action.Decimal i = Value.Token (TokenValue.Decimal (decimal_at x i))
token_value x Action.Based i = Value.Token (TokenValue.Based (based_number (place_in x.places i) (bytes_at x.text x.tokens i)))
token_value x (Action.Direction kind) i = Value.Token (TokenValue.Direction (record { place = place_in x.places i; kind = kind }))
token_value x (Action.Unary op) i = Value.Token (TokenValue.UnaryOperator (record { place = place_in x.places i; op = op }))
token_value x (Action.Binary op) i = Value.Token (TokenValue.BinaryOperator (record { place = place_in x.places i; op = op }))
