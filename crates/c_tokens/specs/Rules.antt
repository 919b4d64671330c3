-- Which bytes are a token of C, and of which kind (ISO C99, 6.4).
use Rattle.std.specs.Prelude.{ℕ, ◌==◌, ◌&&◌, ◌||◌, Bool, true, false, nat_le, not, if◌then◌else◌, List, [], ◌∷◌, Option, None, Some, is_some, unwrap_or}
use Rattle.std.specs.List.{list_all}
use Rattle.text_scan.specs.Words.{kind_in}
use Rattle.c_tokens.specs.Kinds.{number_of, MARKS, KEYWORDS, SUFFIXES}
use Rattle.c_tokens.specs.declared.kinds.TokenKind.TheVariants.{Identifier, Integer, Character, StringLiteral}
use Rattle.c_tokens.specs.declared.rules.Base.{Base}
use Rattle.c_tokens.specs.declared.rules.Base.TheVariants.{Octal, Decimal, Hexadecimal}

-- a byte from low to high
abbrev pub is_between : ℕ → ℕ → ℕ → Bool
is_between low high b = nat_le low b && nat_le b high

-- `A` to `Z`, `a` to `z` and `_`
abbrev pub begins_word : ℕ → Bool
begins_word b = is_between 65 90 b || is_between 97 122 b || b == 95

-- `0` to `9`
abbrev pub is_decimal : ℕ → Bool
is_decimal b = is_between 48 57 b

-- `a` to `f` and `A` to `F`
abbrev pub is_letter_digit : ℕ → Bool
is_letter_digit b = is_between 97 102 b || is_between 65 70 b

-- the digits of a base: `0` to `7`, `0` to `9`, or these and `a` to `f` in either case
abbrev pub is_digit : Base → ℕ → Bool
is_digit Octal b = is_between 48 55 b
is_digit Decimal b = is_decimal b
is_digit Hexadecimal b = is_decimal b || is_letter_digit b

-- what an identifier goes on with (6.4.2.1)
abbrev pub is_word : ℕ → Bool
is_word b = begins_word b || is_decimal b

-- nothing, or one of the suffixes (6.4.4.1)
abbrev pub is_suffix : List ℕ → Bool
is_suffix [] = true
is_suffix (b ∷ bs) = is_some (kind_in SUFFIXES (b ∷ bs))

-- any number of digits, and then a suffix or nothing
abbrev pub is_digits : Base → List ℕ → Bool
is_digits base [] = true
is_digits base (b ∷ bs) = if is_digit base b then is_digits base bs else is_suffix (b ∷ bs)

-- what comes after `0x`: a digit at least
abbrev pub is_after_x : List ℕ → Bool
is_after_x [] = false
is_after_x (b ∷ bs) = is_digit Hexadecimal b && is_digits Hexadecimal bs

-- `x` and `X`
abbrev pub is_x : ℕ → Bool
is_x b = b == 120 || b == 88

-- what comes after `0`: a hexadecimal or an octal constant
abbrev pub is_after_zero : List ℕ → Bool
is_after_zero [] = true
is_after_zero (b ∷ bs) = if is_x b then is_after_x bs else is_digits Octal (b ∷ bs)

-- what comes after the first digit of an integer
abbrev pub is_after_digit : ℕ → List ℕ → Bool
is_after_digit first bytes = if first == 48 then is_after_zero bytes else is_digits Decimal bytes

-- printable ASCII
abbrev pub is_printable : ℕ → Bool
is_printable b = is_between 32 126 b

-- no byte is left
abbrev pub is_nothing : List ℕ → Bool
is_nothing [] = true
is_nothing (_ ∷ _) = false

-- just this byte
abbrev pub is_only : ℕ → List ℕ → Bool
is_only byte [] = false
is_only byte (b ∷ bs) = b == byte && is_nothing bs

-- what may follow `\`: `n`, `t`, `r`, `0`, `\`, `'` and `"`
abbrev pub is_escape : ℕ → Bool
is_escape b = b == 110 || b == 116 || b == 114 || b == 48 || b == 92 || b == 39 || b == 34

-- an escape after its `\`, and the closing `'`
abbrev pub is_after_backslash : List ℕ → Bool
is_after_backslash [] = false
is_after_backslash (b ∷ bs) = is_escape b && is_only 39 bs

-- a printable byte but `'` and `\`
abbrev pub is_plain : ℕ → Bool
is_plain b = is_printable b && not (b == 39) && not (b == 92)

-- what comes after the opening `'`: a plain byte or an escape, and the closing `'`
abbrev pub is_after_quote : List ℕ → Bool
is_after_quote [] = false
is_after_quote (b ∷ bs) = if b == 92 then is_after_backslash bs else is_plain b && is_only 39 bs

-- a printable byte but `"` and `\`
abbrev pub is_text : ℕ → Bool
is_text b = is_printable b && not (b == 34) && not (b == 92)

-- what comes after the opening `"`: any number of such bytes, and the closing `"`
abbrev pub is_after_double_quote : List ℕ → Bool
is_after_double_quote [] = false
is_after_double_quote (b ∷ bs) = if is_text b then is_after_double_quote bs else is_only 34 (b ∷ bs)

-- a reserved word's kind, or that of an identifier
abbrev pub word_kind : List ℕ → ℕ
word_kind bytes = unwrap_or (kind_in KEYWORDS bytes) (number_of Identifier)

-- a kind, where the test holds
abbrev pub if_so : Bool → ℕ → Option ℕ
if_so true kind = Some kind
if_so false kind = None

-- the kind of the token that the bytes are, if they are one
abbrev pub kind_of : List ℕ → Option ℕ
kind_of [] = None
kind_of (b ∷ bs) =
    if begins_word b then if_so (list_all is_word bs) (word_kind (b ∷ bs))
    else if is_decimal b then if_so (is_after_digit b bs) (number_of Integer)
    else if b == 39 then if_so (is_after_quote bs) (number_of Character)
    else if b == 34 then if_so (is_after_double_quote bs) (number_of StringLiteral)
    else kind_in MARKS (b ∷ bs)

-- no line counts as blank for how it begins
abbrev pub is_blank_line : List ℕ → Bool
is_blank_line bytes = false
