-- Which bytes are a token of Verilog, and of which kind (IEEE 1364-2005, clause 3).
use Rattle.std.specs.Prelude.{ℕ, ◌==◌, ◌&&◌, ◌||◌, Bool, true, false, nat_le, if◌then◌else◌, List, [], ◌∷◌, Option, None, Some, unwrap_or, codes, nat_eq}
use Rattle.std.specs.List.{list_all, starts_with}
use Rattle.text_scan.specs.Words.{kind_in}
use Rattle.v_tokens.specs.Kinds.{number_of, MARKS, KEYWORDS}
use Rattle.v_tokens.specs.declared.kinds.TokenKind.{TokenKind}
use Rattle.v_tokens.specs.declared.kinds.TokenKind.TheVariants.{Identifier, Decimal, Based}

-- whether a byte is one of those from low up to high
abbrev pub is_between : ℕ → ℕ → ℕ → Bool
is_between low high b = nat_le low b && nat_le b high

-- `A` to `Z`, `a` to `z` and `_`
abbrev pub begins_word : ℕ → Bool
begins_word b = is_between 65 90 b || is_between 97 122 b || b == 95

-- `0` to `9`
abbrev pub is_decimal : ℕ → Bool
is_decimal b = is_between 48 57 b

-- what an identifier goes on with: also digits and `$` (3.7)
abbrev pub is_word : ℕ → Bool
is_word b = begins_word b || is_decimal b || b == 36

-- what a number goes on with: also `_` (3.5.1)
abbrev pub is_number : ℕ → Bool
is_number b = is_decimal b || b == 95

-- `x`, `X`, `z`, `Z` and `?`
abbrev pub is_unknown : ℕ → Bool
is_unknown b = b == 120 || b == 88 || b == 122 || b == 90 || b == 63

-- `d` and `D`; `h` and `H`; `b`, `B`, `o` and `O`
abbrev pub is_base_ten : ℕ → Bool
is_base_ten b = b == 100 || b == 68

-- `h` and `H`
abbrev pub is_base_sixteen : ℕ → Bool
is_base_sixteen b = b == 104 || b == 72

-- the letters of all four bases: decimal, hexadecimal, binary and octal (3.5.1)
abbrev pub is_base : ℕ → Bool
is_base b = is_base_ten b || is_base_sixteen b || b == 98 || b == 66 || b == 111 || b == 79

-- a digit after this base: `0` to `9` after each, `a` to `f` after `h`, the unknown ones after all but `d`
abbrev pub is_digit_after : ℕ → ℕ → Bool
is_digit_after base b =
    is_decimal b || (is_base_sixteen base && (is_between 97 102 b || is_between 65 70 b)) || (if is_base_ten base then false else is_unknown b)

-- space and tab
abbrev pub is_space : ℕ → Bool
is_space b = b == 32 || b == 9

-- what digits go on with: also `_`
abbrev pub goes_on_after : ℕ → ℕ → Bool
goes_on_after base b = is_digit_after base b || b == 95

-- a digit, and then digits and `_`
abbrev pub is_digits : ℕ → List ℕ → Bool
is_digits base [] = false
is_digits base (b ∷ bs) = is_digit_after base b && list_all (goes_on_after base) bs

-- spaces before these
abbrev pub is_spaced : ℕ → List ℕ → Bool
is_spaced base [] = false
is_spaced base (b ∷ bs) = if is_space b then is_spaced base bs else is_digits base (b ∷ bs)

-- a base before these
abbrev pub is_unsigned : List ℕ → Bool
is_unsigned [] = false
is_unsigned (b ∷ bs) = is_base b && is_spaced b bs

-- `s` and `S`
abbrev pub is_sign : ℕ → Bool
is_sign b = b == 115 || b == 83

-- what comes after `'`: perhaps `s` or `S` before these
abbrev pub is_based : List ℕ → Bool
is_based [] = false
is_based (b ∷ bs) = if is_sign b then is_unsigned bs else is_unsigned (b ∷ bs)

-- a keyword's kind, or that of an identifier
abbrev pub word_kind : List ℕ → ℕ
word_kind bytes = unwrap_or (kind_in KEYWORDS bytes) (number_of Identifier)

-- the kind where the rest of a token fits, and else no token
abbrev pub if_so : Bool → ℕ → Option ℕ
if_so true kind = Some kind
if_so false kind = None

-- the kind of the token that the bytes are, if they are one
abbrev pub kind_of : List ℕ → Option ℕ
kind_of [] = None
kind_of (b ∷ bs) =
    if begins_word b then if_so (list_all is_word bs) (word_kind (b ∷ bs))
    else if is_decimal b then if_so (list_all is_number bs) (number_of Decimal)
    else if b == 39 then if_so (is_based bs) (number_of Based)
    else kind_in MARKS (b ∷ bs)

-- the two directives whose lines count as blank (clause 19)
abbrev pub is_blank_line : List ℕ → Bool
is_blank_line bytes = starts_with nat_eq bytes (codes "`timescale") || starts_with nat_eq bytes (codes "`default_nettype")
