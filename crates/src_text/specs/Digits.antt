-- What digits in a base write. Bytes `_`, which is 95, are skipped (IEEE 1364-2005, 3.5.1).
use Rattle.std.specs.Prelude.{ℕ, ◌^◌, ◌==◌, ◌&&◌, Bool, not, nat_lt, if◌then◌else◌, List, filter, position, Option, None, Some, Result, Ok, Err}
use Rattle.std.specs.Char.{digit_value}
use Rattle.std.specs.List.{list_all}
use Rattle.std.specs.Str.Parse.{digits_value}
use Rattle.src_text.specs.declared.digits.DigitFault.{DigitFault}
use Rattle.src_text.specs.declared.digits.DigitFault.TheVariants.{Empty, BadDigit, TooBig}

-- whether a byte is `_`
abbrev pub is_underscore : ℕ → Bool
is_underscore b = b == 95

-- whether a byte is a digit of the base; `a` to `z` and `A` to `Z` count on from 10
abbrev pub is_digit : ℕ → ℕ → Bool
is_digit base b = nat_lt (digit_value b) base

-- neither `_` nor a digit of the base
abbrev pub is_stray : ℕ → ℕ → Bool
is_stray base b = not (is_underscore b) && not (is_digit base b)

-- the number that the digits among the bytes write
abbrev pub value_of : ℕ → List ℕ → ℕ
value_of base bytes = digits_value base (filter (is_digit base) bytes)

-- the number, or why there is none, where the first stray byte is known
abbrev pub reading_at : Option ℕ → ℕ → Result ℕ DigitFault
reading_at (Some at) number = Err (BadDigit at)
reading_at None number = if nat_lt number (2 ^ 128) then Ok number else Err TooBig

-- The number that bytes write in a base. None is written where there is nothing but `_`, where a byte is neither `_`
-- nor a digit, or where the number has more than 128 bits.
abbrev pub reading : ℕ → List ℕ → Result ℕ DigitFault
reading base bytes = if list_all is_underscore bytes then Err Empty else reading_at (position (is_stray base) bytes) (value_of base bytes)
