-- Numbers in words.
use Rattle.std.specs.Prelude.{ℕ, Bool, false, ◌==◌, ◌&&◌, nat_le, not, List, [], ◌∷◌, length, Option, None, Some, if◌then◌else◌}
use Rattle.std.specs.Char.{is_ascii_digit}
use Rattle.std.specs.List.{list_all}
use Rattle.std.specs.Str.Parse.{digits_value}

-- 1 to 20 decimal digits, leading zeros allowed
abbrev pub is_numeral : List ℕ → Bool
is_numeral text = not (length text == 0) && (nat_le (length text) 20 && list_all is_ascii_digit text)

-- the number that a text says, if it is within limits
abbrev pub number_in : (low high : ℕ) → List ℕ → Option ℕ
number_in low high text =
    if is_numeral text && (nat_le low (digits_value 10 text) && nat_le (digits_value 10 text) high) then Some (digits_value 10 text) else None

-- a number from 1 to 4,294,967,295 without leading zeros
abbrev pub is_plain_number : List ℕ → Bool
is_plain_number [] = false
is_plain_number (first ∷ rest) = is_numeral (first ∷ rest) && (not (first == 48) && nat_le (digits_value 10 (first ∷ rest)) 4294967295)
