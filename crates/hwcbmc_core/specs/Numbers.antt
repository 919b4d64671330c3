-- Decimal numbers in a text.
use Rattle.std.specs.Prelude.{ℕ, Bool, true, false, ◌==◌, not, ◌<◌, List, [], ◌∷◌}
use Rattle.std.specs.Char.{digit_value}

-- The text begins with no decimal digit.
abbrev pub BeginsWithNoDigit : List ℕ → Type 0
BeginsWithNoDigit [] = Unit {0}
BeginsWithNoDigit (byte ∷ rest) = ¬ (digit_value byte < 10)

-- There are digits, and more than one of them don't begin with 0.
abbrev pub has_plain_digits : List ℕ → Bool
has_plain_digits [] = false
has_plain_digits (first ∷ []) = true
has_plain_digits (first ∷ second ∷ rest) = not (first == 48)
