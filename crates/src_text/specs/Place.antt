-- Places in a text. A line ends with byte 10, and lines and columns count from 1.
use Rattle.std.specs.Prelude.{ℕ, ◌+◌, ◌==◌, List, length, count_by, take, reverse, not}
use Rattle.std.specs.List.{take_while}
use Rattle.src_text.specs.declared.refusal.Place.{Place}

-- one more than the line ends before the byte
abbrev pub line_of : List ℕ → ℕ → ℕ
line_of text at = count_by (λ b. b == 10) (take at text) + 1

-- one more than the bytes since the last line end before the byte
abbrev pub column_of : List ℕ → ℕ → ℕ
column_of text at = length (take_while (λ b. not (b == 10)) (reverse (take at text))) + 1

-- the place of the byte at this position
abbrev pub place_at : List ℕ → ℕ → Place
place_at text at = record { line = line_of text at; column = column_of text at }
