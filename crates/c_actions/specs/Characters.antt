-- The value of a character constant (ISO C99, 6.4.4.4).
use Rattle.std.specs.Prelude.{ℕ, ◌==◌, if◌then◌else◌, List, slice_index}

-- what a byte behind `\` stands for
abbrev pub escaped : ℕ → ℕ
escaped c = if c == 110 then 10 else if c == 116 then 9 else if c == 114 then 13 else if c == 48 then 0 else c

-- by its spelling, whose first byte is the quote
abbrev pub character_value : List ℕ → ℕ
character_value spelling = if slice_index spelling 1 == 92 then escaped (slice_index spelling 2) else slice_index spelling 1
