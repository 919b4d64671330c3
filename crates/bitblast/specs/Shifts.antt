-- Shifts of words.
use Rattle.std.specs.Prelude.{ℕ, ◌*◌, ◌/◌, ◌%◌, ◌^◌}
use Rattle.bitblast.specs.declared.shifts.Direction.{Direction}
use Rattle.bitblast.specs.declared.shifts.Direction.TheVariants.{Left, Right}

-- a word of w bits shifted, with zeros put in
abbrev pub shifted : Direction → ℕ → ℕ → ℕ → ℕ
shifted Left w x y = (x * 2 ^ y) % 2 ^ w
shifted Right w x y = x / 2 ^ y
