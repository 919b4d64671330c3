-- A word of a memory, found by looking at one place after the other.
use Rattle.std.specs.Prelude.{ℕ, ℤ, pos, negsuc, Bool, if◌then◌else◌, nat_eq}
use Rattle.bits_core.specs.Word.{number}

-- a word where the index is its place, and else what was found so far
abbrev pub at_place : ℤ → ℕ → ℕ → ℕ → ℕ
at_place (pos i) place so_far word = if nat_eq i place then word else so_far
at_place (negsuc i) place so_far word = so_far

-- the same for an index that is read as a number with or without a sign
abbrev pub found_then : Bool → ℕ → ℕ → ℕ → ℕ → ℕ → ℕ
found_then signed width index place so_far word = at_place (number signed width index) place so_far word
