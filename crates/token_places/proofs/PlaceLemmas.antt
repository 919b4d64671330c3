-- A place, one byte further.
use Rattle.std.proofs.Common.{◌≡◌, ℕ, ◌+◌, ◌<◌, true, false, List, get_or, length, eqb, arith}
use Rattle.std.proofs.lemmas.Grind.{common_steps}
use Rattle.src_text.specs.Place.{place_at}

module _ (text : List ℕ) (at : ℕ) (inside : at < length text) where
  -- after a byte of a line, the next column
  pub place-in_line : eqb (get_or text at 0) 10 ≡ false → place_at text (at + 1) ≡ record { line = (place_at text at).line; column = (place_at text at).column + 1 }
  place-in_line other = grind (arith, common_steps)

  -- after byte 10, the first column of the next line
  pub place-next_line : eqb (get_or text at 0) 10 ≡ true → place_at text (at + 1) ≡ record { line = (place_at text at).line + 1; column = 1 }
  place-next_line ends = grind (arith, common_steps)

-- a text begins at line 1, column 1
pub place-first : (text : List ℕ) → place_at text 0 ≡ record { line = 1; column = 1 }
place-first text = grind (arith, common_steps)
