-- Indexes that are constant.
use Rattle.std.specs.Prelude.{◌≡◌, ℕ, ◌^◌, ◌≤◌, ◌≤ℤ◌, true, false, ℤ, pos, negsuc}
use Rattle.bits_core.specs.Word.{number}
use Rattle.flat_tree.specs.declared.expr.FlatExpr.{FlatExpr}
use Rattle.flat_tree.specs.declared.expr.Number.{Number}
use Rattle.flat_tree.specs.Values.{Shape}
use Rattle.flat_language.specs.Reads.{index_at}
use Rattle.flat_values.specs.Fits.{is_number}
use Rattle.flat_bits.specs.declared.index.Index.{Index}
use Rattle.flat_bits.specs.declared.index.Index.TheVariants.{Varying, At, Away}

-- no signal has a bit near it
abbrev pub IsAway : ℤ → Type 0
IsAway (pos n) = 2 ^ 62 ≤ n
IsAway (negsuc n) = 2 ^ 62 ≤ n

-- a number within about 2^62 of 0, on either side
abbrev pub IsClose : ℤ → Type 0
IsClose z = (negsuc (2 ^ 62) ≤ℤ z) × (z ≤ℤ pos (2 ^ 62))

-- it leads to a whole number, or that is far from all bits
abbrev pub IsNear : ℤ → Index → Type 0
IsNear z Varying = ⊥
IsNear z (At y) = (z ≡ y) × IsClose y
IsNear z Away = IsAway z

-- the index is a number by its own sign
abbrev pub IsNumberIndex : Number → Index → Type 0
IsNumberIndex n index = IsNear (number n.signed n.word.width n.word.value) index

-- where an expression leads as an index
abbrev pub IsIndexOf : (ℕ → Shape) → FlatExpr → Index → Type 0
IsIndexOf shapes e Varying = is_number e ≡ false
IsIndexOf shapes e (At y) = (is_number e ≡ true) × (index_at shapes e ≡ y) × IsClose y
IsIndexOf shapes e Away = (is_number e ≡ true) × IsAway (index_at shapes e)
