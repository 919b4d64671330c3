-- The bits that the selection of a target names, in masks (IEEE 1364-2005, 5.2.1).
use Rattle.std.specs.Prelude.{◌≡◌, ℕ, zero, suc, ◌+◌, ◌<◌, ◌≤◌, Bool, true, false, eqb, nat_lt, ◌&&◌, ◌||◌, ℤ, pos, negsuc, ◌+ℤ◌, ◌-ℤ◌}
use Rattle.bit_sets.specs.Sets.{is_set}
use Rattle.v_views.specs.declared.Selection.{Selection}
use Rattle.v_views.specs.declared.Selection.TheVariants as selection
use Rattle.v_views.specs.Spots.{spot}
use Rattle.v_views.specs.Names.{is_sure, is_selected}
use Rattle.flat_tree.specs.declared.expr.FlatExpr.{FlatExpr}
use Rattle.flat_tree.specs.declared.design.FlatSignal.{FlatSignal}
use Rattle.flat_tree.specs.Values.{Shape}
use Rattle.flat_values.specs.Fits.{IsIndex}
use Rattle.flat_language.proofs.Local.{flat_language}
use Rattle.flat_bits.specs.Index.{IsAway, IsClose}
use Rattle.flat_bits.specs.declared.index.Index.{Index}
use Rattle.flat_bits.specs.declared.index.Index.TheVariants.{Varying, At, Away}
use Rattle.flat_bits.specs.declared.selections.Named.{Named}
use Rattle.flat_bits.specs.declared.selections.Named.TheVariants as named

-- whether bit k is at a place of a vector
abbrev pub is_place : ℕ → ℤ → ℕ → Bool
is_place bits (pos p) k = nat_lt p bits && eqb p k
is_place bits (negsuc p) k = false

-- whether bit k of a vector is among n bits from a place on
abbrev pub in_span : ℕ → ℤ → ℕ → ℕ → Bool
in_span bits from zero k = false
in_span bits from (suc n) k = is_place bits (from +ℤ pos n) k || in_span bits from n k

-- an index that leads to a number leads to one that is close
abbrev pub IsCloseIndex : Index → Type 0
IsCloseIndex Varying = Unit {0}
IsCloseIndex (At z) = IsClose z
IsCloseIndex Away = Unit {0}

-- n bits from an index on, or some places below it
abbrev pub IsIndexed : ℕ → ℕ → ℕ → ℕ → Index → Named → Type 0
IsIndexed bits low below n Varying r = r ≡ named.Varying
IsIndexed bits low below n (At z) r = (m : ℕ) × (r ≡ named.Mask m) × ((k : ℕ) → is_set m k ≡ in_span bits ((z -ℤ pos below) -ℤ pos low) n k)
IsIndexed bits low below n Away r = (r ≡ named.Mask 0) × ((z : ℤ) (k : ℕ) → IsAway z → in_span bits ((z -ℤ pos below) -ℤ pos low) n k ≡ false)

-- a part lies in its signal, and a width is from 1 to 64
abbrev pub FitsSelection : FlatSignal → Selection FlatExpr → Type 0
FitsSelection s selection.Whole = Unit {0}
FitsSelection s (selection.Bit i) = Unit {0}
FitsSelection s (selection.Part high low) = (s.low ≤ low) × (low ≤ high) × (high < s.low + s.bits)
FitsSelection s (selection.Up i n) = (0 < n) × (n ≤ 64)
FitsSelection s (selection.Down i n) = (0 < n) × (n ≤ 64)

-- constant indexes are numbers
abbrev pub HasIndexes : (ℕ → Shape) → Selection FlatExpr → Type 0
HasIndexes shapes selection.Whole = Unit {0}
HasIndexes shapes (selection.Bit i) = IsIndex shapes i
HasIndexes shapes (selection.Part high low) = Unit {0}
HasIndexes shapes (selection.Up i n) = IsIndex shapes i
HasIndexes shapes (selection.Down i n) = IsIndex shapes i

-- what a selection of signal g names: some bits in every view, or it depends on the view
abbrev pub IsNamed : (ℕ → Shape) → ℕ → Selection FlatExpr → Named → Type 0
IsNamed shapes g s named.Varying = is_sure (flat_language shapes) s ≡ false
IsNamed shapes g s (named.Mask m) = (is_sure (flat_language shapes) s ≡ true) × ((k : ℕ) → is_set m k ≡ is_selected (flat_language shapes) g s (spot g 0 k))
