-- Sets of the bits that flat expressions read (IEEE 1364-2005, 5.2.1).
use Rattle.std.specs.Prelude.{◌≡◌, ℕ, ◌+◌, ◌<◌, ◌≤◌, Bool, true, false, ◌||◌, if◌then◌else◌, List, length}
use Rattle.std.specs.List.{list_any}
use Rattle.bit_sets.specs.declared.Bits.{Bits}
use Rattle.bit_sets.specs.Sets.{is_set, is_in}
use Rattle.v_views.specs.Spots.{Spot, spot, is_bit_of}
use Rattle.flat_tree.specs.declared.expr.FlatExpr.{FlatExpr}
use Rattle.flat_tree.specs.declared.expr.FlatExpr as flat
use Rattle.flat_tree.specs.declared.expr.FlatSelection.{FlatSelection}
use Rattle.flat_tree.specs.declared.expr.FlatSelection as selection
use Rattle.flat_tree.specs.declared.design.FlatSignal.{FlatSignal}
use Rattle.flat_tree.specs.Values.{Shape}
use Rattle.flat_language.specs.Reads as language
use Rattle.flat_language.specs.Reads.{is_constant, reads, select_reads, index_reads}
use Rattle.flat_values.specs.Fits.{IsSignal, IsSpan, IsIndex, shapes_of, Fits, FitsSelect}
use Rattle.flat_bits.specs.declared.selections.Named.{Named}
use Rattle.flat_bits.specs.declared.selections.Named.TheVariants as named

-- a signal that is there, and is no memory
abbrev pub IsVector : ℕ → (ℕ → Shape) → ℕ → Type 0
IsVector count shapes g = IsSignal count shapes g × ((shapes g).words ≡ 0)

module _ (signals : List FlatSignal) where
  -- an expression of any form over vectors that are there
  abbrev pub IsReadable : FlatExpr → Type 0
  IsReadable e = Fits (IsVector (length signals) (shapes_of signals)) (Unit {0}) (Unit {0}) (shapes_of signals) e

  -- a select of such a vector
  abbrev pub IsReadableSelect : ℕ → FlatSelection → Type 0
  IsReadableSelect g s = IsVector (length signals) (shapes_of signals) g × FitsSelect (IsVector (length signals) (shapes_of signals)) (Unit {0}) (Unit {0}) (shapes_of signals) g s

  -- an index over them, where a select has one
  abbrev pub IsReadableIndex : FlatSelection → Type 0
  IsReadableIndex (selection.Bit' _ (flat.more_of-FlatExpr i _)) = IsReadable i
  IsReadableIndex (selection.Part high low) = Unit {0}
  IsReadableIndex (selection.Up' _ (flat.more_of-FlatExpr i _) n) = IsReadable i
  IsReadableIndex (selection.Down' _ (flat.more_of-FlatExpr i _) n) = IsReadable i

-- a part lies in its vector, and a width is from 1 to 64
abbrev pub FitsRead : Shape → FlatSelection → Type 0
FitsRead s (selection.Bit' _ i) = Unit {0}
FitsRead s (selection.Part high low) = (s.low ≤ low) × (low ≤ high) × (high < s.low + s.bits)
FitsRead s (selection.Up' _ i n) = IsSpan n
FitsRead s (selection.Down' _ i n) = IsSpan n

module _ (shapes : ℕ → Shape) where
  -- a constant index is a number
  abbrev pub HasIndex : FlatSelection → Type 0
  HasIndex (selection.Bit' _ (flat.more_of-FlatExpr i _)) = IsIndex shapes i
  HasIndex (selection.Part high low) = Unit {0}
  HasIndex (selection.Up' _ (flat.more_of-FlatExpr i _) n) = IsIndex shapes i
  HasIndex (selection.Down' _ (flat.more_of-FlatExpr i _) n) = IsIndex shapes i

  -- whether the places of a select are the same in every view
  abbrev pub is_steady : FlatSelection → Bool
  is_steady (selection.Bit' _ (flat.more_of-FlatExpr i _)) = is_constant shapes i
  is_steady (selection.Part high low) = true
  is_steady (selection.Up' _ (flat.more_of-FlatExpr i _) n) = is_constant shapes i
  is_steady (selection.Down' _ (flat.more_of-FlatExpr i _) n) = is_constant shapes i

  -- what a select of signal g reads: the bits of a mask, or its places depend on the view
  abbrev pub IsReadBy : ℕ → FlatSelection → Named → Type 0
  IsReadBy g s named.Varying = is_steady s ≡ false
  IsReadBy g s (named.Mask m) = (is_steady s ≡ true) × ((k : ℕ) → is_set m k ≡ select_reads shapes g s (spot g 0 k))

  -- the bits of its vector that a select reads, besides those that its index reads
  abbrev pub selected : ℕ → FlatSelection → Spot → Bool
  selected g s x = if is_steady s then select_reads shapes g s x else is_bit_of (language.shape_of (shapes g)) g x

  -- all bits of a vector were added to a set
  abbrev pub AddsWhole : ℕ → List Bits → List Bits → Type 0
  AddsWhole g old new = (h k : ℕ) → is_in new h k ≡ (is_in old h k || is_bit_of (language.shape_of (shapes g)) g (spot h 0 k))

  -- the bits that an expression reads were added to a set
  abbrev pub AddsReads : FlatExpr → List Bits → List Bits → Type 0
  AddsReads e old new = (h k : ℕ) → is_in new h k ≡ (is_in old h k || reads shapes e (spot h 0 k))

  -- the bits of its vector that a select reads were added to a set
  abbrev pub AddsSelected : ℕ → FlatSelection → List Bits → List Bits → Type 0
  AddsSelected g s old new = (h k : ℕ) → is_in new h k ≡ (is_in old h k || selected g s (spot h 0 k))

  -- those that its index reads
  abbrev pub AddsIndex : FlatSelection → List Bits → List Bits → Type 0
  AddsIndex s old new = (h k : ℕ) → is_in new h k ≡ (is_in old h k || index_reads shapes s (spot h 0 k))

  -- those of some expressions
  abbrev pub AddsParts : List FlatExpr → List Bits → List Bits → Type 0
  AddsParts parts old new = (h k : ℕ) → is_in new h k ≡ (is_in old h k || list_any (λ e. reads shapes e (spot h 0 k)) parts)
