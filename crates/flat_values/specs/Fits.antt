-- Which expressions are taken: each has a length from 1 to 128, names signals that there are, and selects as the profile
-- allows.
use Rattle.std.specs.Prelude.{◌≡◌, ℕ, ◌+◌, ◌-◌, ◌*◌, ◌<◌, ◌≤◌, List, [], ◌∷◌, Option, Some, None, Bool, true, false, ◌&&◌, nat_lt, if◌then◌else◌, slice_get}
use Rattle.bits_core.specs.Word.{IsWidth, IsWord}
use Rattle.flat_tree.specs.declared.design.FlatSignal.{FlatSignal}
use Rattle.flat_tree.specs.declared.expr.FlatExpr.{FlatExpr}
use Rattle.flat_tree.specs.declared.expr.FlatExpr as flat
use Rattle.flat_tree.specs.declared.expr.FlatSelection.{FlatSelection}
use Rattle.flat_tree.specs.declared.expr.FlatSelection as selection
use Rattle.flat_tree.specs.Values.{Shape, Meant, own_fixed, meant, parts_meant, beside, nothing}

-- what is known of a signal of a design
abbrev pub shape_of : FlatSignal → Shape
shape_of s = record { bits = s.bits; signed = s.signed; low = s.low; words = s.words }

-- a signal that isn't there has no bits
abbrev pub no_shape : Shape
no_shape = record { bits = 0; signed = false; low = 0; words = 0 }

-- what is known of a signal, if there is one
abbrev pub shape_or : Option FlatSignal → Shape
shape_or None = no_shape
shape_or (Some s) = shape_of s

-- what is known of each signal, by its number
abbrev pub shapes_of : List FlatSignal → ℕ → Shape
shapes_of signals g = shape_or (slice_get signals g)

-- a list of parts, the leftmost first
abbrev pub list_meant : (ℕ → Shape) → List FlatExpr → Meant
list_meant shapes [] = nothing
list_meant shapes (e ∷ rest) = beside (meant shapes e) (list_meant shapes rest)

-- a signal that is there: from 1 to 64 bits
pub record IsSignal (count : ℕ) (shapes : ℕ → Shape) (g : ℕ) : Type 0 where
  pub there : g < count
  pub some : 0 < (shapes g).bits
  pub within : (shapes g).bits ≤ 64
  pub few : (shapes g).words ≤ 4096

-- a select of so many bits
abbrev pub IsSpan : ℕ → Type 0
IsSpan n = (0 < n) × (n ≤ 64)

-- the length of a select of a signal
abbrev pub selection_length : Shape → FlatSelection → ℕ
selection_length s (selection.Bit' _ i) = if nat_lt 0 s.words then s.bits else 1
selection_length s (selection.Part high low) = high - low + 1
selection_length s (selection.Up' _ i n) = n
selection_length s (selection.Down' _ i n) = n

-- whether it is signed: only a word of a memory may be
abbrev pub selection_signed : Shape → FlatSelection → Bool
selection_signed s (selection.Bit' _ i) = nat_lt 0 s.words && s.signed
selection_signed s (selection.Part high low) = false
selection_signed s (selection.Up' _ i n) = false
selection_signed s (selection.Down' _ i n) = false

-- how many bits a select names
abbrev pub number_length : FlatSelection → ℕ
number_length (selection.Bit' _ i) = 1
number_length (selection.Part high low) = high - low + 1
number_length (selection.Up' _ i n) = n
number_length (selection.Down' _ i n) = n

-- a range goes down
abbrev pub IsOrdered : FlatSelection → Type 0
IsOrdered (selection.Bit' _ i) = Unit {0}
IsOrdered (selection.Part high low) = low ≤ high
IsOrdered (selection.Up' _ i n) = Unit {0}
IsOrdered (selection.Down' _ i n) = Unit {0}

-- the length, from 1 to 128, and the sign of an expression
pub record IsOwn (m : Meant) (l : ℕ) (s : Bool) : Type 0 where
  pub length : l ≡ m.length
  pub signed : s ≡ m.signed
  pub width : IsWidth l

-- an index that is constant is a number, as long as constants of other forms aren't evaluated here
abbrev pub is_number : FlatExpr → Bool
is_number (flat.Literal n) = true
is_number (flat.Parentheses' place _ (flat.more_of-FlatExpr a _)) = is_number a
is_number e = false

-- an index is constant just where it is a literal, perhaps in parentheses
abbrev pub IsIndex : (ℕ → Shape) → FlatExpr → Type 0
IsIndex shapes i = own_fixed (meant shapes i) ≡ is_number i

-- what is asked of a signal's number, and whether selects by an index, concatenations and replications are taken, are for the caller to say
module _ (known : ℕ → Type 0) (by_index joined : Type 0) (shapes : ℕ → Shape) where
  abbrev mutual
    -- an expression is taken: its signals, selects and widths are
    pub Fits : FlatExpr → Type 0
    Fits (flat.Literal n) = IsWord n.word
    Fits (flat.Signal place g) = known g × ((shapes g).words ≡ 0)
    Fits (flat.Select place g s) = known g × FitsSelect g s
    Fits (flat.SelectNumber place c low s) = IsWord c × FitsNumber c.width low s
    Fits (flat.Unary' operator _ (flat.more_of-FlatExpr a _)) = Fits a
    Fits (flat.Binary' _ (flat.more_of-FlatExpr a _) operator _ (flat.more_of-FlatExpr b _)) = Fits a × Fits b
    Fits (flat.Conditional' _ (flat.more_of-FlatExpr c _) _ (flat.more_of-FlatExpr a _) _ (flat.more_of-FlatExpr b _)) = Fits c × Fits a × Fits b
    Fits (flat.Parentheses' place _ (flat.more_of-FlatExpr a _)) = Fits a
    Fits (flat.Concatenation' place _ parts) = FitsParts parts × IsWidth (parts_meant shapes parts).length × joined
    Fits (flat.Replication' place c _ parts) = FitsParts parts × IsWidth (parts_meant shapes parts).length × IsWidth (c * (parts_meant shapes parts).length) × joined
    Fits (flat.Signed' place _ (flat.more_of-FlatExpr a _)) = Fits a
    Fits (flat.Unsigned' place _ (flat.more_of-FlatExpr a _)) = Fits a

    -- a select of a signal
    pub FitsSelect : ℕ → FlatSelection → Type 0
    FitsSelect g (selection.Bit' _ (flat.more_of-FlatExpr i _)) = Fits i × IsIndex shapes i × by_index
    FitsSelect g (selection.Part high low) = ((shapes g).words ≡ 0) × ((shapes g).low ≤ low) × (low ≤ high) × (high < (shapes g).low + (shapes g).bits)
    FitsSelect g (selection.Up' _ (flat.more_of-FlatExpr i _) n) = ((shapes g).words ≡ 0) × IsSpan n × Fits i × IsIndex shapes i × by_index
    FitsSelect g (selection.Down' _ (flat.more_of-FlatExpr i _) n) = ((shapes g).words ≡ 0) × IsSpan n × Fits i × IsIndex shapes i × by_index

    -- a select of a number of w bits; with an index, of at most 128 bits together
    pub FitsNumber : ℕ → ℕ → FlatSelection → Type 0
    FitsNumber w low (selection.Bit' _ (flat.more_of-FlatExpr i _)) = (w + 1 ≤ 128) × Fits i × IsIndex shapes i × by_index
    FitsNumber w low (selection.Part high from) = (low ≤ from) × (from ≤ high) × (high < low + w)
    FitsNumber w low (selection.Up' _ (flat.more_of-FlatExpr i _) n) = (w + n ≤ 128) × IsSpan n × Fits i × IsIndex shapes i × by_index
    FitsNumber w low (selection.Down' _ (flat.more_of-FlatExpr i _) n) = (w + n ≤ 128) × IsSpan n × Fits i × IsIndex shapes i × by_index

    -- each part of a concatenation
    pub FitsParts : {m : _} → flat.Row_of-FlatExpr m → Type 0
    FitsParts flat.end_of-FlatExpr = Unit {0}
    FitsParts (flat.more_of-FlatExpr a rest) = Fits a × FitsParts rest

  -- the same of a list
  abbrev pub FitsList : List FlatExpr → Type 0
  FitsList [] = Unit {0}
  FitsList (e ∷ rest) = Fits e × FitsList rest

-- all forms over signals that are there
abbrev pub IsTaken : ℕ → (ℕ → Shape) → FlatExpr → Type 0
IsTaken count shapes e = Fits (IsSignal count shapes) (Unit {0}) (Unit {0}) shapes e

-- all parts are taken, over signals that are there
abbrev pub AreTaken : ℕ → (ℕ → Shape) → List FlatExpr → Type 0
AreTaken count shapes parts = FitsList (IsSignal count shapes) (Unit {0}) (Unit {0}) shapes parts
