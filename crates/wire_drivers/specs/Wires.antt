-- Drivers of wires (IEEE 1364-2005, 6.1.2 and 12.3.9.2). The standard takes several drivers of a net, whose values it resolves;
-- this profile takes one driver of each bit.
use Rattle.std.specs.Prelude.{◌≡◌, ◌<◌, ℕ, Bool, true, false, ◌||◌, List, length, take, map, Option, Some, None, slice_get}
use Rattle.std.specs.Global.{Vec}
use Rattle.std.specs.List.{list_any}
use Rattle.bit_sets.specs.declared.Bits.{Bits}
use Rattle.bit_sets.specs.Sets.{is_in}
use Rattle.v_views.specs.Spots.{Spot, spot}
use Rattle.v_views.specs.Language.{Language}
use Rattle.flat_tree.specs.declared.design.Work.{Work}
use Rattle.flat_tree.specs.declared.design.Work.TheVariants as work
use Rattle.flat_tree.specs.declared.design.Driver.{Driver}
use Rattle.flat_tree.specs.declared.design.FlatSignal.{FlatSignal}
use Rattle.flat_tree.specs.declared.expr.FlatExpr.{FlatExpr}
use Rattle.flat_tree.specs.Values.{Shape}
use Rattle.flat_language.proofs.Local.{flat_language}
use Rattle.flat_writes.specs.declared.masks.Extent.{Extent}
use Rattle.flat_writes.specs.declared.masks.Extent.TheVariants.{Any}
use Rattle.flat_writes.specs.Writes.{target_bits, FitsTarget}

module _ (signals : List FlatSignal) where
  -- the target of a driver is taken
  abbrev pub FitsWork : Work FlatExpr → Type 0
  FitsWork (work.Assign t e) = FitsTarget signals t
  FitsWork (work.Connect t e plain) = FitsTarget signals t
  FitsWork (work.Comb sense body) = Unit {0}

  -- the same of a driver with its place
  abbrev pub FitsDriver : Driver FlatExpr → Type 0
  FitsDriver d = FitsWork d.work

-- whether a driver writes a bit of a wire; a process writes variables alone (9.2)
abbrev pub writes_wire : Language FlatExpr → Extent → Work FlatExpr → Spot → Bool
writes_wire l extent (work.Assign t e) x = target_bits l extent t x
writes_wire l extent (work.Connect t e plain) x = target_bits l extent t x
writes_wire l extent (work.Comb sense body) x = false

-- whether one of some drivers does
abbrev pub any_writes : Language FlatExpr → Extent → List (Driver FlatExpr) → Spot → Bool
any_writes l extent drivers x = list_any (λ (d : Driver FlatExpr). writes_wire l extent d.work x) drivers

-- whether there is a driver that does
abbrev pub one_writes : Language FlatExpr → Extent → Option (Driver FlatExpr) → Spot → Bool
one_writes l extent None x = false
one_writes l extent (Some d) x = writes_wire l extent d.work x

module _ (shapes : ℕ → Shape) where
  -- the bits that a driver writes were added to a set
  abbrev pub AddsWork : Extent → Work FlatExpr → List Bits → List Bits → Type 0
  AddsWork extent w old new = (g k : ℕ) → is_in new g k ≡ (is_in old g k || writes_wire (flat_language shapes) extent w (spot g 0 k))

  -- a set has the bits that a driver writes
  abbrev pub IsSetOf : Extent → Driver FlatExpr → List Bits → Type 0
  IsSetOf extent d set = (g k : ℕ) → is_in set g k ≡ writes_wire (flat_language shapes) extent d.work (spot g 0 k)

  -- sets have the bits that drivers write, one for each
  abbrev pub AreSetsOf : Extent → List (Driver FlatExpr) → List (Vec Bits) → Type 0
  AreSetsOf extent drivers sets = (g k : ℕ) → map (λ (s : Vec Bits). is_in s.items g k) sets ≡ map (λ (d : Driver FlatExpr). writes_wire (flat_language shapes) extent d.work (spot g 0 k)) drivers

  -- driver j may write a bit that one before it may write
  pub record WritesAgain (drivers : List (Driver FlatExpr)) (j : ℕ) : Type 0 where
    pub signal : ℕ
    pub bit : ℕ
    pub before : any_writes (flat_language shapes) Any (take j drivers) (spot signal 0 bit) ≡ true
    pub there : one_writes (flat_language shapes) Any (slice_get drivers j) (spot signal 0 bit) ≡ true

  -- none of the first n drivers does
  abbrev pub WriteOnce : List (Driver FlatExpr) → ℕ → Type 0
  WriteOnce drivers n = (j : ℕ) → j < n → WritesAgain drivers j → ⊥

  -- the first driver that may write a bit which one before it may write
  abbrev pub IsSecondDriver : List (Driver FlatExpr) → Option ℕ → Type 0
  IsSecondDriver drivers None = WriteOnce drivers (length drivers)
  IsSecondDriver drivers (Some j) = (j < length drivers) × WritesAgain drivers j × WriteOnce drivers j
