-- The bits that flat targets assign (IEEE 1364-2005, 9.2): for certain, or any that they may assign.
use Rattle.std.specs.Prelude.{◌≡◌, ℕ, ◌≤◌, Bool, ◌||◌, List, Option, Some, None, slice_get}
use Rattle.std.specs.List.{list_any}
use Rattle.bit_sets.specs.declared.Bits.{Bits}
use Rattle.bit_sets.specs.Sets.{is_in}
use Rattle.v_views.specs.declared.Selection.{Selection}
use Rattle.v_views.specs.declared.Target.{Target}
use Rattle.v_views.specs.declared.Target as target
use Rattle.v_views.specs.Spots.{Spot, spot}
use Rattle.v_views.specs.Language.{Language}
use Rattle.v_views.specs.Names.{certain_part, part_assigns, target_certain, target_assigns}
use Rattle.flat_tree.specs.declared.expr.FlatExpr.{FlatExpr}
use Rattle.flat_tree.specs.declared.design.FlatSignal.{FlatSignal}
use Rattle.flat_tree.specs.Values.{Shape}
use Rattle.flat_language.proofs.Local.{flat_language}
use Rattle.flat_values.specs.Fits.{shapes_of}
use Rattle.flat_bits.specs.Selections.{FitsSelection, HasIndexes}
use Rattle.flat_writes.specs.declared.masks.Extent.{Extent}
use Rattle.flat_writes.specs.declared.masks.Extent.TheVariants.{Certain, Any}

-- whether a part of a target assigns a bit
abbrev pub part_bits : Language FlatExpr → Extent → ℕ → Selection FlatExpr → Spot → Bool
part_bits l Certain g s x = certain_part l g s x
part_bits l Any g s x = part_assigns l g s x

-- whether a target assigns a bit
abbrev pub target_bits : Language FlatExpr → Extent → Target FlatExpr → Spot → Bool
target_bits l Certain t x = target_certain l t x
target_bits l Any t x = target_assigns l t x

-- a selection of a signal that is there, and is no memory
abbrev pub FitsSignal : Option FlatSignal → Selection FlatExpr → Type 0
FitsSignal None s = ⊥
FitsSignal (Some signal) s = (signal.words ≡ 0) × (signal.bits ≤ 64) × FitsSelection signal s

module _ (signals : List FlatSignal) where
  abbrev mutual
    -- a target selects bits of vectors that are there, by indexes that are numbers where they are constant
    pub FitsTarget : Target FlatExpr → Type 0
    FitsTarget (target.Signal place g s) = FitsSignal (slice_get signals g) s × HasIndexes (shapes_of signals) s
    FitsTarget (target.Concatenation' place _ parts) = FitsParts parts

    -- each part of a concatenation
    pub FitsParts : {m : _} → target.Row_of-Target FlatExpr m → Type 0
    FitsParts target.end_of-Target = Unit {0}
    FitsParts (target.more_of-Target t rest) = FitsTarget t × FitsParts rest

-- the bits of vectors that a target assigns were added to a set
abbrev pub AddsTarget : (ℕ → Shape) → Extent → Target FlatExpr → List Bits → List Bits → Type 0
AddsTarget shapes extent t old new = (g k : ℕ) → is_in new g k ≡ (is_in old g k || target_bits (flat_language shapes) extent t (spot g 0 k))

-- those of some targets
abbrev pub AddsParts : (ℕ → Shape) → Extent → List (Target FlatExpr) → List Bits → List Bits → Type 0
AddsParts shapes extent parts old new = (g k : ℕ) → is_in new g k ≡ (is_in old g k || list_any (λ t. target_bits (flat_language shapes) extent t (spot g 0 k)) parts)
