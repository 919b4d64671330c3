-- The parts of targets whose places are the same in every view (IEEE 1364-2005, 5.1.14 and 9.2).
use Rattle.std.specs.Prelude.{◌≡◌, ℕ, ◌+◌, ◌-◌, ◌<◌, All, List, [], ◌∷◌, ◌++◌, Option, length}
use Rattle.v_views.specs.declared.Selection.{Selection}
use Rattle.v_views.specs.declared.Target.{Target}
use Rattle.v_views.specs.Spots.{Spot, View}
use Rattle.v_views.specs.Language.{Language}
use Rattle.v_views.specs.Run.{selected, places, selection_sites, target_sites, selection_length, target_length}
use Rattle.flat_tree.specs.declared.expr.FlatExpr.{FlatExpr}
use Rattle.flat_tree.specs.declared.design.FlatSignal.{FlatSignal}
use Rattle.flat_tree.specs.Values.{Shape}
use Rattle.flat_language.proofs.Local.{flat_language}
use Rattle.flat_values.specs.Fits.{shapes_of}
use Rattle.view_rows.specs.declared.stores.Part.{Part}
use Rattle.view_rows.specs.Rows.{part_places, FitsPart}
use Rattle.part_stores.specs.Stores.{seen, all_places, all_bits, ArePart}

-- a signal has at least one bit
abbrev pub HasBits : FlatSignal → Type 0
HasBits s = 0 < s.bits

-- a part that has exactly the places of a selection of signal g in every view, and lies in the signal
pub record IsSelected (shapes : ℕ → Shape) (g : ℕ) (s : Selection FlatExpr) (p : Part) : Type 0 where
  pub places : (u : ℕ → ℕ) (v : View) (k : ℕ) → part_places p ≡ selected (flat_language shapes) u g s v k
  pub sites : selection_sites (flat_language shapes) s ≡ 0
  pub bits : p.high - p.low + 1 ≡ selection_length (flat_language shapes) g s
  pub fits : (count : ℕ) → g < count → FitsPart count (seen shapes) p
  pub narrow : ArePart p

-- the places that targets name one after the other
abbrev pub row_places : Language FlatExpr → (ℕ → ℕ) → List (Target FlatExpr) → View → ℕ → List (Option Spot)
row_places l u [] v k = []
row_places l u (t ∷ rest) v k = places l u t v k ++ row_places l u rest v (k + target_sites l t)

-- how many sites they have
abbrev pub row_sites : Language FlatExpr → List (Target FlatExpr) → ℕ
row_sites l [] = 0
row_sites l (t ∷ rest) = target_sites l t + row_sites l rest

-- how many bits they have
abbrev pub row_length : Language FlatExpr → List (Target FlatExpr) → ℕ
row_length l [] = 0
row_length l (t ∷ rest) = target_length l t + row_length l rest

-- parts of signals that there are were added to a list, with the places that a target has in every view; it has no sites
pub record Adds (signals : List FlatSignal) (to : (ℕ → ℕ) → View → ℕ → List (Option Spot)) (sites bits : ℕ) (old new : List Part) : Type 0 where
  pub parts : List Part
  pub is : new ≡ old ++ parts
  pub places : (u : ℕ → ℕ) (v : View) (k : ℕ) → all_places parts ≡ to u v k
  pub fits : All (FitsPart (length signals) (seen (shapes_of signals))) parts
  pub narrow : All ArePart parts
  pub none : sites ≡ 0
  pub length_is : all_bits parts ≡ bits

-- the parts of a target
abbrev pub AddsTarget : List FlatSignal → Target FlatExpr → List Part → List Part → Type 0
AddsTarget signals t old new = Adds signals (λ u v k. places (flat_language (shapes_of signals)) u t v k) (target_sites (flat_language (shapes_of signals)) t) (target_length (flat_language (shapes_of signals)) t) old new

-- those of some targets
abbrev pub AddsRow : List FlatSignal → List (Target FlatExpr) → List Part → List Part → Type 0
AddsRow signals targets old new = Adds signals (λ u v k. row_places (flat_language (shapes_of signals)) u targets v k) (row_sites (flat_language (shapes_of signals)) targets) (row_length (flat_language (shapes_of signals)) targets) old new
