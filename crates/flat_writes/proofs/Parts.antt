-- Targets and their parts.
use Rattle.std.proofs.Common.{◌≡◌, ℕ, ◌<◌, List, [], ◌∷◌, length, get_or, Some, inl, inr, refl, sym, ap, ◌∙◌, subst}
use Rattle.std.specs.Prelude.{◌||◌, All, slice_get}
use Rattle.std.specs.List.{list_any}
use Rattle.std.proofs.lemmas.Bool.{cases_lt}
use Rattle.std.proofs.lemmas.Option.{slice_get-get_or, slice_get_past}
use Rattle.std.proofs.lemmas.List.Elements.{All-nil, All-cons}
use Rattle.src_text.specs.declared.refusal.Place.{Place}
use Rattle.v_views.specs.declared.Selection.{Selection}
use Rattle.v_views.specs.declared.Target.{Target}
use Rattle.v_views.specs.declared.Target as in_target
use Rattle.v_views.specs.declared.Target.TheVariants as made
use Rattle.v_views.specs.Spots.{Spot}
use Rattle.v_views.specs.Language.{Language}
use Rattle.v_views.specs.Names.{target_certain, parts_certain, target_assigns, parts_assign}
use Rattle.flat_tree.specs.declared.expr.FlatExpr.{FlatExpr}
use Rattle.flat_tree.specs.declared.design.FlatSignal.{FlatSignal}
use Rattle.flat_writes.specs.declared.masks.Extent.{Extent}
use Rattle.flat_writes.specs.declared.masks.Extent.TheVariants.{Certain, Any}
use Rattle.flat_writes.specs.Writes.{part_bits, target_bits, FitsSignal, FitsTarget, FitsParts}

pub fits_parts : (signals : List FlatSignal) (xs : List (Target FlatExpr)) → FitsParts signals (in_target.TheBlock.hidden-the_row-Target-0 FlatExpr xs) → All (FitsTarget signals) xs
unfolding in_target.TheBlock.hidden-the_row-Target-0 denote.Hole.Carrier.hidden
fits_parts signals [] h = All-nil (FitsTarget signals)
fits_parts signals (x ∷ xs) h = All-cons (FitsTarget signals) x xs h.0 (fits_parts signals xs h.1)

certain_row : (l : Language FlatExpr) (x : Spot) (xs : List (Target FlatExpr)) → parts_certain l (in_target.TheBlock.hidden-the_row-Target-0 FlatExpr xs) x ≡ list_any (λ t. target_certain l t x) xs
unfolding in_target.TheBlock.hidden-the_row-Target-0 denote.Hole.Carrier.hidden
certain_row l x [] = refl
certain_row l x (t ∷ ts) = ap (λ b. target_certain l t x || b) (certain_row l x ts)

assign_row : (l : Language FlatExpr) (x : Spot) (xs : List (Target FlatExpr)) → parts_assign l (in_target.TheBlock.hidden-the_row-Target-0 FlatExpr xs) x ≡ list_any (λ t. target_assigns l t x) xs
unfolding in_target.TheBlock.hidden-the_row-Target-0 denote.Hole.Carrier.hidden
assign_row l x [] = refl
assign_row l x (t ∷ ts) = ap (λ b. target_assigns l t x || b) (assign_row l x ts)

-- a concatenation assigns what its parts do
pub concatenation_bits : (l : Language FlatExpr) (extent : Extent) (p : Place) (xs : List (Target FlatExpr)) (x : Spot) → target_bits l extent (made.Concatenation p xs) x ≡ list_any (λ t. target_bits l extent t x) xs
concatenation_bits l Certain p xs x = certain_row l x xs
concatenation_bits l Any p xs x = assign_row l x xs

pub fits_concatenation : (signals : List FlatSignal) (e : Target FlatExpr) (p : Place) (xs got : List (Target FlatExpr)) → e ≡ made.Concatenation p xs → got ≡ xs → FitsTarget signals e → All (FitsTarget signals) got
fits_concatenation signals e p xs got is is_got h = subst (All (FitsTarget signals)) (sym is_got) (fits_parts signals xs (subst (FitsTarget signals) is h))

pub signal_bits : (l : Language FlatExpr) (extent : Extent) (p : Place) (g : ℕ) (s : Selection FlatExpr) (x : Spot) → part_bits l extent g s x ≡ target_bits l extent (made.Signal p g s) x
signal_bits l Certain p g s x = refl
signal_bits l Any p g s x = refl

pub there : (signals : List FlatSignal) (g : ℕ) (s : Selection FlatExpr) → FitsSignal (slice_get signals g) s → g < length signals
there signals g s h = elim (cases_lt g (length signals)) [
  | inl l ↦ l
  | inr q ↦ absurd (subst (λ o. FitsSignal o s) (slice_get_past signals g q) h)
]

pub found : (signals : List FlatSignal) (g : ℕ) (signal : FlatSignal) → g < length signals → signal ≡ get_or signals g signal → slice_get signals g ≡ Some signal
found signals g signal lt is = slice_get-get_or signals g signal lt ∙ ap Some (sym is)
