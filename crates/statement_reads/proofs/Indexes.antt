-- What the indexes in a target read, and what is asked of them, by its parts: `got` are they, as the code reads them.
use Rattle.std.proofs.Common.{◌≡◌, ℕ, List, [], ◌∷◌, Bool, true, false, refl, sym, ap, ◌∙◌, subst}
use Rattle.std.specs.Prelude.{◌||◌, All}
use Rattle.std.specs.List.{list_any}
use Rattle.std.proofs.lemmas.List.Elements.{All-nil, All-cons}
use Rattle.src_text.specs.declared.refusal.Place.{Place}
use Rattle.v_views.specs.declared.Selection.{Selection}
use Rattle.v_views.specs.declared.Target.{Target}
use Rattle.v_views.specs.declared.Target as in_target
use Rattle.v_views.specs.declared.Target.TheVariants as made
use Rattle.v_views.specs.Spots.{Spot}
use Rattle.v_views.specs.Language.{Language}
use Rattle.v_views.specs.Names.{part_reads, target_reads, parts_read}
use Rattle.flat_tree.specs.declared.expr.FlatExpr.{FlatExpr}
use Rattle.flat_tree.specs.declared.design.FlatSignal.{FlatSignal}
use Rattle.statement_reads.specs.Reads.{HasReadable, ReadableTarget, ReadableParts}

or_assoc : (a b c : Bool) → ((a || b) || c) ≡ (a || (b || c))
or_assoc true b c = refl
or_assoc false b c = refl

pub adds_none : (a : Bool) → a ≡ (a || false)
adds_none true = refl
adds_none false = refl

-- first one, then another
pub adds_both : (old one new a b : Bool) → one ≡ (old || a) → new ≡ (one || b) → new ≡ (old || (a || b))
adds_both old one new a b x y = y ∙ ap (λ z. z || b) x ∙ or_assoc old a b

pub adds_three : (old one two new a b c : Bool) → one ≡ (old || a) → two ≡ (one || b) → new ≡ (two || c) → new ≡ (old || (a || (b || c)))
adds_three old one two new a b c x y z = adds_both old one new a (b || c) x (adds_both one two new b c y z)

module _ (l : Language FlatExpr) (x : Spot) where
  row : (ts : List (Target FlatExpr)) → parts_read l (in_target.TheBlock.hidden-the_row-Target-0 FlatExpr ts) x ≡ list_any (λ t. target_reads l t x) ts
  unfolding in_target.TheBlock.hidden-the_row-Target-0 denote.Hole.Carrier.hidden
  row [] = refl
  row (t ∷ ts) = ap (λ b. target_reads l t x || b) (row ts)

  pub reads-signal : (t : Target FlatExpr) (p : Place) (g : ℕ) (s : Selection FlatExpr) → t ≡ made.Signal p g s → target_reads l t x ≡ part_reads l s x
  reads-signal t p g s is = ap (λ z. target_reads l z x) is

  pub reads-concatenation : (t : Target FlatExpr) (p : Place) (ts got : List (Target FlatExpr)) → t ≡ made.Concatenation p ts → got ≡ ts → target_reads l t x ≡ list_any (λ z. target_reads l z x) got
  reads-concatenation t p ts got is is_got = ap (λ z. target_reads l z x) is ∙ row ts ∙ ap (list_any (λ z. target_reads l z x)) (sym is_got)

module _ (signals : List FlatSignal) where
  parts_fit : (ts : List (Target FlatExpr)) → ReadableParts signals (in_target.TheBlock.hidden-the_row-Target-0 FlatExpr ts) → All (ReadableTarget signals) ts
  unfolding in_target.TheBlock.hidden-the_row-Target-0 denote.Hole.Carrier.hidden
  parts_fit [] h = All-nil (ReadableTarget signals)
  parts_fit (t ∷ ts) h = All-cons (ReadableTarget signals) t ts h.0 (parts_fit ts h.1)

  pub fits-signal : (t : Target FlatExpr) (p : Place) (g : ℕ) (s : Selection FlatExpr) → t ≡ made.Signal p g s → ReadableTarget signals t → HasReadable signals s
  fits-signal t p g s is h = subst (ReadableTarget signals) is h

  pub fits-concatenation : (t : Target FlatExpr) (p : Place) (ts got : List (Target FlatExpr)) → t ≡ made.Concatenation p ts → got ≡ ts → ReadableTarget signals t → All (ReadableTarget signals) got
  fits-concatenation t p ts got is is_got h = subst (All (ReadableTarget signals)) (sym is_got) (parts_fit ts (subst (ReadableTarget signals) is h))
