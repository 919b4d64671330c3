-- The parts of targets, one after the other.
use Rattle.std.proofs.Common.{◌≡◌, ℕ, ◌+◌, ◌-◌, ◌<◌, List, [], ◌∷◌, ◌++◌, length, take, get_or, Some, refl, sym, ap, ◌∙◌, subst, append-nil, append_assoc, arith}
use Rattle.std.specs.Prelude.{All, Option, slice_get}
use Rattle.std.proofs.lemmas.List.Elements.{All-nil, All-cons, All-append}
use Rattle.std.proofs.lemmas.List.{take_more}
use Rattle.src_text.specs.declared.refusal.Place.{Place}
use Rattle.v_views.specs.declared.Selection.{Selection}
use Rattle.v_views.specs.declared.Target.{Target}
use Rattle.v_views.specs.declared.Target as in_target
use Rattle.v_views.specs.declared.Target.TheVariants as made
use Rattle.v_views.specs.Spots.{Spot, View}
use Rattle.v_views.specs.Language.{Language}
use Rattle.v_views.specs.Run.{places, places_row, target_sites, target_row_sites, target_length, target_row_length}
use Rattle.flat_tree.specs.declared.expr.FlatExpr.{FlatExpr}
use Rattle.flat_tree.specs.declared.design.FlatSignal.{FlatSignal}
use Rattle.flat_language.proofs.Local.{flat_language}
use Rattle.flat_values.specs.Fits.{shapes_of, shape_or}
use Rattle.view_rows.specs.declared.stores.Part.{Part}
use Rattle.view_rows.specs.Rows.{part_places, FitsPart}
use Rattle.part_stores.specs.Stores.{seen, all_places, all_bits, ArePart}
use Rattle.target_parts.specs.Places.{IsSelected, row_places, row_sites, row_length, Adds, AddsTarget, AddsRow}

pub all_append : (xs ys : List Part) → all_places (xs ++ ys) ≡ all_places xs ++ all_places ys
all_append [] ys = refl
all_append (p ∷ xs) ys = ap (λ l. part_places p ++ l) (all_append xs ys) ∙ sym (append_assoc (part_places p) (all_places xs) (all_places ys))

-- a concatenation names what its parts do
pub row_is : (l : Language FlatExpr) (u : ℕ → ℕ) (xs : List (Target FlatExpr)) (v : View) (k : ℕ) → places_row l u (in_target.TheBlock.hidden-the_row-Target-0 FlatExpr xs) v k ≡ row_places l u xs v k
unfolding in_target.TheBlock.hidden-the_row-Target-0 denote.Hole.Carrier.hidden
row_is l u [] v k = refl
row_is l u (t ∷ ts) v k = ap (λ x. places l u t v k ++ x) (row_is l u ts v (k + target_sites l t))

-- and has the sites that they have
pub sites_are : (l : Language FlatExpr) (xs : List (Target FlatExpr)) → target_row_sites l (in_target.TheBlock.hidden-the_row-Target-0 FlatExpr xs) ≡ row_sites l xs
unfolding in_target.TheBlock.hidden-the_row-Target-0 denote.Hole.Carrier.hidden
sites_are l [] = refl
sites_are l (t ∷ ts) = ap (λ n. target_sites l t + n) (sites_are l ts)

sites_push : (l : Language FlatExpr) (xs : List (Target FlatExpr)) (t : Target FlatExpr) → row_sites l (xs ++ t ∷ []) ≡ row_sites l xs + target_sites l t
sites_push l [] t = omega arith
sites_push l (x ∷ xs) t = let e = sites_push l xs t in omega (arith, e)

pub length_is : (l : Language FlatExpr) (xs : List (Target FlatExpr)) → target_row_length l (in_target.TheBlock.hidden-the_row-Target-0 FlatExpr xs) ≡ row_length l xs
unfolding in_target.TheBlock.hidden-the_row-Target-0 denote.Hole.Carrier.hidden
length_is l [] = refl
length_is l (t ∷ ts) = ap (λ n. target_length l t + n) (length_is l ts)

length_push : (l : Language FlatExpr) (xs : List (Target FlatExpr)) (t : Target FlatExpr) → row_length l (xs ++ t ∷ []) ≡ row_length l xs + target_length l t
length_push l [] t = omega arith
length_push l (x ∷ xs) t = let e = length_push l xs t in omega (arith, e)

bits_append : (xs ys : List Part) → all_bits (xs ++ ys) ≡ all_bits xs + all_bits ys
bits_append [] ys = omega arith
bits_append (p ∷ xs) ys = let e = bits_append xs ys in omega (arith, e)

row_push : (l : Language FlatExpr) (u : ℕ → ℕ) (xs : List (Target FlatExpr)) (t : Target FlatExpr) (v : View) (k : ℕ) → row_places l u (xs ++ t ∷ []) v k ≡ row_places l u xs v k ++ places l u t v (k + row_sites l xs)
row_push l u [] t v k = append-nil (places l u t v k) ∙ ap (places l u t v) (let e : k ≡ k + 0 = omega arith in e)
row_push l u (x ∷ xs) t v k =
    let e : k + target_sites l x + row_sites l xs ≡ k + (target_sites l x + row_sites l xs) = omega arith in
    ap (λ y. places l u x v k ++ y) (row_push l u xs t v (k + target_sites l x) ∙ ap (λ n. row_places l u xs v (k + target_sites l x) ++ places l u t v n) e)
    ∙ sym (append_assoc (places l u x v k) (row_places l u xs v (k + target_sites l x)) (places l u t v (k + (target_sites l x + row_sites l xs))))

module _ (signals : List FlatSignal) where
  pub adds_none : (old : List Part) → AddsRow signals [] old old
  adds_none old = record { parts = []; is = sym (append-nil old); places = λ u v k. refl; fits = All-nil (FitsPart (length signals) (seen (shapes_of signals))); narrow = All-nil ArePart; none = refl; length_is = refl }

  pub adds_more : (xs : List (Target FlatExpr)) (t : Target FlatExpr) (a b c : List Part) → AddsRow signals xs a b → AddsTarget signals t b c → AddsRow signals (xs ++ t ∷ []) a c
  adds_more xs t a b c p q =
      let l = flat_language (shapes_of signals) in
      record {
        parts = p.parts ++ q.parts;
        is = q.is ∙ ap (λ x. x ++ q.parts) p.is ∙ append_assoc a p.parts q.parts;
        places = λ u v k. all_append p.parts q.parts ∙ ap (λ x. x ++ all_places q.parts) (p.places u v k) ∙ ap (λ x. row_places l u xs v k ++ x) (q.places u v (k + row_sites l xs)) ∙ sym (row_push l u xs t v k);
        fits = All-append (FitsPart (length signals) (seen (shapes_of signals))) p.parts q.parts p.fits q.fits;
        narrow = All-append ArePart p.parts q.parts p.narrow q.narrow;
        none = let e = sites_push l xs t in let a = p.none in let b = q.none in omega (arith, e, a, b);
        length_is = let c = bits_append p.parts q.parts in let e = length_push l xs t in let a = p.length_is in let b = q.length_is in omega (arith, c, e, a, b);
      }

  pub adds_concatenation : (t : Target FlatExpr) (p : Place) (xs got : List (Target FlatExpr)) (a b : List Part) → t ≡ made.Concatenation p xs → got ≡ xs → AddsRow signals got a b → AddsTarget signals t a b
  adds_concatenation t p xs got a b is same r =
      let l = flat_language (shapes_of signals) in
      record {
        parts = r.parts;
        is = r.is;
        places = λ u v k. r.places u v k ∙ ap (λ x. row_places l u x v k) same ∙ sym (row_is l u xs v k) ∙ sym (ap (λ x. places l u x v k) is);
        fits = r.fits;
        narrow = r.narrow;
        none = ap (target_sites l) is ∙ sites_are l xs ∙ sym (ap (row_sites l) same) ∙ r.none;
        length_is = r.length_is ∙ ap (row_length l) same ∙ sym (length_is l xs) ∙ sym (ap (target_length l) is);
      }

  pub adds_one : (t : Target FlatExpr) (p : Place) (g : ℕ) (s : Selection FlatExpr) (part : Part) (a b : List Part) → t ≡ made.Signal p g s → b ≡ a ++ part ∷ [] → g < length signals → IsSelected (shapes_of signals) g s part → AddsTarget signals t a b
  adds_one t p g s part a b is more lt x =
      let l = flat_language (shapes_of signals) in
      record {
        parts = part ∷ [];
        is = more;
        places = λ u v k. append-nil (part_places part) ∙ x.places u v k ∙ sym (ap (λ x. places l u x v k) is);
        fits = All-cons (FitsPart (length signals) (seen (shapes_of signals))) part [] (x.fits (length signals) lt) (All-nil (FitsPart (length signals) (seen (shapes_of signals))));
        narrow = All-cons ArePart part [] x.narrow (All-nil ArePart);
        none = ap (target_sites l) is ∙ x.sites;
        length_is = let one : (part.high - part.low + 1) + 0 ≡ part.high - part.low + 1 = omega arith in one ∙ x.bits ∙ sym (ap (target_length l) is);
      }

  -- the next target of a list
  pub loop_more : (xs : List (Target FlatExpr)) (i : ℕ) (x d : Target FlatExpr) (a b c : List Part) → i < length xs → x ≡ get_or xs i d → AddsRow signals (take i xs) a b → AddsTarget signals x b c → AddsRow signals (take (i + 1) xs) a c
  loop_more xs i x d a b c lt is p q =
      subst (λ ys. AddsRow signals ys a c) (sym (take_more xs i d lt)) (adds_more (take i xs) (get_or xs i d) a b c p (subst (λ y. AddsTarget signals y b c) is q))
