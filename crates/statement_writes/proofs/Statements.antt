-- What a statement assigns, and what is asked of it, by its parts: `got` and `more` are they, as the code reads them.
use Rattle.std.proofs.Common.{◌≡◌, List, [], ◌∷◌, Bool, true, false, refl, sym, ap, ◌∙◌, subst}
use Rattle.std.specs.Prelude.{◌&&◌, ◌||◌, All}
use Rattle.std.specs.List.{list_any}
use Rattle.std.proofs.lemmas.List.Elements.{All-nil, All-cons}
use denote.Hole.Carrier.{hidden}
use Rattle.src_text.specs.declared.refusal.Place.{Place}
use Rattle.v_tree.specs.declared.stmt.AssignmentKind.{AssignmentKind}
use Rattle.v_views.specs.declared.Target.{Target}
use Rattle.v_views.specs.declared.Pattern.{Pattern}
use Rattle.v_views.specs.declared.Stmt.{Stmt}
use Rattle.v_views.specs.declared.Stmt as in_stmt
use Rattle.v_views.specs.declared.Stmt.TheVariants as made
use Rattle.v_views.specs.declared.CaseItem.{CaseItem}
use Rattle.v_views.specs.declared.CaseItem as in_item
use Rattle.v_views.specs.declared.CaseItem.TheVariants as made_item
use Rattle.v_views.specs.declared.CaseItem.TheBlock.{hidden-the_row-Stmt-0, hidden-the_row-Stmt-1, hidden-the_row-CaseItem-2}
use Rattle.v_views.specs.Spots.{Spot}
use Rattle.v_views.specs.Language.{Language}
use Rattle.v_views.specs.Names.{is_kind, target_assigns, assigns, row_assigns, items_assign}
use Rattle.flat_tree.specs.declared.expr.FlatExpr.{FlatExpr}
use Rattle.flat_tree.specs.declared.design.FlatSignal.{FlatSignal}
use Rattle.flat_writes.specs.Writes.{FitsTarget}
use Rattle.statement_writes.specs.Assigned.{FitsStmt, FitsBody, FitItems, FitsItem, item_assigns}

or_assoc : (a b c : Bool) → ((a || b) || c) ≡ (a || (b || c))
or_assoc true b c = refl
or_assoc false b c = refl

pub adds_none : (a : Bool) → a ≡ (a || false)
adds_none true = refl
adds_none false = refl

-- first one, then another
pub adds_both : (old one new a b : Bool) → one ≡ (old || a) → new ≡ (one || b) → new ≡ (old || (a || b))
adds_both old one new a b x y = y ∙ ap (λ z. z || b) x ∙ or_assoc old a b

module _ (l : Language FlatExpr) (by : AssignmentKind) (x : Spot) where
  body_row : (xs : List (Stmt FlatExpr)) → row_assigns l by (hidden-the_row-Stmt-1 FlatExpr xs) x ≡ list_any (λ s. assigns l by s x) xs
  unfolding hidden-the_row-Stmt-1 hidden
  body_row [] = refl
  body_row (s ∷ xs) = ap (λ b. assigns l by s x || b) (body_row xs)

  pub assigns-block : (s : Stmt FlatExpr) (p : Place) (body got : List (Stmt FlatExpr)) → s ≡ made.Block p body → got ≡ body → assigns l by s x ≡ list_any (λ z. assigns l by z x) got
  assigns-block s p body got is is_b = ap (λ z. assigns l by z x) is ∙ body_row body ∙ ap (list_any (λ z. assigns l by z x)) (sym is_b)

  pub assigns-if : (s : Stmt FlatExpr) (p : Place) (e : FlatExpr) (a got : Stmt FlatExpr) → s ≡ made.If p e a → got ≡ a → assigns l by s x ≡ assigns l by got x
  unfolding hidden-the_row-Stmt-0 hidden
  assigns-if s p e a got is is_a = ap (λ z. assigns l by z x) (is ∙ ap (made.If p e) (sym is_a))

  pub assigns-if-else : (s : Stmt FlatExpr) (p : Place) (e : FlatExpr) (a got b more : Stmt FlatExpr) → s ≡ made.IfElse p e a b → got ≡ a → more ≡ b → assigns l by s x ≡ (assigns l by got x || assigns l by more x)
  unfolding hidden-the_row-Stmt-0 hidden
  assigns-if-else s p e a got b more is is_a is_b = ap (λ z. assigns l by z x) (is ∙ ap (λ z. made.IfElse p e z b) (sym is_a) ∙ ap (made.IfElse p e got) (sym is_b))

  pub item-values : (i : CaseItem FlatExpr) (ps : List (Pattern FlatExpr)) (a got : Stmt FlatExpr) → i ≡ made_item.Values ps a → got ≡ a → item_assigns l by i x ≡ assigns l by got x
  unfolding hidden-the_row-Stmt-0 hidden
  item-values i ps a got is is_a = ap (λ z. item_assigns l by z x) (is ∙ ap (made_item.Values ps) (sym is_a))

  pub item-default : (i : CaseItem FlatExpr) (p : Place) (a got : Stmt FlatExpr) → i ≡ made_item.Default p a → got ≡ a → item_assigns l by i x ≡ assigns l by got x
  unfolding hidden-the_row-Stmt-0 hidden
  item-default i p a got is is_a = ap (λ z. item_assigns l by z x) (is ∙ ap (made_item.Default p) (sym is_a))

  one_item : (i : CaseItem FlatExpr) (xs : List (CaseItem FlatExpr)) → items_assign l by (hidden-the_row-CaseItem-2 FlatExpr (i ∷ xs)) x ≡ (item_assigns l by i x || items_assign l by (hidden-the_row-CaseItem-2 FlatExpr xs) x)
  unfolding hidden-the_row-Stmt-0 hidden-the_row-CaseItem-2 hidden
  one_item (in_item.Values' ps _ (in_stmt.more_of-Stmt a _)) xs = refl
  one_item (in_item.Default' p _ (in_stmt.more_of-Stmt a _)) xs = refl

  items_row : (xs : List (CaseItem FlatExpr)) → items_assign l by (hidden-the_row-CaseItem-2 FlatExpr xs) x ≡ list_any (λ i. item_assigns l by i x) xs
  unfolding hidden-the_row-CaseItem-2 hidden
  items_row [] = refl
  items_row (i ∷ xs) = one_item i xs ∙ ap (λ b. item_assigns l by i x || b) (items_row xs)

  pub assigns-case : (s : Stmt FlatExpr) (p : Place) (e : FlatExpr) (items got : List (CaseItem FlatExpr)) → s ≡ made.Case p e items → got ≡ items → assigns l by s x ≡ list_any (λ i. item_assigns l by i x) got
  assigns-case s p e items got is is_b = ap (λ z. assigns l by z x) is ∙ items_row items ∙ ap (list_any (λ i. item_assigns l by i x)) (sym is_b)

  pub assigns-assignment : (s : Stmt FlatExpr) (p : Place) (kind : AssignmentKind) (t : Target FlatExpr) (e : FlatExpr) → s ≡ made.Assignment p kind t e → assigns l by s x ≡ (is_kind l by kind && target_assigns l t x)
  assigns-assignment s p kind t e is = ap (λ z. assigns l by z x) is

module _ (signals : List FlatSignal) where
  body_fits : (xs : List (Stmt FlatExpr)) → FitsBody signals (hidden-the_row-Stmt-1 FlatExpr xs) → All (FitsStmt signals) xs
  unfolding hidden-the_row-Stmt-1 hidden
  body_fits [] h = All-nil (FitsStmt signals)
  body_fits (s ∷ xs) h = All-cons (FitsStmt signals) s xs h.0 (body_fits xs h.1)

  pub fits-block : (s : Stmt FlatExpr) (p : Place) (body got : List (Stmt FlatExpr)) → s ≡ made.Block p body → got ≡ body → FitsStmt signals s → All (FitsStmt signals) got
  fits-block s p body got is is_b h = subst (All (FitsStmt signals)) (sym is_b) (body_fits body (subst (FitsStmt signals) is h))

  pub fits-if : (s : Stmt FlatExpr) (p : Place) (e : FlatExpr) (a got : Stmt FlatExpr) → s ≡ made.If p e a → got ≡ a → FitsStmt signals s → FitsStmt signals got
  unfolding hidden-the_row-Stmt-0 hidden
  fits-if s p e a got is is_a h = subst (FitsStmt signals) (is ∙ ap (made.If p e) (sym is_a)) h

  pub fits-if-else : (s : Stmt FlatExpr) (p : Place) (e : FlatExpr) (a got b more : Stmt FlatExpr) → s ≡ made.IfElse p e a b → got ≡ a → more ≡ b → FitsStmt signals s → FitsStmt signals got × FitsStmt signals more
  unfolding hidden-the_row-Stmt-0 hidden
  fits-if-else s p e a got b more is is_a is_b h = subst (FitsStmt signals) (is ∙ ap (λ z. made.IfElse p e z b) (sym is_a) ∙ ap (made.IfElse p e got) (sym is_b)) h

  items_fit : (xs : List (CaseItem FlatExpr)) → FitItems signals (hidden-the_row-CaseItem-2 FlatExpr xs) → All (FitsItem signals) xs
  unfolding hidden-the_row-CaseItem-2 hidden
  items_fit [] h = All-nil (FitsItem signals)
  items_fit (i ∷ xs) h = All-cons (FitsItem signals) i xs h.0 (items_fit xs h.1)

  pub fits-case : (s : Stmt FlatExpr) (p : Place) (e : FlatExpr) (items got : List (CaseItem FlatExpr)) → s ≡ made.Case p e items → got ≡ items → FitsStmt signals s → All (FitsItem signals) got
  fits-case s p e items got is is_b h = subst (All (FitsItem signals)) (sym is_b) (items_fit items (subst (FitsStmt signals) is h))

  pub fits-assignment : (s : Stmt FlatExpr) (p : Place) (kind : AssignmentKind) (t : Target FlatExpr) (e : FlatExpr) → s ≡ made.Assignment p kind t e → FitsStmt signals s → FitsTarget signals t
  fits-assignment s p kind t e is h = subst (FitsStmt signals) is h

  pub fits-values : (i : CaseItem FlatExpr) (ps : List (Pattern FlatExpr)) (a got : Stmt FlatExpr) → i ≡ made_item.Values ps a → got ≡ a → FitsItem signals i → FitsStmt signals got
  unfolding hidden-the_row-Stmt-0 hidden
  fits-values i ps a got is is_a h = subst (FitsItem signals) (is ∙ ap (made_item.Values ps) (sym is_a)) h

  pub fits-default : (i : CaseItem FlatExpr) (p : Place) (a got : Stmt FlatExpr) → i ≡ made_item.Default p a → got ≡ a → FitsItem signals i → FitsStmt signals got
  unfolding hidden-the_row-Stmt-0 hidden
  fits-default i p a got is is_a h = subst (FitsItem signals) (is ∙ ap (made_item.Default p) (sym is_a)) h
