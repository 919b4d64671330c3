-- What a statement reads, and what is asked of it, by its parts: `got` and `more` are they, as the code reads them.
use Rattle.std.proofs.Common.{◌≡◌, List, [], ◌∷◌, Bool, true, false, refl, sym, ap, ◌∙◌, subst}
use Rattle.std.specs.Prelude.{◌||◌, All}
use Rattle.std.specs.List.{list_any}
use Rattle.std.proofs.lemmas.List.Elements.{All-nil, All-cons}
use denote.Hole.Carrier.{hidden}
use Rattle.src_text.specs.declared.refusal.Place.{Place}
use Rattle.v_tree.specs.declared.stmt.AssignmentKind.{AssignmentKind}
use Rattle.v_views.specs.declared.Target.{Target}
use Rattle.v_views.specs.declared.Pattern.{Pattern}
use Rattle.v_views.specs.declared.Stmt.{Stmt}
use Rattle.v_views.specs.declared.Stmt as in_stmt
use Rattle.v_views.specs.declared.Stmt.TheVariants as made
use Rattle.v_views.specs.declared.CaseItem.{CaseItem}
use Rattle.v_views.specs.declared.CaseItem as in_item
use Rattle.v_views.specs.declared.CaseItem.TheVariants as made_item
use Rattle.v_views.specs.declared.CaseItem.TheBlock.{hidden-the_row-Stmt-0, hidden-the_row-Stmt-1, hidden-the_row-CaseItem-2}
use Rattle.v_views.specs.Spots.{Spot}
use Rattle.v_views.specs.Language.{Language}
use Rattle.v_views.specs.Names.{target_reads, patterns_read, items_read, bodies_read, stmt_reads, row_reads}
use Rattle.flat_tree.specs.declared.expr.FlatExpr.{FlatExpr}
use Rattle.flat_tree.specs.declared.design.FlatSignal.{FlatSignal}
use Rattle.flat_reads.specs.Sets.{IsReadable}
use Rattle.statement_reads.specs.Reads.{IsReadablePattern, ReadableTarget, ReadableStmt, ReadableBody, ReadableItems, ReadableItem, item_reads}

-- of two things in two lists, sorted by list or by place
sorted : (a b c d : Bool) → ((a || c) || (b || d)) ≡ ((a || b) || (c || d))
sorted true b c d = refl
sorted false true true d = refl
sorted false true false d = refl
sorted false false true d = refl
sorted false false false d = refl

module _ (l : Language FlatExpr) (x : Spot) where
  body_row : (xs : List (Stmt FlatExpr)) → row_reads l (hidden-the_row-Stmt-1 FlatExpr xs) x ≡ list_any (λ s. stmt_reads l s x) xs
  unfolding hidden-the_row-Stmt-1 hidden
  body_row [] = refl
  body_row (s ∷ xs) = ap (λ b. stmt_reads l s x || b) (body_row xs)

  pub reads-block : (s : Stmt FlatExpr) (p : Place) (body got : List (Stmt FlatExpr)) → s ≡ made.Block p body → got ≡ body → stmt_reads l s x ≡ list_any (λ z. stmt_reads l z x) got
  reads-block s p body got is is_b = ap (λ z. stmt_reads l z x) is ∙ body_row body ∙ ap (list_any (λ z. stmt_reads l z x)) (sym is_b)

  pub reads-if : (s : Stmt FlatExpr) (p : Place) (e : FlatExpr) (a got : Stmt FlatExpr) → s ≡ made.If p e a → got ≡ a → stmt_reads l s x ≡ (l.reads e x || stmt_reads l got x)
  unfolding hidden-the_row-Stmt-0 hidden
  reads-if s p e a got is is_a = ap (λ z. stmt_reads l z x) (is ∙ ap (made.If p e) (sym is_a))

  pub reads-if-else : (s : Stmt FlatExpr) (p : Place) (e : FlatExpr) (a got b more : Stmt FlatExpr) → s ≡ made.IfElse p e a b → got ≡ a → more ≡ b → stmt_reads l s x ≡ (l.reads e x || (stmt_reads l got x || stmt_reads l more x))
  unfolding hidden-the_row-Stmt-0 hidden
  reads-if-else s p e a got b more is is_a is_b = ap (λ z. stmt_reads l z x) (is ∙ ap (λ z. made.IfElse p e z b) (sym is_a) ∙ ap (made.IfElse p e got) (sym is_b))

  pub reads-assignment : (s : Stmt FlatExpr) (p : Place) (kind : AssignmentKind) (t : Target FlatExpr) (e : FlatExpr) → s ≡ made.Assignment p kind t e → stmt_reads l s x ≡ (target_reads l t x || l.reads e x)
  reads-assignment s p kind t e is = ap (λ z. stmt_reads l z x) is

  values_row : (ps : List (Pattern FlatExpr)) → patterns_read l ps x ≡ list_any (λ (p : Pattern FlatExpr). l.reads p.value x) ps
  values_row [] = refl
  values_row (p ∷ ps) = ap (λ b. l.reads p.value x || b) (values_row ps)

  pub item-values : (i : CaseItem FlatExpr) (ps read : List (Pattern FlatExpr)) (a got : Stmt FlatExpr) → i ≡ made_item.Values ps a → read ≡ ps → got ≡ a → item_reads l i x ≡ (list_any (λ (p : Pattern FlatExpr). l.reads p.value x) read || stmt_reads l got x)
  unfolding hidden-the_row-Stmt-0 hidden
  item-values i ps read a got is is_p is_a =
      ap (λ z. item_reads l z x) (is ∙ ap (λ z. made_item.Values z a) (sym is_p) ∙ ap (made_item.Values read) (sym is_a))
      ∙ ap (λ b. b || stmt_reads l got x) (values_row read)

  pub item-default : (i : CaseItem FlatExpr) (p : Place) (a got : Stmt FlatExpr) → i ≡ made_item.Default p a → got ≡ a → item_reads l i x ≡ stmt_reads l got x
  unfolding hidden-the_row-Stmt-0 hidden
  item-default i p a got is is_a = ap (λ z. item_reads l z x) (is ∙ ap (made_item.Default p) (sym is_a))

  -- the values of all items, and their statements
  all_items : List (CaseItem FlatExpr) → Bool
  all_items xs = items_read l (hidden-the_row-CaseItem-2 FlatExpr xs) x || bodies_read l (hidden-the_row-CaseItem-2 FlatExpr xs) x

  one_item : (i : CaseItem FlatExpr) (xs : List (CaseItem FlatExpr)) → all_items (i ∷ xs) ≡ (item_reads l i x || all_items xs)
  unfolding hidden-the_row-Stmt-0 hidden-the_row-CaseItem-2 hidden all_items
  one_item (in_item.Values' ps _ (in_stmt.more_of-Stmt a _)) xs = sorted (patterns_read l ps x) (stmt_reads l a x) (items_read l (hidden-the_row-CaseItem-2 FlatExpr xs) x) (bodies_read l (hidden-the_row-CaseItem-2 FlatExpr xs) x)
  one_item (in_item.Default' p _ (in_stmt.more_of-Stmt a _)) xs = sorted false (stmt_reads l a x) (items_read l (hidden-the_row-CaseItem-2 FlatExpr xs) x) (bodies_read l (hidden-the_row-CaseItem-2 FlatExpr xs) x)

  items_row : (xs : List (CaseItem FlatExpr)) → all_items xs ≡ list_any (λ i. item_reads l i x) xs
  unfolding hidden-the_row-CaseItem-2 hidden all_items
  items_row [] = refl
  items_row (i ∷ xs) = one_item i xs ∙ ap (λ b. item_reads l i x || b) (items_row xs)

  pub reads-case : (s : Stmt FlatExpr) (p : Place) (e : FlatExpr) (items got : List (CaseItem FlatExpr)) → s ≡ made.Case p e items → got ≡ items → stmt_reads l s x ≡ (l.reads e x || list_any (λ i. item_reads l i x) got)
  unfolding all_items
  reads-case s p e items got is is_b =
      ap (λ z. stmt_reads l z x) is
      ∙ ap (λ b. l.reads e x || b) (items_row items ∙ ap (list_any (λ i. item_reads l i x)) (sym is_b))

module _ (signals : List FlatSignal) where
  body_fits : (xs : List (Stmt FlatExpr)) → ReadableBody signals (hidden-the_row-Stmt-1 FlatExpr xs) → All (ReadableStmt signals) xs
  unfolding hidden-the_row-Stmt-1 hidden
  body_fits [] h = All-nil (ReadableStmt signals)
  body_fits (s ∷ xs) h = All-cons (ReadableStmt signals) s xs h.0 (body_fits xs h.1)

  pub fits-block : (s : Stmt FlatExpr) (p : Place) (body got : List (Stmt FlatExpr)) → s ≡ made.Block p body → got ≡ body → ReadableStmt signals s → All (ReadableStmt signals) got
  fits-block s p body got is is_b h = subst (All (ReadableStmt signals)) (sym is_b) (body_fits body (subst (ReadableStmt signals) is h))

  pub fits-if : (s : Stmt FlatExpr) (p : Place) (e : FlatExpr) (a got : Stmt FlatExpr) → s ≡ made.If p e a → got ≡ a → ReadableStmt signals s → IsReadable signals e × ReadableStmt signals got
  unfolding hidden-the_row-Stmt-0 hidden
  fits-if s p e a got is is_a h = subst (ReadableStmt signals) (is ∙ ap (made.If p e) (sym is_a)) h

  pub fits-if-else : (s : Stmt FlatExpr) (p : Place) (e : FlatExpr) (a got b more : Stmt FlatExpr) → s ≡ made.IfElse p e a b → got ≡ a → more ≡ b → ReadableStmt signals s → IsReadable signals e × ReadableStmt signals got × ReadableStmt signals more
  unfolding hidden-the_row-Stmt-0 hidden
  fits-if-else s p e a got b more is is_a is_b h = subst (ReadableStmt signals) (is ∙ ap (λ z. made.IfElse p e z b) (sym is_a) ∙ ap (made.IfElse p e got) (sym is_b)) h

  items_fit : (xs : List (CaseItem FlatExpr)) → ReadableItems signals (hidden-the_row-CaseItem-2 FlatExpr xs) → All (ReadableItem signals) xs
  unfolding hidden-the_row-CaseItem-2 hidden
  items_fit [] h = All-nil (ReadableItem signals)
  items_fit (i ∷ xs) h = All-cons (ReadableItem signals) i xs h.0 (items_fit xs h.1)

  case_fits : (p : Place) (e : FlatExpr) (items : List (CaseItem FlatExpr)) → ReadableStmt signals (made.Case p e items) → IsReadable signals e × All (ReadableItem signals) items
  case_fits p e items h = (h.0, items_fit items h.1)

  pub fits-case : (s : Stmt FlatExpr) (p : Place) (e : FlatExpr) (items got : List (CaseItem FlatExpr)) → s ≡ made.Case p e items → got ≡ items → ReadableStmt signals s → IsReadable signals e × All (ReadableItem signals) got
  fits-case s p e items got is is_b h =
      let f = case_fits p e items (subst (ReadableStmt signals) is h) in
      (f.0, subst (All (ReadableItem signals)) (sym is_b) f.1)

  pub fits-assignment : (s : Stmt FlatExpr) (p : Place) (kind : AssignmentKind) (t : Target FlatExpr) (e : FlatExpr) → s ≡ made.Assignment p kind t e → ReadableStmt signals s → ReadableTarget signals t × IsReadable signals e
  fits-assignment s p kind t e is h = subst (ReadableStmt signals) is h

  pub fits-values : (i : CaseItem FlatExpr) (ps read : List (Pattern FlatExpr)) (a got : Stmt FlatExpr) → i ≡ made_item.Values ps a → read ≡ ps → got ≡ a → ReadableItem signals i → All (IsReadablePattern signals) read × ReadableStmt signals got
  unfolding hidden-the_row-Stmt-0 hidden
  fits-values i ps read a got is is_p is_a h = subst (ReadableItem signals) (is ∙ ap (λ z. made_item.Values z a) (sym is_p) ∙ ap (made_item.Values read) (sym is_a)) h

  pub fits-default : (i : CaseItem FlatExpr) (p : Place) (a got : Stmt FlatExpr) → i ≡ made_item.Default p a → got ≡ a → ReadableItem signals i → ReadableStmt signals got
  unfolding hidden-the_row-Stmt-0 hidden
  fits-default i p a got is is_a h = subst (ReadableItem signals) (is ∙ ap (made_item.Default p) (sym is_a)) h
