-- What an expression is measured as, at the values that the reader makes.
use Rattle.std.proofs.Common.{◌≡◌, List, [], ◌∷◌, map, true, false, refl, ap}
use Rattle.src_text.specs.declared.refusal.Place.{Place}
use Rattle.v_tree.specs.declared.expr.BinaryOperator.{BinaryOperator}
use Rattle.v_tree.specs.declared.expr.UnaryOperator.{UnaryOperator}
use Rattle.v_tree.specs.declared.expr.Expr.{Expr}
use Rattle.v_tree.specs.declared.expr.Expr as in_expr
use Rattle.v_tree.specs.declared.expr.Expr.TheVariants as expr
use Rattle.v_tree.specs.declared.expr.Selection.{Selection}
use Rattle.v_tree.specs.declared.expr.Selection.TheVariants as selection
use Rattle.v_tree.specs.declared.name.Identifier.{Identifier}
use Rattle.elab_names.specs.declared.measure.Measured.TheVariants as a
use Rattle.elab_names.specs.declared.names.Turn.{Turn}
use Rattle.elab_names.specs.declared.select.Choice.TheVariants as choice
use Rattle.elab_names.specs.Names.{Scope, find_in}
use Rattle.elab_names.specs.Operators.{form_of}
use Rattle.elab_names.specs.Selects.{number_of, select_standing}
use Rattle.elab_names.specs.Measured.{measured, choice_of, part_standings, constant_of, by_itself, by_form, by_operator, worth_of, concatenation, replicated, with_sign}

module _ (names : Scope) (turns : List Turn) where
  pub select_measured : (x : Identifier) (s : Selection) → measured names turns (expr.Select x s) ≡ a.Standing (select_standing turns (find_in names x.name) (choice_of names turns s))
  unfolding in_expr.TheBlock.hidden-the_row-Selection-0 denote.Hole.Carrier.hidden
  select_measured x s = refl

  pub unary_measured : (o : UnaryOperator) (p : Expr) → measured names turns (expr.Unary o p) ≡ by_operator o.op (measured names turns p)
  unfolding in_expr.TheBlock.hidden-the_row-Expr-1 denote.Hole.Carrier.hidden
  unary_measured o p = refl

  pub binary_measured : (o : BinaryOperator) (p q : Expr) → measured names turns (expr.Binary p o q) ≡ by_form (form_of o.op) o.op (measured names turns p) (measured names turns q)
  unfolding in_expr.TheBlock.hidden-the_row-Expr-1 denote.Hole.Carrier.hidden
  binary_measured o p q = refl

  pub conditional_measured : (c p q : Expr) → measured names turns (expr.Conditional c p q) ≡ a.Conditional (worth_of (by_itself (measured names turns c))) (measured names turns p) (measured names turns q)
  unfolding in_expr.TheBlock.hidden-the_row-Expr-1 denote.Hole.Carrier.hidden
  conditional_measured c p q = refl

  pub parentheses_measured : (place : Place) (p : Expr) → measured names turns (expr.Parentheses place p) ≡ measured names turns p
  unfolding in_expr.TheBlock.hidden-the_row-Expr-1 denote.Hole.Carrier.hidden
  parentheses_measured place p = refl

  pub signed_measured : (place : Place) (p : Expr) → measured names turns (expr.Signed place p) ≡ a.Standing (with_sign true (constant_of names turns p))
  unfolding in_expr.TheBlock.hidden-the_row-Expr-1 denote.Hole.Carrier.hidden
  signed_measured place p = refl

  pub unsigned_measured : (place : Place) (p : Expr) → measured names turns (expr.Unsigned place p) ≡ a.Standing (with_sign false (constant_of names turns p))
  unfolding in_expr.TheBlock.hidden-the_row-Expr-1 denote.Hole.Carrier.hidden
  unsigned_measured place p = refl

  row_standings : (xs : List Expr) → part_standings names turns (in_expr.TheBlock.hidden-the_row-Expr-2 xs) ≡ map (constant_of names turns) xs
  unfolding in_expr.TheBlock.hidden-the_row-Expr-2 denote.Hole.Carrier.hidden
  row_standings [] = refl
  row_standings (x ∷ xs) = ap (λ l. constant_of names turns x ∷ l) (row_standings xs)

  pub concatenation_measured : (place : Place) (xs : List Expr) → measured names turns (expr.Concatenation place xs) ≡ a.Standing (concatenation (map (constant_of names turns) xs))
  concatenation_measured place xs = ap (λ l. a.Standing (concatenation l)) (row_standings xs)

  pub replication_measured : (place : Place) (c : Expr) (xs : List Expr) → measured names turns (expr.Replication place c xs) ≡ a.Standing (replicated (number_of (constant_of names turns c)) (concatenation (map (constant_of names turns) xs)))
  unfolding in_expr.TheBlock.hidden-the_row-Expr-1 denote.Hole.Carrier.hidden
  replication_measured place c xs = ap (λ l. a.Standing (replicated (number_of (constant_of names turns c)) (concatenation l))) (row_standings xs)

  pub index_choice : (i : Expr) → choice_of names turns (selection.Index i) ≡ choice.Index (number_of (constant_of names turns i))
  unfolding in_expr.TheBlock.hidden-the_row-Expr-1 denote.Hole.Carrier.hidden
  index_choice i = refl

  pub range_choice : (h l : Expr) → choice_of names turns (selection.Range h l) ≡ choice.Range (number_of (constant_of names turns h)) (number_of (constant_of names turns l))
  unfolding in_expr.TheBlock.hidden-the_row-Expr-1 denote.Hole.Carrier.hidden
  range_choice h l = refl

  pub up_choice : (b w : Expr) → choice_of names turns (selection.Up b w) ≡ choice.Up (number_of (constant_of names turns b)) (number_of (constant_of names turns w))
  unfolding in_expr.TheBlock.hidden-the_row-Expr-1 denote.Hole.Carrier.hidden
  up_choice b w = refl

  pub down_choice : (b w : Expr) → choice_of names turns (selection.Down b w) ≡ choice.Down (number_of (constant_of names turns b)) (number_of (constant_of names turns w))
  unfolding in_expr.TheBlock.hidden-the_row-Expr-1 denote.Hole.Carrier.hidden
  down_choice b w = refl
