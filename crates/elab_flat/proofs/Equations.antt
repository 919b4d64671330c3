-- What the flat form of an expression is, at the values that the reader makes.
use Rattle.std.proofs.Common.{◌≡◌, ℕ, ◌+◌, ◌<◌, List, [], ◌∷◌, ◌++◌, length, take, get_or, map, refl, sym, ap, ◌∙◌, add-one}
use Rattle.std.proofs.Math.Seq.{take-suc}
use Rattle.std.proofs.lemmas.List.{map-append}
use Rattle.src_text.specs.declared.refusal.Place.{Place}
use Rattle.v_tree.specs.declared.expr.BinaryOperator.{BinaryOperator}
use Rattle.v_tree.specs.declared.expr.UnaryOperator.{UnaryOperator}
use Rattle.v_tree.specs.declared.expr.Expr.{Expr}
use Rattle.v_tree.specs.declared.expr.Expr as in_expr
use Rattle.v_tree.specs.declared.expr.Expr.TheVariants as expr
use Rattle.v_tree.specs.declared.expr.Selection.{Selection}
use Rattle.v_tree.specs.declared.expr.Selection.TheVariants as selection
use Rattle.v_tree.specs.declared.name.Identifier.{Identifier}
use Rattle.v_tree.specs.declared.stmt.Target.{Target}
use Rattle.v_tree.specs.declared.stmt.Target as in_target
use Rattle.v_tree.specs.declared.stmt.Target.TheVariants as target
use Rattle.flat_tree.specs.declared.expr.FlatExpr.TheVariants as flat
use Rattle.flat_tree.specs.declared.expr.FlatSelection.TheVariants as part
use Rattle.v_views.specs.declared.Selection.TheVariants as which
use Rattle.v_views.specs.declared.Target.TheVariants as made
use Rattle.elab_names.specs.declared.names.Turn.{Turn}
use Rattle.elab_names.specs.Names.{Scope, find_in}
use Rattle.elab_flat.specs.Numbers.{flat_select}
use Rattle.elab_flat.specs.Flat.{known, flat_expr, flat_selection, flat_parts, flat_which, flat_target, target_parts}

-- one more of a list
pub map_one_more : {X Y : Type 0} (f : X → Y) (xs : List X) (i : ℕ) (x d : X) (y : Y) (ys : List Y) → i < length xs → x ≡ get_or xs i d → y ≡ f x → ys ≡ map f (take i xs) → ys ++ y ∷ [] ≡ map f (take (i + 1) xs)
map_one_more f xs i x d y ys h is_x is_y is =
    ap (λ l. l ++ y ∷ []) is
    ∙ ap (λ z. map f (take i xs) ++ z ∷ []) (is_y ∙ ap f is_x)
    ∙ sym (ap (λ k. map f (take k xs)) (add-one i) ∙ ap (map f) (take-suc xs i d h) ∙ map-append f (take i xs) (get_or xs i d ∷ []))

module _ (names : Scope) (turns : List Turn) where
  pub flat_unary : (o : UnaryOperator) (p : Expr) → flat_expr names turns (expr.Unary o p) ≡ flat.Unary o (flat_expr names turns p)
  unfolding in_expr.TheBlock.hidden-the_row-Expr-1 denote.Hole.Carrier.hidden
  flat_unary o p = refl

  pub flat_binary : (o : BinaryOperator) (p q : Expr) → flat_expr names turns (expr.Binary p o q) ≡ flat.Binary (flat_expr names turns p) o (flat_expr names turns q)
  unfolding in_expr.TheBlock.hidden-the_row-Expr-1 denote.Hole.Carrier.hidden
  flat_binary o p q = refl

  pub flat_conditional : (c p q : Expr) → flat_expr names turns (expr.Conditional c p q) ≡ flat.Conditional (flat_expr names turns c) (flat_expr names turns p) (flat_expr names turns q)
  unfolding in_expr.TheBlock.hidden-the_row-Expr-1 denote.Hole.Carrier.hidden
  flat_conditional c p q = refl

  pub flat_parentheses : (place : Place) (p : Expr) → flat_expr names turns (expr.Parentheses place p) ≡ flat.Parentheses place (flat_expr names turns p)
  unfolding in_expr.TheBlock.hidden-the_row-Expr-1 denote.Hole.Carrier.hidden
  flat_parentheses place p = refl

  pub flat_signed : (place : Place) (p : Expr) → flat_expr names turns (expr.Signed place p) ≡ flat.Signed place (flat_expr names turns p)
  unfolding in_expr.TheBlock.hidden-the_row-Expr-1 denote.Hole.Carrier.hidden
  flat_signed place p = refl

  pub flat_unsigned : (place : Place) (p : Expr) → flat_expr names turns (expr.Unsigned place p) ≡ flat.Unsigned place (flat_expr names turns p)
  unfolding in_expr.TheBlock.hidden-the_row-Expr-1 denote.Hole.Carrier.hidden
  flat_unsigned place p = refl

  pub flat_selected : (x : Identifier) (s : Selection) → flat_expr names turns (expr.Select x s) ≡ flat_select turns x.place (find_in names x.name) (flat_selection names turns s)
  unfolding in_expr.TheBlock.hidden-the_row-Selection-0 denote.Hole.Carrier.hidden
  flat_selected x s = refl

  row_parts : (xs : List Expr) → flat_parts names turns (in_expr.TheBlock.hidden-the_row-Expr-2 xs) ≡ map (flat_expr names turns) xs
  unfolding in_expr.TheBlock.hidden-the_row-Expr-2 denote.Hole.Carrier.hidden
  row_parts [] = refl
  row_parts (x ∷ xs) = ap (λ l. flat_expr names turns x ∷ l) (row_parts xs)

  pub flat_concatenation : (place : Place) (xs : List Expr) → flat_expr names turns (expr.Concatenation place xs) ≡ flat.Concatenation place (map (flat_expr names turns) xs)
  flat_concatenation place xs = ap (flat.Concatenation place) (row_parts xs)

  pub flat_replication : (place : Place) (c : Expr) (xs : List Expr) → flat_expr names turns (expr.Replication place c xs) ≡ flat.Replication place (known names turns 128 c) (map (flat_expr names turns) xs)
  unfolding in_expr.TheBlock.hidden-the_row-Expr-1 denote.Hole.Carrier.hidden
  flat_replication place c xs = ap (flat.Replication place (known names turns 128 c)) (row_parts xs)

  pub selection_index : (i : Expr) → flat_selection names turns (selection.Index i) ≡ part.Bit (flat_expr names turns i)
  unfolding in_expr.TheBlock.hidden-the_row-Expr-1 denote.Hole.Carrier.hidden
  selection_index i = refl

  pub selection_range : (h l : Expr) → flat_selection names turns (selection.Range h l) ≡ part.Part (known names turns 4294967295 h) (known names turns 4294967295 l)
  unfolding in_expr.TheBlock.hidden-the_row-Expr-1 denote.Hole.Carrier.hidden
  selection_range h l = refl

  pub selection_up : (b w : Expr) → flat_selection names turns (selection.Up b w) ≡ part.Up (flat_expr names turns b) (known names turns 64 w)
  unfolding in_expr.TheBlock.hidden-the_row-Expr-1 denote.Hole.Carrier.hidden
  selection_up b w = refl

  pub selection_down : (b w : Expr) → flat_selection names turns (selection.Down b w) ≡ part.Down (flat_expr names turns b) (known names turns 64 w)
  unfolding in_expr.TheBlock.hidden-the_row-Expr-1 denote.Hole.Carrier.hidden
  selection_down b w = refl

  pub which_index : (i : Expr) → flat_which names turns (selection.Index i) ≡ which.Bit (flat_expr names turns i)
  unfolding in_expr.TheBlock.hidden-the_row-Expr-1 denote.Hole.Carrier.hidden
  which_index i = refl

  pub which_range : (h l : Expr) → flat_which names turns (selection.Range h l) ≡ which.Part (known names turns 4294967295 h) (known names turns 4294967295 l)
  unfolding in_expr.TheBlock.hidden-the_row-Expr-1 denote.Hole.Carrier.hidden
  which_range h l = refl

  pub which_up : (b w : Expr) → flat_which names turns (selection.Up b w) ≡ which.Up (flat_expr names turns b) (known names turns 64 w)
  unfolding in_expr.TheBlock.hidden-the_row-Expr-1 denote.Hole.Carrier.hidden
  which_up b w = refl

  pub which_down : (b w : Expr) → flat_which names turns (selection.Down b w) ≡ which.Down (flat_expr names turns b) (known names turns 64 w)
  unfolding in_expr.TheBlock.hidden-the_row-Expr-1 denote.Hole.Carrier.hidden
  which_down b w = refl

  row_targets : (xs : List Target) → target_parts names turns (in_target.TheBlock.hidden-the_row-Target-0 xs) ≡ map (flat_target names turns) xs
  unfolding in_target.TheBlock.hidden-the_row-Target-0 denote.Hole.Carrier.hidden
  row_targets [] = refl
  row_targets (x ∷ xs) = ap (λ l. flat_target names turns x ∷ l) (row_targets xs)

  pub target_concatenation : (place : Place) (xs : List Target) → flat_target names turns (target.Concatenation place xs) ≡ made.Concatenation place (map (flat_target names turns) xs)
  target_concatenation place xs = ap (made.Concatenation place) (row_targets xs)
