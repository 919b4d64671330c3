-- What a target of an output is, at the values that the reader makes.
use Rattle.std.proofs.Common.{◌≡◌, List, [], ◌∷◌, map, refl, ap}
use Rattle.src_text.specs.declared.refusal.Place.{Place}
use Rattle.v_tree.specs.declared.expr.Expr.{Expr}
use Rattle.v_tree.specs.declared.expr.Expr as in_expr
use Rattle.v_tree.specs.declared.expr.Expr.TheVariants as expr
use Rattle.v_tree.specs.declared.expr.Selection.{Selection}
use Rattle.v_tree.specs.declared.name.Identifier.{Identifier}
use Rattle.v_views.specs.declared.Target.TheVariants as made
use Rattle.elab_names.specs.Names.{Scope, find_in}
use Rattle.elab_flat.specs.Numbers.{signal_number}
use Rattle.elab_flat.specs.Flat.{flat_which}
use Rattle.elab_connections.specs.Targets.{output_target, output_parts}

module _ (names : Scope) where
  pub output_select : (x : Identifier) (s : Selection) → output_target names (expr.Select x s) ≡ made.Signal x.place (signal_number (find_in names x.name)) (flat_which names [] s)
  unfolding in_expr.TheBlock.hidden-the_row-Selection-0 denote.Hole.Carrier.hidden
  output_select x s = refl

  row_parts : (xs : List Expr) → output_parts names (in_expr.TheBlock.hidden-the_row-Expr-2 xs) ≡ map (output_target names) xs
  unfolding in_expr.TheBlock.hidden-the_row-Expr-2 denote.Hole.Carrier.hidden
  row_parts [] = refl
  row_parts (x ∷ xs) = ap (λ l. output_target names x ∷ l) (row_parts xs)

  pub output_concatenation : (place : Place) (xs : List Expr) → output_target names (expr.Concatenation place xs) ≡ made.Concatenation place (map (output_target names) xs)
  output_concatenation place xs = ap (made.Concatenation place) (row_parts xs)
