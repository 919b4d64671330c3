-- What is wrong with an expression or a target, at the values that the reader makes.
use Rattle.std.proofs.Common.{◌≡◌, List, [], ◌∷◌, ◌++◌, Bool, refl, ap}
use Rattle.std.specs.Prelude.{flat_map}
use Rattle.src_text.specs.declared.refusal.Place.{Place}
use Rattle.v_tree.specs.declared.expr.BinaryOperator.{BinaryOperator}
use Rattle.v_tree.specs.declared.expr.UnaryOperator.{UnaryOperator}
use Rattle.v_tree.specs.declared.expr.Expr.{Expr}
use Rattle.v_tree.specs.declared.expr.Expr as in_expr
use Rattle.v_tree.specs.declared.expr.Expr.TheVariants as expr
use Rattle.v_tree.specs.declared.expr.Selection.{Selection}
use Rattle.v_tree.specs.declared.expr.Selection.TheVariants as selection
use Rattle.v_tree.specs.declared.name.Identifier.{Identifier}
use Rattle.v_tree.specs.declared.stmt.Target.{Target}
use Rattle.v_tree.specs.declared.stmt.Target as in_target
use Rattle.v_tree.specs.declared.stmt.Target.TheVariants as target
use Rattle.elab_names.specs.declared.names.Turn.{Turn}
use Rattle.elab_names.specs.Names.{Scope, find_in}
use Rattle.elab_names.specs.Measured.{choice_of}
use Rattle.elab_offences.specs.Rules.{select_offences}
use Rattle.elab_offences.specs.Expressions.{expr_offences, selection_offences, parts_offences, span_offences, constant_offences, part_offences, spanning_offences}
use Rattle.elab_offences.specs.Targets.{target_offences, target_parts_offences}

module _ (names : Scope) (turns : List Turn) (fixed : Bool) where
  pub wrong_select : (x : Identifier) (s : Selection) → expr_offences names turns fixed (expr.Select x s) ≡
      select_offences turns x.place (find_in names x.name) (choice_of names turns s) ++ selection_offences names turns fixed s
  unfolding in_expr.TheBlock.hidden-the_row-Selection-0 denote.Hole.Carrier.hidden
  wrong_select x s = refl

  pub wrong_unary : (o : UnaryOperator) (p : Expr) → expr_offences names turns fixed (expr.Unary o p) ≡ expr_offences names turns fixed p
  unfolding in_expr.TheBlock.hidden-the_row-Expr-1 denote.Hole.Carrier.hidden
  wrong_unary o p = refl

  pub wrong_binary : (o : BinaryOperator) (p q : Expr) → expr_offences names turns fixed (expr.Binary p o q) ≡ expr_offences names turns fixed p ++ expr_offences names turns fixed q
  unfolding in_expr.TheBlock.hidden-the_row-Expr-1 denote.Hole.Carrier.hidden
  wrong_binary o p q = refl

  pub wrong_conditional : (c p q : Expr) → expr_offences names turns fixed (expr.Conditional c p q) ≡
      expr_offences names turns fixed c ++ (expr_offences names turns fixed p ++ expr_offences names turns fixed q)
  unfolding in_expr.TheBlock.hidden-the_row-Expr-1 denote.Hole.Carrier.hidden
  wrong_conditional c p q = refl

  pub wrong_parentheses : (place : Place) (p : Expr) → expr_offences names turns fixed (expr.Parentheses place p) ≡ expr_offences names turns fixed p
  unfolding in_expr.TheBlock.hidden-the_row-Expr-1 denote.Hole.Carrier.hidden
  wrong_parentheses place p = refl

  pub wrong_signed : (place : Place) (p : Expr) → expr_offences names turns fixed (expr.Signed place p) ≡ expr_offences names turns fixed p
  unfolding in_expr.TheBlock.hidden-the_row-Expr-1 denote.Hole.Carrier.hidden
  wrong_signed place p = refl

  pub wrong_unsigned : (place : Place) (p : Expr) → expr_offences names turns fixed (expr.Unsigned place p) ≡ expr_offences names turns fixed p
  unfolding in_expr.TheBlock.hidden-the_row-Expr-1 denote.Hole.Carrier.hidden
  wrong_unsigned place p = refl

  row_wrong : (xs : List Expr) → parts_offences names turns fixed (in_expr.TheBlock.hidden-the_row-Expr-2 xs) ≡ flat_map (part_offences names turns fixed) xs
  unfolding in_expr.TheBlock.hidden-the_row-Expr-2 denote.Hole.Carrier.hidden
  row_wrong [] = refl
  row_wrong (x ∷ xs) = ap (λ l. part_offences names turns fixed x ++ l) (row_wrong xs)

  pub wrong_concatenation : (place : Place) (xs : List Expr) → expr_offences names turns fixed (expr.Concatenation place xs) ≡ flat_map (part_offences names turns fixed) xs
  wrong_concatenation place xs = row_wrong xs

  pub wrong_replication : (place : Place) (c : Expr) (xs : List Expr) → expr_offences names turns fixed (expr.Replication place c xs) ≡
      constant_offences names turns c ++ (span_offences names turns 128 c ++ flat_map (part_offences names turns fixed) xs)
  unfolding in_expr.TheBlock.hidden-the_row-Expr-1 denote.Hole.Carrier.hidden
  wrong_replication place c xs = ap (λ l. constant_offences names turns c ++ (span_offences names turns 128 c ++ l)) (row_wrong xs)

  pub wrong_index : (i : Expr) → selection_offences names turns fixed (selection.Index i) ≡ expr_offences names turns fixed i
  unfolding in_expr.TheBlock.hidden-the_row-Expr-1 denote.Hole.Carrier.hidden
  wrong_index i = refl

  pub wrong_range : (h l : Expr) → selection_offences names turns fixed (selection.Range h l) ≡ constant_offences names turns h ++ constant_offences names turns l
  unfolding in_expr.TheBlock.hidden-the_row-Expr-1 denote.Hole.Carrier.hidden
  wrong_range h l = refl

  pub wrong_up : (b w : Expr) → selection_offences names turns fixed (selection.Up b w) ≡ expr_offences names turns fixed b ++ spanning_offences names turns 64 w
  unfolding in_expr.TheBlock.hidden-the_row-Expr-1 denote.Hole.Carrier.hidden
  wrong_up b w = refl

  pub wrong_down : (b w : Expr) → selection_offences names turns fixed (selection.Down b w) ≡ expr_offences names turns fixed b ++ spanning_offences names turns 64 w
  unfolding in_expr.TheBlock.hidden-the_row-Expr-1 denote.Hole.Carrier.hidden
  wrong_down b w = refl

module _ (names : Scope) (turns : List Turn) (register : Bool) where
  row_targets : (xs : List Target) → target_parts_offences names turns register (in_target.TheBlock.hidden-the_row-Target-0 xs) ≡ flat_map (target_offences names turns register) xs
  unfolding in_target.TheBlock.hidden-the_row-Target-0 denote.Hole.Carrier.hidden
  row_targets [] = refl
  row_targets (x ∷ xs) = ap (λ l. target_offences names turns register x ++ l) (row_targets xs)

  pub wrong_targets : (place : Place) (xs : List Target) → target_offences names turns register (target.Concatenation place xs) ≡ flat_map (target_offences names turns register) xs
  wrong_targets place xs = row_targets xs
