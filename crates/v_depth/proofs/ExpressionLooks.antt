-- The values of expressions look as the weaves of their actions say.
use Rattle.std.proofs.Common.{◌≡◌, ℕ, List, ◌∷◌, refl, ◌∙◌, ap, Some}
use Rattle.src_text.specs.declared.refusal.Place.{Place}
use Rattle.src_text.specs.Trees.{all_trees}
use Rattle.node_places.proofs.Beside.{end1, end2, end3, in_one, more_trees, more_first, both}
use Rattle.node_places.proofs.Looks.{of_values}
use Rattle.v_tree.specs.Nodes.{expr_trees, selection_trees}
use Rattle.v_tree.specs.Starts.{expr_start}
use Rattle.v_tree.proofs.Equations.{binary_start, conditional_start, select_trees, unary_trees, binary_trees, conditional_trees, parentheses_trees, signed_trees, unsigned_trees, concatenation_trees, replication_trees, index_trees, up_trees, down_trees}
use Rattle.v_tree.proofs.Equations as equations
use Rattle.v_stack.specs.Values.{Values}
use Rattle.v_stack.specs.declared.values.Value.TheVariants as Value
use Rattle.v_stack.specs.declared.values.TokenValue.TheVariants as TokenValue
use Rattle.v_stack.specs.declared.values.ExprValue.TheVariants as ExprValue
use Rattle.v_actions.specs.declared.actions.ExpressionAction.TheVariants as expr_action
use Rattle.v_actions.specs.ExpressionActions.{after_expression_action}
use Rattle.v_actions.specs.Sorts.{sorts_of}
use Rattle.v_actions.proofs.TopOfSort.{has_based, has_binary_operator, has_decimal, has_expr, has_exprs, has_name, has_place, has_selection, has_unary_operator}
use Rattle.v_depth.proofs.Values.{root_first, looks_of, Looks}
use Rattle.v_depth.proofs.Begins.{expr_root, also_root}

pub look_decimal_literal : (nothing own : Place) (st : Values) (rest : List ℕ) → sorts_of st ≡ 4 ∷ rest → Looks nothing (of_values 1 1) own st (after_expression_action expr_action.DecimalLiteral st)
look_decimal_literal nothing own st rest e = has_decimal (Looks nothing (of_values 1 1) own) _ st _ e (λ number st1 e1. refl)

pub look_based_literal : (nothing own : Place) (st : Values) (rest : List ℕ) → sorts_of st ≡ 5 ∷ rest → Looks nothing (of_values 1 1) own st (after_expression_action expr_action.BasedLiteral st)
look_based_literal nothing own st rest e = has_based (Looks nothing (of_values 1 1) own) _ st _ e (λ number st1 e1. refl)

pub look_sized_literal : (nothing own : Place) (st : Values) (rest : List ℕ) → sorts_of st ≡ 5 ∷ 4 ∷ rest → Looks nothing (of_values 2 1) own st (after_expression_action expr_action.SizedLiteral st)
look_sized_literal nothing own st rest e = has_based (Looks nothing (of_values 2 1) own) _ st _ e (λ number st1 e1. has_decimal (λ s o. Looks nothing (of_values 2 1) own (Value.Token (TokenValue.Based number) ∷ s) o) _ st1 _ e1 (λ size st2 e2. refl))

pub look_name_alone : (nothing own : Place) (st : Values) (rest : List ℕ) → sorts_of st ≡ 2 ∷ rest → Looks nothing (of_values 1 1) own st (after_expression_action expr_action.NameAlone st)
look_name_alone nothing own st rest e = has_name (Looks nothing (of_values 1 1) own) _ st _ e (λ name st1 e1. refl)

pub look_select : (nothing own : Place) (st : Values) (rest : List ℕ) → sorts_of st ≡ 10 ∷ 2 ∷ rest → Looks nothing (of_values 2 1) own st (after_expression_action expr_action.Select st)
look_select nothing own st rest e = has_selection (Looks nothing (of_values 2 1) own) _ st _ e (λ selection st1 e1. has_name (λ s o. Looks nothing (of_values 2 1) own (Value.Expr (ExprValue.Selection selection) ∷ s) o) _ st1 _ e1 (λ name st2 e2. both (looks_of nothing st2) refl (select_trees name selection ∙ in_one name.place (end1 (selection_trees selection)))))

pub look_unary : (nothing own : Place) (st : Values) (rest : List ℕ) → sorts_of st ≡ 9 ∷ 7 ∷ rest → Looks nothing (of_values 2 1) own st (after_expression_action expr_action.Unary st)
look_unary nothing own st rest e = has_expr (Looks nothing (of_values 2 1) own) _ st _ e (λ operand st1 e1. has_unary_operator (λ s o. Looks nothing (of_values 2 1) own (Value.Expr (ExprValue.Expr operand) ∷ s) o) _ st1 _ e1 (λ operator st2 e2. both (looks_of nothing st2) refl (unary_trees operator operand ∙ in_one operator.place (end1 (expr_trees operand)))))

pub look_binary : (nothing own : Place) (st : Values) (rest : List ℕ) → sorts_of st ≡ 9 ∷ 8 ∷ 9 ∷ rest → Looks nothing (of_values 3 1) own st (after_expression_action expr_action.Binary st)
look_binary nothing own st rest e = has_expr (Looks nothing (of_values 3 1) own) _ st _ e (λ right st1 e1. has_binary_operator (λ s o. Looks nothing (of_values 3 1) own (Value.Expr (ExprValue.Expr right) ∷ s) o) _ st1 _ e1 (λ operator st2 e2. has_expr (λ s o. Looks nothing (of_values 3 1) own (Value.Expr (ExprValue.Expr right) ∷ Value.Token (TokenValue.BinaryOperator operator) ∷ s) o) _ st2 _ e2 (λ left st3 e3. both (looks_of nothing st3) (ap Some (binary_start left right operator)) (binary_trees left right operator ∙ in_one (expr_start left) (end2 (expr_trees left) (expr_trees right))))))

pub look_conditional : (nothing own : Place) (st : Values) (rest : List ℕ) → sorts_of st ≡ 9 ∷ 9 ∷ 9 ∷ rest → Looks nothing (of_values 3 1) own st (after_expression_action expr_action.Conditional st)
look_conditional nothing own st rest e = has_expr (Looks nothing (of_values 3 1) own) _ st _ e (λ other st1 e1. has_expr (λ s o. Looks nothing (of_values 3 1) own (Value.Expr (ExprValue.Expr other) ∷ s) o) _ st1 _ e1 (λ one st2 e2. has_expr (λ s o. Looks nothing (of_values 3 1) own (Value.Expr (ExprValue.Expr other) ∷ Value.Expr (ExprValue.Expr one) ∷ s) o) _ st2 _ e2 (λ condition st3 e3. both (looks_of nothing st3) (ap Some (conditional_start condition one other)) (conditional_trees condition one other ∙ in_one (expr_start condition) (end3 (expr_trees condition) (expr_trees one) (expr_trees other))))))

pub look_parentheses : (nothing own : Place) (st : Values) (rest : List ℕ) → sorts_of st ≡ 9 ∷ 1 ∷ rest → Looks nothing (of_values 2 1) own st (after_expression_action expr_action.Parentheses st)
look_parentheses nothing own st rest e = has_expr (Looks nothing (of_values 2 1) own) _ st _ e (λ inner st1 e1. has_place (λ s o. Looks nothing (of_values 2 1) own (Value.Expr (ExprValue.Expr inner) ∷ s) o) _ st1 _ e1 (λ place st2 e2. both (looks_of nothing st2) refl (parentheses_trees place inner ∙ in_one place (end1 (expr_trees inner)))))

pub look_concatenation : (nothing own : Place) (st : Values) (rest : List ℕ) → sorts_of st ≡ 0 ∷ 1 ∷ rest → Looks nothing (of_values 2 1) own st (after_expression_action expr_action.Concatenation st)
look_concatenation nothing own st rest e = has_exprs (Looks nothing (of_values 2 1) own) _ st _ e (λ parts st1 e1. has_place (λ s o. Looks nothing (of_values 2 1) own (Value.Expr (ExprValue.Exprs parts) ∷ s) o) _ st1 _ e1 (λ place st2 e2. both (looks_of nothing st2) refl (concatenation_trees place parts ∙ in_one place (end1 (all_trees expr_trees parts)))))

pub look_replication : (nothing own : Place) (st : Values) (rest : List ℕ) → sorts_of st ≡ 0 ∷ 9 ∷ 1 ∷ rest → Looks nothing (of_values 3 1) own st (after_expression_action expr_action.Replication st)
look_replication nothing own st rest e = has_exprs (Looks nothing (of_values 3 1) own) _ st _ e (λ parts st1 e1. has_expr (λ s o. Looks nothing (of_values 3 1) own (Value.Expr (ExprValue.Exprs parts) ∷ s) o) _ st1 _ e1 (λ count st2 e2. has_place (λ s o. Looks nothing (of_values 3 1) own (Value.Expr (ExprValue.Exprs parts) ∷ Value.Expr (ExprValue.Expr count) ∷ s) o) _ st2 _ e2 (λ place st3 e3. both (looks_of nothing st3) refl (replication_trees place count parts ∙ in_one place (end2 (expr_trees count) (all_trees expr_trees parts))))))

pub look_signed_call : (nothing own : Place) (st : Values) (rest : List ℕ) → sorts_of st ≡ 9 ∷ 1 ∷ rest → Looks nothing (of_values 2 1) own st (after_expression_action expr_action.SignedCall st)
look_signed_call nothing own st rest e = has_expr (Looks nothing (of_values 2 1) own) _ st _ e (λ operand st1 e1. has_place (λ s o. Looks nothing (of_values 2 1) own (Value.Expr (ExprValue.Expr operand) ∷ s) o) _ st1 _ e1 (λ place st2 e2. both (looks_of nothing st2) refl (signed_trees place operand ∙ in_one place (end1 (expr_trees operand)))))

pub look_unsigned_call : (nothing own : Place) (st : Values) (rest : List ℕ) → sorts_of st ≡ 9 ∷ 1 ∷ rest → Looks nothing (of_values 2 1) own st (after_expression_action expr_action.UnsignedCall st)
look_unsigned_call nothing own st rest e = has_expr (Looks nothing (of_values 2 1) own) _ st _ e (λ operand st1 e1. has_place (λ s o. Looks nothing (of_values 2 1) own (Value.Expr (ExprValue.Expr operand) ∷ s) o) _ st1 _ e1 (λ place st2 e2. both (looks_of nothing st2) refl (unsigned_trees place operand ∙ in_one place (end1 (expr_trees operand)))))

pub look_index_selection : (nothing own : Place) (st : Values) (rest : List ℕ) → sorts_of st ≡ 9 ∷ rest → Looks nothing (of_values 1 0) own st (after_expression_action expr_action.IndexSelection st)
look_index_selection nothing own st rest e = has_expr (Looks nothing (of_values 1 0) own) _ st _ e (λ index st1 e1. both (looks_of nothing st1) (ap root_first (index_trees index) ∙ expr_root index) (index_trees index ∙ end1 (expr_trees index)))

pub look_range_selection : (nothing own : Place) (st : Values) (rest : List ℕ) → sorts_of st ≡ 9 ∷ 9 ∷ rest → Looks nothing (of_values 2 0) own st (after_expression_action expr_action.RangeSelection st)
look_range_selection nothing own st rest e = has_expr (Looks nothing (of_values 2 0) own) _ st _ e (λ low st1 e1. has_expr (λ s o. Looks nothing (of_values 2 0) own (Value.Expr (ExprValue.Expr low) ∷ s) o) _ st1 _ e1 (λ high st2 e2. both (looks_of nothing st2) (ap root_first (equations.range_trees high low) ∙ also_root (expr_trees high) (expr_trees low) (expr_start high) (expr_root high)) (equations.range_trees high low ∙ end2 (expr_trees high) (expr_trees low))))

pub look_up_selection : (nothing own : Place) (st : Values) (rest : List ℕ) → sorts_of st ≡ 9 ∷ 9 ∷ rest → Looks nothing (of_values 2 0) own st (after_expression_action expr_action.UpSelection st)
look_up_selection nothing own st rest e = has_expr (Looks nothing (of_values 2 0) own) _ st _ e (λ width st1 e1. has_expr (λ s o. Looks nothing (of_values 2 0) own (Value.Expr (ExprValue.Expr width) ∷ s) o) _ st1 _ e1 (λ base st2 e2. both (looks_of nothing st2) (ap root_first (up_trees base width) ∙ also_root (expr_trees base) (expr_trees width) (expr_start base) (expr_root base)) (up_trees base width ∙ end2 (expr_trees base) (expr_trees width))))

pub look_down_selection : (nothing own : Place) (st : Values) (rest : List ℕ) → sorts_of st ≡ 9 ∷ 9 ∷ rest → Looks nothing (of_values 2 0) own st (after_expression_action expr_action.DownSelection st)
look_down_selection nothing own st rest e = has_expr (Looks nothing (of_values 2 0) own) _ st _ e (λ width st1 e1. has_expr (λ s o. Looks nothing (of_values 2 0) own (Value.Expr (ExprValue.Expr width) ∷ s) o) _ st1 _ e1 (λ base st2 e2. both (looks_of nothing st2) (ap root_first (down_trees base width) ∙ also_root (expr_trees base) (expr_trees width) (expr_start base) (expr_root base)) (down_trees base width ∙ end2 (expr_trees base) (expr_trees width))))

pub look_no_exprs : (nothing own : Place) (st : Values) (rest : List ℕ) → sorts_of st ≡ rest → Looks nothing (of_values 0 0) own st (after_expression_action expr_action.NoExprs st)
look_no_exprs nothing own st rest e = refl

pub look_add_expr : (nothing own : Place) (st : Values) (rest : List ℕ) → sorts_of st ≡ 9 ∷ 0 ∷ rest → Looks nothing (of_values 2 0) own st (after_expression_action expr_action.AddExpr st)
look_add_expr nothing own st rest e = has_expr (Looks nothing (of_values 2 0) own) _ st _ e (λ expr st1 e1. has_exprs (λ s o. Looks nothing (of_values 2 0) own (Value.Expr (ExprValue.Expr expr) ∷ s) o) _ st1 _ e1 (λ exprs st2 e2. both (looks_of nothing st2) (more_first expr_start exprs expr) (more_trees expr_trees exprs expr)))

pub look_first_expr : (nothing own : Place) (st : Values) (rest : List ℕ) → sorts_of st ≡ 9 ∷ rest → Looks nothing (of_values 1 0) own st (after_expression_action expr_action.FirstExpr st)
look_first_expr nothing own st rest e = has_expr (Looks nothing (of_values 1 0) own) _ st _ e (λ expr st1 e1. refl)

pub look_some_expr : (nothing own : Place) (st : Values) (rest : List ℕ) → sorts_of st ≡ 9 ∷ rest → Looks nothing (of_values 1 0) own st (after_expression_action expr_action.SomeExpr st)
look_some_expr nothing own st rest e = has_expr (Looks nothing (of_values 1 0) own) _ st _ e (λ value st1 e1. both (looks_of nothing st1) refl (end1 (expr_trees value)))

pub look_no_expr : (nothing own : Place) (st : Values) (rest : List ℕ) → sorts_of st ≡ rest → Looks nothing (of_values 0 0) own st (after_expression_action expr_action.NoExpr st)
look_no_expr nothing own st rest e = refl
