-- The values of expressions look as the weaves of their actions say.
use Rattle.std.proofs.Common.{◌≡◌, ℕ, List, ◌∷◌, refl, ◌∙◌, ap, Some}
use Rattle.src_text.specs.declared.refusal.Place.{Place}
use Rattle.node_places.proofs.Beside.{end1, end2, end3, in_one, more_trees, more_first, both}
use Rattle.node_places.proofs.Looks.{of_values}
use Rattle.c_tree.specs.Starts.{expression_start}
use Rattle.c_tree.specs.Nodes.{path_trees, expression_trees}
use Rattle.c_depth.proofs.Equations.{element_start, parentheses_start, unary_start, cast_start, binary_start, conditional_start, element_trees, parentheses_trees, unary_trees, cast_trees, binary_trees, conditional_trees}
use Rattle.c_stack.specs.Values.{Values}
use Rattle.c_stack.specs.declared.values.Value.TheVariants as value
use Rattle.c_stack.specs.declared.values.TokenValue.TheVariants as token_value
use Rattle.c_stack.specs.declared.values.ExpressionValue.TheVariants as expression_value
use Rattle.c_actions.specs.Sorts.{sorts_of}
use Rattle.c_actions.specs.ExpressionActions.{after_expression_action}
use Rattle.c_actions.specs.declared.actions.ExpressionAction.TheVariants as expression_action
use Rattle.c_actions.proofs.TopOfSort.{has_binary_mark, has_expression, has_expressions, has_name, has_object, has_path, has_place, has_type, has_unary_mark}
use Rattle.c_depth.proofs.Values.{looks_of, Looks}

pub look_object : (nothing : Place) (own : Place) (st : Values) (rest : List ℕ) → sorts_of st ≡ 6 ∷ rest → Looks nothing (of_values 1 0) own st (after_expression_action expression_action.Object st)
look_object nothing own st rest e = has_name (Looks nothing (of_values 1 0) own) _ st _ e (λ name st1 e1. refl)

pub look_add_path_member : (nothing : Place) (own : Place) (st : Values) (rest : List ℕ) → sorts_of st ≡ 6 ∷ 40 ∷ rest → Looks nothing (of_values 2 0) own st (after_expression_action expression_action.AddPathMember st)
look_add_path_member nothing own st rest e = has_name (Looks nothing (of_values 2 0) own) _ st _ e (λ name st1 e1. has_object (λ s o. Looks nothing (of_values 2 0) own (value.Token (token_value.Name name) ∷ s) o) _ st1 _ e1 (λ object st2 e2. refl))

pub look_path : (nothing : Place) (own : Place) (st : Values) (rest : List ℕ) → sorts_of st ≡ 40 ∷ rest → Looks nothing (of_values 1 1) own st (after_expression_action expression_action.Path st)
look_path nothing own st rest e = has_object (Looks nothing (of_values 1 1) own) _ st _ e (λ object st1 e1. refl)

pub look_element : (nothing : Place) (own : Place) (st : Values) (rest : List ℕ) → sorts_of st ≡ 17 ∷ 3 ∷ 40 ∷ rest → Looks nothing (of_values 3 1) own st (after_expression_action expression_action.Element st)
look_element nothing own st rest e = has_expression (Looks nothing (of_values 3 1) own) _ st _ e (λ index st1 e1. has_place (λ s o. Looks nothing (of_values 3 1) own (value.Expression (expression_value.Expression index) ∷ s) o) _ st1 _ e1 (λ place st2 e2. has_object (λ s o. Looks nothing (of_values 3 1) own (value.Expression (expression_value.Expression index) ∷ value.Token (token_value.Place place) ∷ s) o) _ st2 _ e2 (λ object st3 e3. both (looks_of nothing st3) (ap Some (element_start object place index)) (element_trees object place index ∙ in_one object.name.place (end1 (expression_trees index))))))

pub look_no_expressions : (nothing : Place) (own : Place) (st : Values) (rest : List ℕ) → sorts_of st ≡ rest → Looks nothing (of_values 0 0) own st (after_expression_action expression_action.NoExpressions st)
look_no_expressions nothing own st rest e = refl

pub look_one_expression : (nothing : Place) (own : Place) (st : Values) (rest : List ℕ) → sorts_of st ≡ 17 ∷ rest → Looks nothing (of_values 1 0) own st (after_expression_action expression_action.OneExpression st)
look_one_expression nothing own st rest e = has_expression (Looks nothing (of_values 1 0) own) _ st _ e (λ expression st1 e1. refl)

pub look_add_expression : (nothing : Place) (own : Place) (st : Values) (rest : List ℕ) → sorts_of st ≡ 17 ∷ 22 ∷ rest → Looks nothing (of_values 2 0) own st (after_expression_action expression_action.AddExpression st)
look_add_expression nothing own st rest e = has_expression (Looks nothing (of_values 2 0) own) _ st _ e (λ expression st1 e1. has_expressions (λ s o. Looks nothing (of_values 2 0) own (value.Expression (expression_value.Expression expression) ∷ s) o) _ st1 _ e1 (λ expressions st2 e2. both (looks_of nothing st2) (more_first expression_start expressions expression) (more_trees expression_trees expressions expression)))

pub look_no_expression : (nothing : Place) (own : Place) (st : Values) (rest : List ℕ) → sorts_of st ≡ rest → Looks nothing (of_values 0 0) own st (after_expression_action expression_action.NoExpression st)
look_no_expression nothing own st rest e = refl

pub look_some_expression : (nothing : Place) (own : Place) (st : Values) (rest : List ℕ) → sorts_of st ≡ 17 ∷ rest → Looks nothing (of_values 1 0) own st (after_expression_action expression_action.SomeExpression st)
look_some_expression nothing own st rest e = has_expression (Looks nothing (of_values 1 0) own) _ st _ e (λ expression st1 e1. both (looks_of nothing st1) refl (end1 (expression_trees expression)))

pub look_read : (nothing : Place) (own : Place) (st : Values) (rest : List ℕ) → sorts_of st ≡ 37 ∷ rest → Looks nothing (of_values 1 0) own st (after_expression_action expression_action.Read st)
look_read nothing own st rest e = has_path (Looks nothing (of_values 1 0) own) _ st _ e (λ path_read st1 e1. both (looks_of nothing st1) refl (end1 (path_trees path_read)))

pub look_parentheses : (nothing : Place) (own : Place) (st : Values) (rest : List ℕ) → sorts_of st ≡ 17 ∷ 3 ∷ rest → Looks nothing (of_values 2 1) own st (after_expression_action expression_action.Parentheses st)
look_parentheses nothing own st rest e = has_expression (Looks nothing (of_values 2 1) own) _ st _ e (λ inside st1 e1. has_place (λ s o. Looks nothing (of_values 2 1) own (value.Expression (expression_value.Expression inside) ∷ s) o) _ st1 _ e1 (λ place st2 e2. both (looks_of nothing st2) (ap Some (parentheses_start place inside)) (parentheses_trees place inside ∙ in_one place (end1 (expression_trees inside)))))

pub look_unary : (nothing : Place) (own : Place) (st : Values) (rest : List ℕ) → sorts_of st ≡ 17 ∷ 41 ∷ rest → Looks nothing (of_values 2 1) own st (after_expression_action expression_action.Unary st)
look_unary nothing own st rest e = has_expression (Looks nothing (of_values 2 1) own) _ st _ e (λ operand st1 e1. has_unary_mark (λ s o. Looks nothing (of_values 2 1) own (value.Expression (expression_value.Expression operand) ∷ s) o) _ st1 _ e1 (λ mark st2 e2. both (looks_of nothing st2) (ap Some (unary_start mark operand)) (unary_trees mark operand ∙ in_one mark.place (end1 (expression_trees operand)))))

pub look_cast : (nothing : Place) (own : Place) (st : Values) (rest : List ℕ) → sorts_of st ≡ 17 ∷ 7 ∷ 3 ∷ rest → Looks nothing (of_values 3 1) own st (after_expression_action expression_action.Cast st)
look_cast nothing own st rest e = has_expression (Looks nothing (of_values 3 1) own) _ st _ e (λ operand st1 e1. has_type (λ s o. Looks nothing (of_values 3 1) own (value.Expression (expression_value.Expression operand) ∷ s) o) _ st1 _ e1 (λ type_name st2 e2. has_place (λ s o. Looks nothing (of_values 3 1) own (value.Expression (expression_value.Expression operand) ∷ value.Expression (expression_value.Type type_name) ∷ s) o) _ st2 _ e2 (λ place st3 e3. both (looks_of nothing st3) (ap Some (cast_start place type_name operand)) (cast_trees place type_name operand ∙ in_one place (end1 (expression_trees operand))))))

pub look_binary : (nothing : Place) (own : Place) (st : Values) (rest : List ℕ) → sorts_of st ≡ 17 ∷ 42 ∷ 17 ∷ rest → Looks nothing (of_values 3 1) own st (after_expression_action expression_action.Binary st)
look_binary nothing own st rest e = has_expression (Looks nothing (of_values 3 1) own) _ st _ e (λ right st1 e1. has_binary_mark (λ s o. Looks nothing (of_values 3 1) own (value.Expression (expression_value.Expression right) ∷ s) o) _ st1 _ e1 (λ mark st2 e2. has_expression (λ s o. Looks nothing (of_values 3 1) own (value.Expression (expression_value.Expression right) ∷ value.Token (token_value.BinaryMark mark) ∷ s) o) _ st2 _ e2 (λ left st3 e3. both (looks_of nothing st3) (ap Some (binary_start left mark right)) (binary_trees left mark right ∙ in_one (expression_start left) (end2 (expression_trees left) (expression_trees right))))))

pub look_conditional : (nothing : Place) (own : Place) (st : Values) (rest : List ℕ) → sorts_of st ≡ 17 ∷ 17 ∷ 3 ∷ 17 ∷ rest → Looks nothing (of_values 4 1) own st (after_expression_action expression_action.Conditional st)
look_conditional nothing own st rest e = has_expression (Looks nothing (of_values 4 1) own) _ st _ e (λ second st1 e1. has_expression (λ s o. Looks nothing (of_values 4 1) own (value.Expression (expression_value.Expression second) ∷ s) o) _ st1 _ e1 (λ first st2 e2. has_place (λ s o. Looks nothing (of_values 4 1) own (value.Expression (expression_value.Expression second) ∷ value.Expression (expression_value.Expression first) ∷ s) o) _ st2 _ e2 (λ place st3 e3. has_expression (λ s o. Looks nothing (of_values 4 1) own (value.Expression (expression_value.Expression second) ∷ value.Expression (expression_value.Expression first) ∷ value.Token (token_value.Place place) ∷ s) o) _ st3 _ e3 (λ condition st4 e4. both (looks_of nothing st4) (ap Some (conditional_start condition place first second)) (conditional_trees condition place first second ∙ in_one (expression_start condition) (end3 (expression_trees condition) (expression_trees first) (expression_trees second)))))))
