-- Actions of expressions (ISO C99, 6.5).
use Rattle.std.specs.Prelude.{[], ◌∷◌, ◌++◌, Option, Some, None}
use Rattle.c_actions.specs.declared.actions.ExpressionAction.{ExpressionAction}
use Rattle.c_actions.specs.declared.actions.ExpressionAction.TheVariants as action
use Rattle.c_tree.specs.declared.expressions.Expression.TheVariants as expression
use Rattle.c_tree.specs.declared.expressions.Path.TheVariants as path
use Rattle.c_stack.specs.declared.values.Value.TheVariants as value
use Rattle.c_stack.specs.declared.values.ExpressionValue.TheVariants as expression_value
use Rattle.c_stack.specs.Values.{Values, with_place, with_name, with_unary_mark, with_binary_mark, with_type, with_object, with_path, with_expression, with_expressions}

-- the stack after an action of an expression; none where it isn't as the action needs it
abbrev pub after_expression_action : ExpressionAction → Values → Option Values
-- Object = ID
after_expression_action action.Object st = with_name st (λ name rest. Some (value.Expression (expression_value.Object (record { name = name; members = [] })) ∷ rest))
-- Object = Object "." ID
after_expression_action action.AddPathMember st = with_name st (λ name st1. with_object st1 (λ object rest. Some (value.Expression (expression_value.Object (record { name = object.name; members = (object.members ++ name ∷ []) })) ∷ rest)))
-- Path = Object
after_expression_action action.Path st = with_object st (λ object rest. Some (value.Expression (expression_value.Path (path.Object object)) ∷ rest))
-- Path = Object "[" Expression "]"
after_expression_action action.Element st = with_expression st (λ index st1. with_place st1 (λ place st2. with_object st2 (λ object rest. Some (value.Expression (expression_value.Path (path.Element object place index)) ∷ rest))))
-- no expressions
after_expression_action action.NoExpressions st = Some (value.Expression (expression_value.Expressions []) ∷ st)
-- the first of several expressions
after_expression_action action.OneExpression st = with_expression st (λ expression rest. Some (value.Expression (expression_value.Expressions (expression ∷ [])) ∷ rest))
-- one more expression
after_expression_action action.AddExpression st = with_expression st (λ expression st1. with_expressions st1 (λ expressions rest. Some (value.Expression (expression_value.Expressions (expressions ++ expression ∷ [])) ∷ rest)))
-- no expression
after_expression_action action.NoExpression st = Some (value.Expression (expression_value.ExpressionOption None) ∷ st)
-- an expression where there may be none
after_expression_action action.SomeExpression st = with_expression st (λ expression rest. Some (value.Expression (expression_value.ExpressionOption (Some expression)) ∷ rest))
-- Primary = Path
after_expression_action action.Read st = with_path st (λ path_read rest. Some (value.Expression (expression_value.Expression (expression.Read path_read)) ∷ rest))
-- Primary = "(" Expression ")"
after_expression_action action.Parentheses st = with_expression st (λ inside st1. with_place st1 (λ place rest. Some (value.Expression (expression_value.Expression (expression.Parentheses place inside)) ∷ rest)))
-- Unary = ("+" | "-" | "!" | "~") Unary
after_expression_action action.Unary st = with_expression st (λ operand st1. with_unary_mark st1 (λ mark rest. Some (value.Expression (expression_value.Expression (expression.Unary mark operand)) ∷ rest)))
-- Unary = "(" Type ")" Unary
after_expression_action action.Cast st = with_expression st (λ operand st1. with_type st1 (λ type_name st2. with_place st2 (λ place rest. Some (value.Expression (expression_value.Expression (expression.Cast place type_name operand)) ∷ rest))))
-- an operator with its operands
after_expression_action action.Binary st = with_expression st (λ right st1. with_binary_mark st1 (λ mark st2. with_expression st2 (λ left rest. Some (value.Expression (expression_value.Expression (expression.Binary left mark right)) ∷ rest))))
-- Expression "?" Expression ":" Expression
after_expression_action action.Conditional st = with_expression st (λ second st1. with_expression st1 (λ first st2. with_place st2 (λ place st3. with_expression st3 (λ condition rest. Some (value.Expression (expression_value.Expression (expression.Conditional condition place first second)) ∷ rest)))))
