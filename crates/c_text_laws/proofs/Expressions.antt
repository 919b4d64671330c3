-- Each action of an expression keeps what is known of the values on the stack.
use Rattle.std.specs.Prelude.{[], IfSome}
use Rattle.std.proofs.lemmas.List.Elements.{All-cons, All-nil, All-push}
use Rattle.c_tree.specs.declared.expressions.Expression as in_expression
use Rattle.c_stack.specs.Values.{Values}
use Rattle.c_actions.specs.declared.actions.ExpressionAction.{ExpressionAction}
use Rattle.c_actions.specs.declared.actions.ExpressionAction.TheVariants as action
use Rattle.c_actions.specs.ExpressionActions.{after_expression_action}
use Rattle.c_text_laws.specs.Bytes.{ExpressionBytes}
use Rattle.c_text_laws.proofs.Takes.{takes_binary_mark, takes_expression, takes_expressions, takes_name, takes_object, takes_path, takes_place, takes_type, takes_unary_mark}
use Rattle.c_text_laws.proofs.Values.{StackBytes}

pub expression_bytes : (a : ExpressionAction) (st : Values) → StackBytes st → IfSome (after_expression_action a st) StackBytes
unfolding in_expression.TheBlock.hidden-the_row-Expression-0 denote.Hole.Carrier.hidden
expression_bytes action.Object st h = takes_name st _ h (λ name rest h1. (tt, h1))
expression_bytes action.AddPathMember st h = takes_name st _ h (λ name st1 h1. takes_object st1 _ h1 (λ object rest h2. (tt, h2)))
expression_bytes action.Path st h = takes_object st _ h (λ object rest h1. (tt, h1))
expression_bytes action.Element st h = takes_expression st _ h (λ index st1 a h1. takes_place st1 _ h1 (λ place st2 h2. takes_object st2 _ h2 (λ object rest h3. (a, h3))))
expression_bytes action.NoExpressions st h = (All-nil ExpressionBytes, h)
expression_bytes action.OneExpression st h = takes_expression st _ h (λ expression rest a h1. (All-cons ExpressionBytes expression [] a (All-nil ExpressionBytes), h1))
expression_bytes action.AddExpression st h = takes_expression st _ h (λ expression st1 a h1. takes_expressions st1 _ h1 (λ expressions rest b h2. (All-push ExpressionBytes expressions expression b a, h2)))
expression_bytes action.NoExpression st h = (tt, h)
expression_bytes action.SomeExpression st h = takes_expression st _ h (λ expression rest a h1. (a, h1))
expression_bytes action.Read st h = takes_path st _ h (λ path_read rest a h1. (a, h1))
expression_bytes action.Parentheses st h = takes_expression st _ h (λ inside st1 a h1. takes_place st1 _ h1 (λ place rest h2. (a, h2)))
expression_bytes action.Unary st h = takes_expression st _ h (λ operand st1 a h1. takes_unary_mark st1 _ h1 (λ mark rest h2. (a, h2)))
expression_bytes action.Cast st h = takes_expression st _ h (λ operand st1 a h1. takes_type st1 _ h1 (λ type_name st2 h2. takes_place st2 _ h2 (λ place rest h3. (a, h3))))
expression_bytes action.Binary st h = takes_expression st _ h (λ right st1 a h1. takes_binary_mark st1 _ h1 (λ mark st2 h2. takes_expression st2 _ h2 (λ left rest b h3. ((b, a), h3))))
expression_bytes action.Conditional st h = takes_expression st _ h (λ second st1 a h1. takes_expression st1 _ h1 (λ first st2 b h2. takes_place st2 _ h2 (λ place st3 h3. takes_expression st3 _ h3 (λ condition rest c h4. ((c, b, a), h4)))))
