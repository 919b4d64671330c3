use Rattle.std.proofs.Common.{◌≡◌, [], ◌∷◌, ◌++◌, Some, None, reverse, sym, ◌∙◌}
use Rattle.stack_parts.proofs.Takings.{two_found, two_lost}
use Rattle.c_stack.specs.Values.{with_expression, with_unary_mark}
use Rattle.c_tree.specs.declared.expressions.Expression.TheVariants as expression
use Rattle.c_stack.specs.declared.values.Value.TheVariants as value
use Rattle.c_stack.specs.declared.values.ExpressionValue.TheVariants as expression_value
use Rattle.c_make_expressions.proofs.expression_actions.make_unary.Goals as goal

pub returns : goal.returns
returns c =
    let e = two_found c.take_expression-operand.result c.take_unary_mark-mark.result (with_expression (reverse c.args.stack.now.items)) with_unary_mark (reverse c.take_expression-operand.new.stack.items) (reverse c.take_unary_mark-mark.new.stack.items) c.take_expression-operand.ensures c.take_unary_mark-mark.ensures (λ operand mark rest. Some (value.Expression (expression_value.Expression (expression.Unary mark operand)) ∷ rest)) (c.in-Some.operand, c.in-Some.mark) (sym c.all_two.ensures ∙ c.in-Some.is) in
    let b0 = c.in_ok-operand.ensures in
    let p = c.in_ok-put.ensures in
    cc

pub returns-in_default : goal.returns-in_default
returns-in_default c = two_lost c.take_expression-operand.result c.take_unary_mark-mark.result (with_expression (reverse c.args.stack.now.items)) with_unary_mark (reverse c.take_expression-operand.new.stack.items) (reverse c.take_unary_mark-mark.new.stack.items) c.take_expression-operand.ensures c.take_unary_mark-mark.ensures (λ operand mark rest. Some (value.Expression (expression_value.Expression (expression.Unary mark operand)) ∷ rest)) (sym c.all_two.ensures ∙ c.in_default.is)
