use Rattle.std.proofs.Common.{◌≡◌, [], ◌∷◌, ◌++◌, Some, None, reverse, sym, ◌∙◌}
use Rattle.stack_parts.proofs.Takings.{two_found, two_lost}
use Rattle.c_stack.specs.Values.{with_expression, with_expressions}
use Rattle.c_stack.specs.declared.values.Value.TheVariants as value
use Rattle.c_stack.specs.declared.values.ExpressionValue.TheVariants as expression_value
use Rattle.c_make_expressions.proofs.expression_actions.make_add_expression.Goals as goal

pub returns-in_default : goal.returns-in_default
returns-in_default c = two_lost c.take_expression-expression.result c.take_expressions-expressions.result (with_expression (reverse c.args.stack.now.items)) with_expressions (reverse c.take_expression-expression.new.stack.items) (reverse c.take_expressions-expressions.new.stack.items) c.take_expression-expression.ensures c.take_expressions-expressions.ensures (λ expression expressions rest. Some (value.Expression (expression_value.Expressions (expressions ++ expression ∷ [])) ∷ rest)) (sym c.all_two.ensures ∙ c.in_default.is)
