use Rattle.std.proofs.Common.{◌≡◌, [], ◌∷◌, ◌++◌, Some, None, reverse, sym, ◌∙◌}
use Rattle.stack_parts.proofs.Takings.{two_found, two_lost}
use Rattle.c_stack.specs.Values.{with_expression, with_place}
use Rattle.c_tree.specs.declared.expressions.Expression.TheVariants as expression
use Rattle.c_stack.specs.declared.values.Value.TheVariants as value
use Rattle.c_stack.specs.declared.values.ExpressionValue.TheVariants as expression_value
use Rattle.c_make_expressions.proofs.expression_actions.make_parentheses.Goals as goal

pub returns : goal.returns
returns c =
    let e = two_found c.take_expression-inside.result c.take_place-place.result (with_expression (reverse c.args.stack.now.items)) with_place (reverse c.take_expression-inside.new.stack.items) (reverse c.take_place-place.new.stack.items) c.take_expression-inside.ensures c.take_place-place.ensures (λ inside place rest. Some (value.Expression (expression_value.Expression (expression.Parentheses place inside)) ∷ rest)) (c.in-Some.inside, c.in-Some.place) (sym c.all_two.ensures ∙ c.in-Some.is) in
    let b0 = c.in_ok-inside.ensures in
    let p = c.in_ok-put.ensures in
    cc

pub returns-in_default : goal.returns-in_default
returns-in_default c = two_lost c.take_expression-inside.result c.take_place-place.result (with_expression (reverse c.args.stack.now.items)) with_place (reverse c.take_expression-inside.new.stack.items) (reverse c.take_place-place.new.stack.items) c.take_expression-inside.ensures c.take_place-place.ensures (λ inside place rest. Some (value.Expression (expression_value.Expression (expression.Parentheses place inside)) ∷ rest)) (sym c.all_two.ensures ∙ c.in_default.is)
