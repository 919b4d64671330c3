use Rattle.std.proofs.Common.{◌≡◌, [], ◌∷◌, ◌++◌, Some, None, reverse, sym, ◌∙◌}
use Rattle.stack_parts.proofs.Takings.{four_found, four_lost}
use Rattle.c_stack.specs.Values.{with_expression, with_place}
use Rattle.c_tree.specs.declared.expressions.Expression.TheVariants as expression
use Rattle.c_stack.specs.declared.values.Value.TheVariants as value
use Rattle.c_stack.specs.declared.values.ExpressionValue.TheVariants as expression_value
use Rattle.c_make_expressions.proofs.expression_actions.make_conditional.Goals as goal

pub returns : goal.returns
returns c =
    let e = four_found c.take_expression-second.result c.take_expression-first.result c.take_place-place.result c.take_expression-condition.result (with_expression (reverse c.args.stack.now.items)) with_expression with_place with_expression (reverse c.take_expression-second.new.stack.items) (reverse c.take_expression-first.new.stack.items) (reverse c.take_place-place.new.stack.items) (reverse c.take_expression-condition.new.stack.items) c.take_expression-second.ensures c.take_expression-first.ensures c.take_place-place.ensures c.take_expression-condition.ensures (λ second first place condition rest. Some (value.Expression (expression_value.Expression (expression.Conditional condition place first second)) ∷ rest)) (c.in-Some.second, c.in-Some.first, c.in-Some.place, c.in-Some.condition) (sym c.all_four.ensures ∙ c.in-Some.is) in
    let b = c.in_ok-condition.ensures in
    let b0 = b.0 in
    let b1 = b.1 in
    let b2 = b.2 in
    let p = c.in_ok-put.ensures in
    cc

pub returns-in_default : goal.returns-in_default
returns-in_default c = four_lost c.take_expression-second.result c.take_expression-first.result c.take_place-place.result c.take_expression-condition.result (with_expression (reverse c.args.stack.now.items)) with_expression with_place with_expression (reverse c.take_expression-second.new.stack.items) (reverse c.take_expression-first.new.stack.items) (reverse c.take_place-place.new.stack.items) (reverse c.take_expression-condition.new.stack.items) c.take_expression-second.ensures c.take_expression-first.ensures c.take_place-place.ensures c.take_expression-condition.ensures (λ second first place condition rest. Some (value.Expression (expression_value.Expression (expression.Conditional condition place first second)) ∷ rest)) (sym c.all_four.ensures ∙ c.in_default.is)
