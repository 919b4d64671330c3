use Rattle.std.proofs.Common.{◌≡◌, [], ◌∷◌, ◌++◌, Some, None, reverse, sym, ◌∙◌}
use Rattle.stack_parts.proofs.Takings.{three_found, three_lost}
use Rattle.c_stack.specs.Values.{with_expression, with_place, with_type}
use Rattle.c_tree.specs.declared.expressions.Expression.TheVariants as expression
use Rattle.c_stack.specs.declared.values.Value.TheVariants as value
use Rattle.c_stack.specs.declared.values.ExpressionValue.TheVariants as expression_value
use Rattle.c_make_expressions.proofs.expression_actions.make_cast.Goals as goal

pub returns : goal.returns
returns c =
    let e = three_found c.take_expression-operand.result c.take_type-type_name.result c.take_place-place.result (with_expression (reverse c.args.stack.now.items)) with_type with_place (reverse c.take_expression-operand.new.stack.items) (reverse c.take_type-type_name.new.stack.items) (reverse c.take_place-place.new.stack.items) c.take_expression-operand.ensures c.take_type-type_name.ensures c.take_place-place.ensures (λ operand type_name place rest. Some (value.Expression (expression_value.Expression (expression.Cast place type_name operand)) ∷ rest)) (c.in-Some.operand, c.in-Some.type_name, c.in-Some.place) (sym c.all_three.ensures ∙ c.in-Some.is) in
    let b0 = c.in_ok-operand.ensures in
    let p = c.in_ok-put.ensures in
    cc

pub returns-in_default : goal.returns-in_default
returns-in_default c = three_lost c.take_expression-operand.result c.take_type-type_name.result c.take_place-place.result (with_expression (reverse c.args.stack.now.items)) with_type with_place (reverse c.take_expression-operand.new.stack.items) (reverse c.take_type-type_name.new.stack.items) (reverse c.take_place-place.new.stack.items) c.take_expression-operand.ensures c.take_type-type_name.ensures c.take_place-place.ensures (λ operand type_name place rest. Some (value.Expression (expression_value.Expression (expression.Cast place type_name operand)) ∷ rest)) (sym c.all_three.ensures ∙ c.in_default.is)
