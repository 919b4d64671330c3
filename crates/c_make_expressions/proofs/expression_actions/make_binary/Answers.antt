use Rattle.std.proofs.Common.{◌≡◌, [], ◌∷◌, ◌++◌, Some, None, reverse, sym, ◌∙◌}
use Rattle.stack_parts.proofs.Takings.{three_found, three_lost}
use Rattle.c_stack.specs.Values.{with_binary_mark, with_expression}
use Rattle.c_tree.specs.declared.expressions.Expression.TheVariants as expression
use Rattle.c_stack.specs.declared.values.Value.TheVariants as value
use Rattle.c_stack.specs.declared.values.ExpressionValue.TheVariants as expression_value
use Rattle.c_make_expressions.proofs.expression_actions.make_binary.Goals as goal

pub returns : goal.returns
returns c =
    let e = three_found c.take_expression-right.result c.take_binary_mark-mark.result c.take_expression-left.result (with_expression (reverse c.args.stack.now.items)) with_binary_mark with_expression (reverse c.take_expression-right.new.stack.items) (reverse c.take_binary_mark-mark.new.stack.items) (reverse c.take_expression-left.new.stack.items) c.take_expression-right.ensures c.take_binary_mark-mark.ensures c.take_expression-left.ensures (λ right mark left rest. Some (value.Expression (expression_value.Expression (expression.Binary left mark right)) ∷ rest)) (c.in-Some.right, c.in-Some.mark, c.in-Some.left) (sym c.all_three.ensures ∙ c.in-Some.is) in
    let b = c.in_ok-left.ensures in
    let b0 = b.0 in
    let b1 = b.1 in
    let p = c.in_ok-put.ensures in
    cc

pub returns-in_default : goal.returns-in_default
returns-in_default c = three_lost c.take_expression-right.result c.take_binary_mark-mark.result c.take_expression-left.result (with_expression (reverse c.args.stack.now.items)) with_binary_mark with_expression (reverse c.take_expression-right.new.stack.items) (reverse c.take_binary_mark-mark.new.stack.items) (reverse c.take_expression-left.new.stack.items) c.take_expression-right.ensures c.take_binary_mark-mark.ensures c.take_expression-left.ensures (λ right mark left rest. Some (value.Expression (expression_value.Expression (expression.Binary left mark right)) ∷ rest)) (sym c.all_three.ensures ∙ c.in_default.is)
