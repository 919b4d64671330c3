use Rattle.std.proofs.Common.{◌≡◌, [], ◌∷◌, ◌++◌, Some, None, reverse, sym, ◌∙◌}
use Rattle.stack_parts.proofs.Takings.{three_found, three_lost}
use Rattle.c_stack.specs.Values.{with_expression, with_object, with_place}
use Rattle.c_tree.specs.declared.expressions.Path.TheVariants as path
use Rattle.c_stack.specs.declared.values.Value.TheVariants as value
use Rattle.c_stack.specs.declared.values.ExpressionValue.TheVariants as expression_value
use Rattle.c_make_expressions.proofs.expression_actions.make_element.Goals as goal

pub returns : goal.returns
returns c =
    let e = three_found c.take_expression-index.result c.take_place-place.result c.take_object-object.result (with_expression (reverse c.args.stack.now.items)) with_place with_object (reverse c.take_expression-index.new.stack.items) (reverse c.take_place-place.new.stack.items) (reverse c.take_object-object.new.stack.items) c.take_expression-index.ensures c.take_place-place.ensures c.take_object-object.ensures (λ index place object rest. Some (value.Expression (expression_value.Path (path.Element object place index)) ∷ rest)) (c.in-Some.index, c.in-Some.place, c.in-Some.object) (sym c.all_three.ensures ∙ c.in-Some.is) in
    let f0 = c.in_ok-index.ensures in
    let g0 = f0.0 in
    let h0 = f0.1 in
    let p = c.in_ok-put.ensures in
    cc

pub returns-in_default : goal.returns-in_default
returns-in_default c = three_lost c.take_expression-index.result c.take_place-place.result c.take_object-object.result (with_expression (reverse c.args.stack.now.items)) with_place with_object (reverse c.take_expression-index.new.stack.items) (reverse c.take_place-place.new.stack.items) (reverse c.take_object-object.new.stack.items) c.take_expression-index.ensures c.take_place-place.ensures c.take_object-object.ensures (λ index place object rest. Some (value.Expression (expression_value.Path (path.Element object place index)) ∷ rest)) (sym c.all_three.ensures ∙ c.in_default.is)
