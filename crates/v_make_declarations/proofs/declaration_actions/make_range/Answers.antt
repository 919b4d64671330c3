use Rattle.std.proofs.Common.{◌∷◌, Some, reverse, sym, ◌∙◌}
use Rattle.stack_parts.proofs.Takings.{three_found, three_lost}
use Rattle.v_stack.specs.Values.{with_expr, with_place}
use Rattle.v_stack.specs.declared.values.ExprValue.TheVariants as ExprValue
use Rattle.v_stack.specs.declared.values.Value.TheVariants as Value
use Rattle.v_make_declarations.proofs.declaration_actions.make_range.Goals as goal

pub returns : goal.returns
returns c =
    let e = three_found c.take_expr-low.result c.take_expr-high.result c.take_place-place.result (with_expr (reverse c.args.stack.now.items)) with_expr with_place (reverse c.take_expr-low.new.stack.items) (reverse c.take_expr-high.new.stack.items) (reverse c.take_place-place.new.stack.items) c.take_expr-low.ensures c.take_expr-high.ensures c.take_place-place.ensures (λ low high place rest. Some (Value.Expr (ExprValue.Range (record { place = place; high = high; low = low })) ∷ rest)) (c.in-Some.low, c.in-Some.high, c.in-Some.place) (sym c.all_three.ensures ∙ c.in-Some.is) in
    let p = c.in_ok-put.ensures in
    cc

pub returns-in_default : goal.returns-in_default
returns-in_default c = three_lost c.take_expr-low.result c.take_expr-high.result c.take_place-place.result (with_expr (reverse c.args.stack.now.items)) with_expr with_place (reverse c.take_expr-low.new.stack.items) (reverse c.take_expr-high.new.stack.items) (reverse c.take_place-place.new.stack.items) c.take_expr-low.ensures c.take_expr-high.ensures c.take_place-place.ensures (λ low high place rest. Some (Value.Expr (ExprValue.Range (record { place = place; high = high; low = low })) ∷ rest)) (sym c.all_three.ensures ∙ c.in_default.is)
