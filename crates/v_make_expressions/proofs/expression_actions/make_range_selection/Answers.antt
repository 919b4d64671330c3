use Rattle.std.proofs.Common.{◌≡◌, [], ◌∷◌, ◌++◌, Some, None, true, false, reverse, sym, ap, ◌∙◌}
use Rattle.stack_parts.proofs.Takings.{two_found, two_lost}
use Rattle.v_stack.specs.Values.{with_expr}
use Rattle.v_stack.specs.declared.values.ExprValue.TheVariants as ExprValue
use Rattle.v_tree.specs.declared.expr.Selection.TheVariants as Selection
use Rattle.v_stack.specs.declared.values.Value.TheVariants as Value
use Rattle.v_make_expressions.proofs.expression_actions.make_range_selection.Goals as goal

pub returns : goal.returns
returns c =
    let e = two_found c.take_expr-low.result c.take_expr-high.result (with_expr (reverse c.args.stack.now.items)) with_expr (reverse c.take_expr-low.new.stack.items) (reverse c.take_expr-high.new.stack.items) c.take_expr-low.ensures c.take_expr-high.ensures (λ low high rest. Some (Value.Expr (ExprValue.Selection (Selection.Range high low)) ∷ rest)) (c.in-Some.low, c.in-Some.high) (sym c.all_two.ensures ∙ c.in-Some.is) in
    let b = c.in_ok-high.ensures in
    let b0 = b.0 in
    let b1 = b.1 in
    let p = c.in_ok-put.ensures in
    cc

pub returns-in_default : goal.returns-in_default
returns-in_default c = two_lost c.take_expr-low.result c.take_expr-high.result (with_expr (reverse c.args.stack.now.items)) with_expr (reverse c.take_expr-low.new.stack.items) (reverse c.take_expr-high.new.stack.items) c.take_expr-low.ensures c.take_expr-high.ensures (λ low high rest. Some (Value.Expr (ExprValue.Selection (Selection.Range high low)) ∷ rest)) (sym c.all_two.ensures ∙ c.in_default.is)
