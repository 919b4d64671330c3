use Rattle.std.proofs.Common.{◌≡◌, [], ◌∷◌, ◌++◌, Some, None, true, false, reverse, sym, ap, ◌∙◌}
use Rattle.stack_parts.proofs.Takings.{three_found, three_lost}
use Rattle.v_stack.specs.Values.{with_expr}
use Rattle.v_tree.specs.declared.expr.Expr.TheVariants as Expr
use Rattle.v_stack.specs.declared.values.ExprValue.TheVariants as ExprValue
use Rattle.v_stack.specs.declared.values.Value.TheVariants as Value
use Rattle.v_make_expressions.proofs.expression_actions.make_conditional.Goals as goal

pub returns : goal.returns
returns c =
    let e = three_found c.take_expr-other.result c.take_expr-one.result c.take_expr-condition.result (with_expr (reverse c.args.stack.now.items)) with_expr with_expr (reverse c.take_expr-other.new.stack.items) (reverse c.take_expr-one.new.stack.items) (reverse c.take_expr-condition.new.stack.items) c.take_expr-other.ensures c.take_expr-one.ensures c.take_expr-condition.ensures (λ other one condition rest. Some (Value.Expr (ExprValue.Expr (Expr.Conditional condition one other)) ∷ rest)) (c.in-Some.other, c.in-Some.one, c.in-Some.condition) (sym c.all_three.ensures ∙ c.in-Some.is) in
    let b = c.in_ok-condition.ensures in
    let b0 = b.0 in
    let b1 = b.1 in
    let b2 = b.2 in
    let p = c.in_ok-put.ensures in
    cc

pub returns-in_default : goal.returns-in_default
returns-in_default c = three_lost c.take_expr-other.result c.take_expr-one.result c.take_expr-condition.result (with_expr (reverse c.args.stack.now.items)) with_expr with_expr (reverse c.take_expr-other.new.stack.items) (reverse c.take_expr-one.new.stack.items) (reverse c.take_expr-condition.new.stack.items) c.take_expr-other.ensures c.take_expr-one.ensures c.take_expr-condition.ensures (λ other one condition rest. Some (Value.Expr (ExprValue.Expr (Expr.Conditional condition one other)) ∷ rest)) (sym c.all_three.ensures ∙ c.in_default.is)
