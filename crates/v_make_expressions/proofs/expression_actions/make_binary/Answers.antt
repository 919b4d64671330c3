use Rattle.std.proofs.Common.{◌≡◌, [], ◌∷◌, ◌++◌, Some, None, true, false, reverse, sym, ap, ◌∙◌}
use Rattle.stack_parts.proofs.Takings.{three_found, three_lost}
use Rattle.v_stack.specs.Values.{with_binary_operator, with_expr}
use Rattle.v_tree.specs.declared.expr.Expr.TheVariants as Expr
use Rattle.v_stack.specs.declared.values.ExprValue.TheVariants as ExprValue
use Rattle.v_stack.specs.declared.values.Value.TheVariants as Value
use Rattle.v_make_expressions.proofs.expression_actions.make_binary.Goals as goal

pub returns : goal.returns
returns c =
    let e = three_found c.take_expr-right.result c.take_binary_operator-operator.result c.take_expr-left.result (with_expr (reverse c.args.stack.now.items)) with_binary_operator with_expr (reverse c.take_expr-right.new.stack.items) (reverse c.take_binary_operator-operator.new.stack.items) (reverse c.take_expr-left.new.stack.items) c.take_expr-right.ensures c.take_binary_operator-operator.ensures c.take_expr-left.ensures (λ right operator left rest. Some (Value.Expr (ExprValue.Expr (Expr.Binary left operator right)) ∷ rest)) (c.in-Some.right, c.in-Some.operator, c.in-Some.left) (sym c.all_three.ensures ∙ c.in-Some.is) in
    let b = c.in_ok-left.ensures in
    let b0 = b.0 in
    let b1 = b.1 in
    let p = c.in_ok-put.ensures in
    cc

pub returns-in_default : goal.returns-in_default
returns-in_default c = three_lost c.take_expr-right.result c.take_binary_operator-operator.result c.take_expr-left.result (with_expr (reverse c.args.stack.now.items)) with_binary_operator with_expr (reverse c.take_expr-right.new.stack.items) (reverse c.take_binary_operator-operator.new.stack.items) (reverse c.take_expr-left.new.stack.items) c.take_expr-right.ensures c.take_binary_operator-operator.ensures c.take_expr-left.ensures (λ right operator left rest. Some (Value.Expr (ExprValue.Expr (Expr.Binary left operator right)) ∷ rest)) (sym c.all_three.ensures ∙ c.in_default.is)
