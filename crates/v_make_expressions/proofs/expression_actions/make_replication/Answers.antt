use Rattle.std.proofs.Common.{◌≡◌, [], ◌∷◌, ◌++◌, Some, None, true, false, reverse, sym, ap, ◌∙◌}
use Rattle.stack_parts.proofs.Takings.{three_found, three_lost}
use Rattle.v_stack.specs.Values.{with_expr, with_exprs, with_place}
use Rattle.v_tree.specs.declared.expr.Expr.TheVariants as Expr
use Rattle.v_stack.specs.declared.values.ExprValue.TheVariants as ExprValue
use Rattle.v_stack.specs.declared.values.Value.TheVariants as Value
use Rattle.v_make_expressions.proofs.expression_actions.make_replication.Goals as goal

pub returns : goal.returns
returns c =
    let e = three_found c.take_exprs-parts.result c.take_expr-count.result c.take_place-place.result (with_exprs (reverse c.args.stack.now.items)) with_expr with_place (reverse c.take_exprs-parts.new.stack.items) (reverse c.take_expr-count.new.stack.items) (reverse c.take_place-place.new.stack.items) c.take_exprs-parts.ensures c.take_expr-count.ensures c.take_place-place.ensures (λ parts count place rest. Some (Value.Expr (ExprValue.Expr (Expr.Replication place count parts)) ∷ rest)) (c.in-Some.parts, c.in-Some.count, c.in-Some.place) (sym c.all_three.ensures ∙ c.in-Some.is) in
    let f = c.in_ok-count.ensures in
    let g = f.0 in
    let h = f.1 in
    let p = c.in_ok-put.ensures in
    cc

pub returns-in_default : goal.returns-in_default
returns-in_default c = three_lost c.take_exprs-parts.result c.take_expr-count.result c.take_place-place.result (with_exprs (reverse c.args.stack.now.items)) with_expr with_place (reverse c.take_exprs-parts.new.stack.items) (reverse c.take_expr-count.new.stack.items) (reverse c.take_place-place.new.stack.items) c.take_exprs-parts.ensures c.take_expr-count.ensures c.take_place-place.ensures (λ parts count place rest. Some (Value.Expr (ExprValue.Expr (Expr.Replication place count parts)) ∷ rest)) (sym c.all_three.ensures ∙ c.in_default.is)
