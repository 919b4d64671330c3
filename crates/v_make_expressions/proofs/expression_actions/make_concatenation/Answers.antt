use Rattle.std.proofs.Common.{◌≡◌, [], ◌∷◌, ◌++◌, Some, None, true, false, reverse, sym, ap, ◌∙◌}
use Rattle.stack_parts.proofs.Takings.{two_found, two_lost}
use Rattle.v_stack.specs.Values.{with_exprs, with_place}
use Rattle.v_tree.specs.declared.expr.Expr.TheVariants as Expr
use Rattle.v_stack.specs.declared.values.ExprValue.TheVariants as ExprValue
use Rattle.v_stack.specs.declared.values.Value.TheVariants as Value
use Rattle.v_make_expressions.proofs.expression_actions.make_concatenation.Goals as goal

pub returns : goal.returns
returns c =
    let e = two_found c.take_exprs-parts.result c.take_place-place.result (with_exprs (reverse c.args.stack.now.items)) with_place (reverse c.take_exprs-parts.new.stack.items) (reverse c.take_place-place.new.stack.items) c.take_exprs-parts.ensures c.take_place-place.ensures (λ parts place rest. Some (Value.Expr (ExprValue.Expr (Expr.Concatenation place parts)) ∷ rest)) (c.in-Some.parts, c.in-Some.place) (sym c.all_two.ensures ∙ c.in-Some.is) in
    let p = c.in_ok-put.ensures in
    cc

pub returns-in_default : goal.returns-in_default
returns-in_default c = two_lost c.take_exprs-parts.result c.take_place-place.result (with_exprs (reverse c.args.stack.now.items)) with_place (reverse c.take_exprs-parts.new.stack.items) (reverse c.take_place-place.new.stack.items) c.take_exprs-parts.ensures c.take_place-place.ensures (λ parts place rest. Some (Value.Expr (ExprValue.Expr (Expr.Concatenation place parts)) ∷ rest)) (sym c.all_two.ensures ∙ c.in_default.is)
