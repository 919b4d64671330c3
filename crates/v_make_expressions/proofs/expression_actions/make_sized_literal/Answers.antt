use Rattle.std.proofs.Common.{◌≡◌, [], ◌∷◌, ◌++◌, Some, None, true, false, reverse, sym, ap, ◌∙◌}
use Rattle.stack_parts.proofs.Takings.{two_found, two_lost}
use Rattle.v_stack.specs.Values.{with_based, with_decimal}
use Rattle.v_tree.specs.declared.expr.Expr.TheVariants as Expr
use Rattle.v_stack.specs.declared.values.ExprValue.TheVariants as ExprValue
use Rattle.v_tree.specs.declared.expr.Literal.TheVariants as Literal
use Rattle.v_stack.specs.declared.values.Value.TheVariants as Value
use Rattle.v_make_expressions.proofs.expression_actions.make_sized_literal.Goals as goal

pub returns : goal.returns
returns c =
    let e = two_found c.take_based-number.result c.take_decimal-size.result (with_based (reverse c.args.stack.now.items)) with_decimal (reverse c.take_based-number.new.stack.items) (reverse c.take_decimal-size.new.stack.items) c.take_based-number.ensures c.take_decimal-size.ensures (λ number size rest. Some (Value.Expr (ExprValue.Expr (Expr.Literal (Literal.Sized size number))) ∷ rest)) (c.in-Some.number, c.in-Some.size) (sym c.all_two.ensures ∙ c.in-Some.is) in
    let p = c.in_ok-put.ensures in
    cc

pub returns-in_default : goal.returns-in_default
returns-in_default c = two_lost c.take_based-number.result c.take_decimal-size.result (with_based (reverse c.args.stack.now.items)) with_decimal (reverse c.take_based-number.new.stack.items) (reverse c.take_decimal-size.new.stack.items) c.take_based-number.ensures c.take_decimal-size.ensures (λ number size rest. Some (Value.Expr (ExprValue.Expr (Expr.Literal (Literal.Sized size number))) ∷ rest)) (sym c.all_two.ensures ∙ c.in_default.is)
