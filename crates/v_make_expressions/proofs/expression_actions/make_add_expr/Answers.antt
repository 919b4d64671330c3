use Rattle.std.proofs.Common.{◌≡◌, [], ◌∷◌, ◌++◌, Some, None, true, false, reverse, sym, ap, ◌∙◌}
use Rattle.stack_parts.proofs.Takings.{two_lost}
use Rattle.v_stack.specs.Values.{with_expr, with_exprs}
use Rattle.v_stack.specs.declared.values.ExprValue.TheVariants as ExprValue
use Rattle.v_stack.specs.declared.values.Value.TheVariants as Value
use Rattle.v_make_expressions.proofs.expression_actions.make_add_expr.Goals as goal

pub returns-in_default : goal.returns-in_default
returns-in_default c = two_lost c.take_expr-expr.result c.take_exprs-exprs.result (with_expr (reverse c.args.stack.now.items)) with_exprs (reverse c.take_expr-expr.new.stack.items) (reverse c.take_exprs-exprs.new.stack.items) c.take_expr-expr.ensures c.take_exprs-exprs.ensures (λ expr exprs rest. Some (Value.Expr (ExprValue.Exprs (exprs ++ expr ∷ [])) ∷ rest)) (sym c.all_two.ensures ∙ c.in_default.is)
