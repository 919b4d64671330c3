use Rattle.std.proofs.Common.{◌≡◌, [], ◌∷◌, ◌++◌, Some, None, true, false, reverse, sym, ap, ◌∙◌}
use Rattle.stack_parts.proofs.Takings.{two_found, two_lost}
use Rattle.v_stack.specs.Values.{with_name, with_selection}
use Rattle.v_tree.specs.declared.expr.Expr.TheVariants as Expr
use Rattle.v_stack.specs.declared.values.ExprValue.TheVariants as ExprValue
use Rattle.v_stack.specs.declared.values.Value.TheVariants as Value
use Rattle.v_make_expressions.proofs.expression_actions.make_select.Goals as goal

pub returns : goal.returns
returns c =
    let e = two_found c.take_selection-selection.result c.take_name-name.result (with_selection (reverse c.args.stack.now.items)) with_name (reverse c.take_selection-selection.new.stack.items) (reverse c.take_name-name.new.stack.items) c.take_selection-selection.ensures c.take_name-name.ensures (λ selection name rest. Some (Value.Expr (ExprValue.Expr (Expr.Select name selection)) ∷ rest)) (c.in-Some.selection, c.in-Some.name) (sym c.all_two.ensures ∙ c.in-Some.is) in
    let f = c.in_ok-selection.ensures in
    let g = f.0 in
    let h = f.1 in
    let p = c.in_ok-put.ensures in
    cc

pub returns-in_default : goal.returns-in_default
returns-in_default c = two_lost c.take_selection-selection.result c.take_name-name.result (with_selection (reverse c.args.stack.now.items)) with_name (reverse c.take_selection-selection.new.stack.items) (reverse c.take_name-name.new.stack.items) c.take_selection-selection.ensures c.take_name-name.ensures (λ selection name rest. Some (Value.Expr (ExprValue.Expr (Expr.Select name selection)) ∷ rest)) (sym c.all_two.ensures ∙ c.in_default.is)
