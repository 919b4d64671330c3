use Rattle.std.proofs.Common.{◌∷◌, Some, reverse, sym, ◌∙◌}
use Rattle.stack_parts.proofs.Takings.{three_found, three_lost}
use Rattle.v_stack.specs.Values.{with_case_items, with_expr, with_place}
use Rattle.v_tree.specs.declared.stmt.CaseKind.TheVariants as CaseKind
use Rattle.v_tree.specs.declared.stmt.Stmt.TheVariants as Stmt
use Rattle.v_stack.specs.declared.values.StmtValue.TheVariants as StmtValue
use Rattle.v_stack.specs.declared.values.Value.TheVariants as Value
use Rattle.v_make_statements.proofs.statement_actions.make_casez.Goals as goal

pub returns : goal.returns
returns c =
    let e = three_found c.take_case_items-items.result c.take_expr-value.result c.take_place-place.result (with_case_items (reverse c.args.stack.now.items)) with_expr with_place (reverse c.take_case_items-items.new.stack.items) (reverse c.take_expr-value.new.stack.items) (reverse c.take_place-place.new.stack.items) c.take_case_items-items.ensures c.take_expr-value.ensures c.take_place-place.ensures (λ items value place rest. Some (Value.Stmt (StmtValue.Stmt (Stmt.Case place CaseKind.Casez value items)) ∷ rest)) (c.in-Some.items, c.in-Some.value, c.in-Some.place) (sym c.all_three.ensures ∙ c.in-Some.is) in
    let p = c.in_ok-put.ensures in
    cc

pub returns-in_default : goal.returns-in_default
returns-in_default c = three_lost c.take_case_items-items.result c.take_expr-value.result c.take_place-place.result (with_case_items (reverse c.args.stack.now.items)) with_expr with_place (reverse c.take_case_items-items.new.stack.items) (reverse c.take_expr-value.new.stack.items) (reverse c.take_place-place.new.stack.items) c.take_case_items-items.ensures c.take_expr-value.ensures c.take_place-place.ensures (λ items value place rest. Some (Value.Stmt (StmtValue.Stmt (Stmt.Case place CaseKind.Casez value items)) ∷ rest)) (sym c.all_three.ensures ∙ c.in_default.is)
