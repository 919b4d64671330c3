use Rattle.std.proofs.Common.{◌∷◌, Some, reverse, sym, ◌∙◌}
use Rattle.stack_parts.proofs.Takings.{two_found, two_lost}
use Rattle.v_stack.specs.Values.{with_exprs, with_stmt}
use Rattle.v_tree.specs.declared.stmt.CaseItem.TheVariants as CaseItem
use Rattle.v_stack.specs.declared.values.StmtValue.TheVariants as StmtValue
use Rattle.v_stack.specs.declared.values.Value.TheVariants as Value
use Rattle.v_make_statements.proofs.statement_actions.make_values_item.Goals as goal

pub returns : goal.returns
returns c =
    let e = two_found c.take_stmt-body.result c.take_exprs-values.result (with_stmt (reverse c.args.stack.now.items)) with_exprs (reverse c.take_stmt-body.new.stack.items) (reverse c.take_exprs-values.new.stack.items) c.take_stmt-body.ensures c.take_exprs-values.ensures (λ body values rest. Some (Value.Stmt (StmtValue.CaseItem (CaseItem.Values values body)) ∷ rest)) (c.in-Some.body, c.in-Some.values) (sym c.all_two.ensures ∙ c.in-Some.is) in
    let f = c.in_ok-body.ensures in
    let g = f.0 in
    let h = f.1 in
    let p = c.in_ok-put.ensures in
    cc

pub returns-in_default : goal.returns-in_default
returns-in_default c = two_lost c.take_stmt-body.result c.take_exprs-values.result (with_stmt (reverse c.args.stack.now.items)) with_exprs (reverse c.take_stmt-body.new.stack.items) (reverse c.take_exprs-values.new.stack.items) c.take_stmt-body.ensures c.take_exprs-values.ensures (λ body values rest. Some (Value.Stmt (StmtValue.CaseItem (CaseItem.Values values body)) ∷ rest)) (sym c.all_two.ensures ∙ c.in_default.is)
