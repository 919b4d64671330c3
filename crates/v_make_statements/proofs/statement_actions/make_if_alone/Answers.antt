use Rattle.std.proofs.Common.{◌∷◌, Some, reverse, sym, ◌∙◌}
use Rattle.stack_parts.proofs.Takings.{three_found, three_lost}
use Rattle.v_stack.specs.Values.{with_expr, with_place, with_stmt}
use Rattle.v_tree.specs.declared.stmt.Stmt.TheVariants as Stmt
use Rattle.v_stack.specs.declared.values.StmtValue.TheVariants as StmtValue
use Rattle.v_stack.specs.declared.values.Value.TheVariants as Value
use Rattle.v_make_statements.proofs.statement_actions.make_if_alone.Goals as goal

pub returns : goal.returns
returns c =
    let e = three_found c.take_stmt-body.result c.take_expr-condition.result c.take_place-place.result (with_stmt (reverse c.args.stack.now.items)) with_expr with_place (reverse c.take_stmt-body.new.stack.items) (reverse c.take_expr-condition.new.stack.items) (reverse c.take_place-place.new.stack.items) c.take_stmt-body.ensures c.take_expr-condition.ensures c.take_place-place.ensures (λ body condition place rest. Some (Value.Stmt (StmtValue.Stmt (Stmt.If place condition body)) ∷ rest)) (c.in-Some.body, c.in-Some.condition, c.in-Some.place) (sym c.all_three.ensures ∙ c.in-Some.is) in
    let f = c.in_ok-body.ensures in
    let g = f.0 in
    let h = f.1 in
    let p = c.in_ok-put.ensures in
    cc

pub returns-in_default : goal.returns-in_default
returns-in_default c = three_lost c.take_stmt-body.result c.take_expr-condition.result c.take_place-place.result (with_stmt (reverse c.args.stack.now.items)) with_expr with_place (reverse c.take_stmt-body.new.stack.items) (reverse c.take_expr-condition.new.stack.items) (reverse c.take_place-place.new.stack.items) c.take_stmt-body.ensures c.take_expr-condition.ensures c.take_place-place.ensures (λ body condition place rest. Some (Value.Stmt (StmtValue.Stmt (Stmt.If place condition body)) ∷ rest)) (sym c.all_three.ensures ∙ c.in_default.is)
