use Rattle.std.proofs.Common.{◌∷◌, Some, reverse, sym, ap, ◌∙◌}
use Rattle.stack_parts.proofs.Takings.{seven_found, seven_lost}
use Rattle.v_stack.specs.Values.{with_expr, with_name, with_place, with_stmt}
use Rattle.v_tree.specs.declared.stmt.Stmt.TheVariants as Stmt
use Rattle.v_stack.specs.declared.values.StmtValue.TheVariants as StmtValue
use Rattle.v_stack.specs.declared.values.Value.TheVariants as Value
use Rattle.v_make_statements.proofs.statement_actions.make_for.Goals as goal

pub returns : goal.returns
returns c =
    let e = seven_found c.take_stmt-body.result c.take_expr-next.result c.take_name-step.result c.take_expr-condition.result c.take_expr-first.result c.take_name-start.result c.take_place-place.result (with_stmt (reverse c.args.stack.now.items)) with_expr with_name with_expr with_expr with_name with_place (reverse c.take_stmt-body.new.stack.items) (reverse c.take_expr-next.new.stack.items) (reverse c.take_name-step.new.stack.items) (reverse c.take_expr-condition.new.stack.items) (reverse c.take_expr-first.new.stack.items) (reverse c.take_name-start.new.stack.items) (reverse c.take_place-place.new.stack.items) c.take_stmt-body.ensures c.take_expr-next.ensures c.take_name-step.ensures c.take_expr-condition.ensures c.take_expr-first.ensures c.take_name-start.ensures c.take_place-place.ensures (λ body next step condition first start place rest. Some (Value.Stmt (StmtValue.Stmt (Stmt.For place (record { start = record { name = start; value = first }; condition = condition; step = record { name = step; value = next } }) body)) ∷ rest)) (c.in-Some.body, c.in-Some.next, c.in-Some.step, c.in-Some.condition, c.in-Some.first, c.in-Some.start, c.in-Some.place) (sym c.all_seven.ensures ∙ c.in-Some.is) in
    let f = c.in_ok-body.ensures in
    let g = f.0 in
    let h = f.1 in
    let q0 = ap (λ y. y.0) h in
    let q1 = ap (λ y. y.1) h in
    let q2 = ap (λ y. y.2) h in
    let q3 = ap (λ y. y.3) h in
    let q4 = ap (λ y. y.4) h in
    let p = c.in_ok-put.ensures in
    cc

pub returns-in_default : goal.returns-in_default
returns-in_default c = seven_lost c.take_stmt-body.result c.take_expr-next.result c.take_name-step.result c.take_expr-condition.result c.take_expr-first.result c.take_name-start.result c.take_place-place.result (with_stmt (reverse c.args.stack.now.items)) with_expr with_name with_expr with_expr with_name with_place (reverse c.take_stmt-body.new.stack.items) (reverse c.take_expr-next.new.stack.items) (reverse c.take_name-step.new.stack.items) (reverse c.take_expr-condition.new.stack.items) (reverse c.take_expr-first.new.stack.items) (reverse c.take_name-start.new.stack.items) (reverse c.take_place-place.new.stack.items) c.take_stmt-body.ensures c.take_expr-next.ensures c.take_name-step.ensures c.take_expr-condition.ensures c.take_expr-first.ensures c.take_name-start.ensures c.take_place-place.ensures (λ body next step condition first start place rest. Some (Value.Stmt (StmtValue.Stmt (Stmt.For place (record { start = record { name = start; value = first }; condition = condition; step = record { name = step; value = next } }) body)) ∷ rest)) (sym c.all_seven.ensures ∙ c.in_default.is)
