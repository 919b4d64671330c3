use Rattle.std.proofs.Common.{◌∷◌, Some, reverse, sym, ap, ◌∙◌}
use Rattle.stack_parts.proofs.Takings.{four_found, four_lost}
use Rattle.v_stack.specs.Values.{with_expr, with_place, with_stmt}
use Rattle.v_tree.specs.declared.stmt.Stmt.TheVariants as Stmt
use Rattle.v_stack.specs.declared.values.StmtValue.TheVariants as StmtValue
use Rattle.v_stack.specs.declared.values.Value.TheVariants as Value
use Rattle.v_make_statements.proofs.statement_actions.make_if_else.Goals as goal

pub returns : goal.returns
returns c =
    let e = four_found c.take_stmt-other.result c.take_stmt-body.result c.take_expr-condition.result c.take_place-place.result (with_stmt (reverse c.args.stack.now.items)) with_stmt with_expr with_place (reverse c.take_stmt-other.new.stack.items) (reverse c.take_stmt-body.new.stack.items) (reverse c.take_expr-condition.new.stack.items) (reverse c.take_place-place.new.stack.items) c.take_stmt-other.ensures c.take_stmt-body.ensures c.take_expr-condition.ensures c.take_place-place.ensures (λ other body condition place rest. Some (Value.Stmt (StmtValue.Stmt (Stmt.IfElse place condition body other)) ∷ rest)) (c.in-Some.other, c.in-Some.body, c.in-Some.condition, c.in-Some.place) (sym c.all_four.ensures ∙ c.in-Some.is) in
    let f0 = c.in_ok-body.ensures in
    let g0 = f0.0 in
    let h0 = f0.1 in
    let q0_0 = ap (λ y. y.0) h0 in
    let q0_1 = ap (λ y. y.1) h0 in
    let f1 = c.in_ok-other.ensures in
    let g1 = f1.0 in
    let h1 = f1.1 in
    let q1_0 = ap (λ y. y.0) h1 in
    let q1_1 = ap (λ y. y.1) h1 in
    let p = c.in_ok-put.ensures in
    cc

pub returns-in_default : goal.returns-in_default
returns-in_default c = four_lost c.take_stmt-other.result c.take_stmt-body.result c.take_expr-condition.result c.take_place-place.result (with_stmt (reverse c.args.stack.now.items)) with_stmt with_expr with_place (reverse c.take_stmt-other.new.stack.items) (reverse c.take_stmt-body.new.stack.items) (reverse c.take_expr-condition.new.stack.items) (reverse c.take_place-place.new.stack.items) c.take_stmt-other.ensures c.take_stmt-body.ensures c.take_expr-condition.ensures c.take_place-place.ensures (λ other body condition place rest. Some (Value.Stmt (StmtValue.Stmt (Stmt.IfElse place condition body other)) ∷ rest)) (sym c.all_four.ensures ∙ c.in_default.is)
