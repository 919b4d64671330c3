use Rattle.std.proofs.Common.{◌∷◌, Some, reverse, sym, ◌∙◌}
use Rattle.stack_parts.proofs.Takings.{three_found, three_lost}
use Rattle.v_stack.specs.Values.{with_assignment_kind, with_expr, with_target}
use Rattle.v_tree.specs.declared.stmt.Stmt.TheVariants as Stmt
use Rattle.v_stack.specs.declared.values.StmtValue.TheVariants as StmtValue
use Rattle.v_stack.specs.declared.values.Value.TheVariants as Value
use Rattle.v_make_statements.proofs.statement_actions.make_assignment.Goals as goal

pub returns : goal.returns
returns c =
    let e = three_found c.take_expr-value.result c.take_assignment_kind-kind.result c.take_target-target.result (with_expr (reverse c.args.stack.now.items)) with_assignment_kind with_target (reverse c.take_expr-value.new.stack.items) (reverse c.take_assignment_kind-kind.new.stack.items) (reverse c.take_target-target.new.stack.items) c.take_expr-value.ensures c.take_assignment_kind-kind.ensures c.take_target-target.ensures (λ value kind target rest. Some (Value.Stmt (StmtValue.Stmt (Stmt.Assignment (record { target = target; kind = kind; value = value }))) ∷ rest)) (c.in-Some.value, c.in-Some.kind, c.in-Some.target) (sym c.all_three.ensures ∙ c.in-Some.is) in
    let p = c.in_ok-put.ensures in
    cc

pub returns-in_default : goal.returns-in_default
returns-in_default c = three_lost c.take_expr-value.result c.take_assignment_kind-kind.result c.take_target-target.result (with_expr (reverse c.args.stack.now.items)) with_assignment_kind with_target (reverse c.take_expr-value.new.stack.items) (reverse c.take_assignment_kind-kind.new.stack.items) (reverse c.take_target-target.new.stack.items) c.take_expr-value.ensures c.take_assignment_kind-kind.ensures c.take_target-target.ensures (λ value kind target rest. Some (Value.Stmt (StmtValue.Stmt (Stmt.Assignment (record { target = target; kind = kind; value = value }))) ∷ rest)) (sym c.all_three.ensures ∙ c.in_default.is)
