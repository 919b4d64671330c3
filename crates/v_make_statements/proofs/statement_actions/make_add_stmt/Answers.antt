use Rattle.std.proofs.Common.{[], ◌∷◌, ◌++◌, Some, reverse, sym, ◌∙◌}
use Rattle.stack_parts.proofs.Takings.{two_lost}
use Rattle.v_stack.specs.Values.{with_stmt, with_stmts}
use Rattle.v_stack.specs.declared.values.StmtValue.TheVariants as StmtValue
use Rattle.v_stack.specs.declared.values.Value.TheVariants as Value
use Rattle.v_make_statements.proofs.statement_actions.make_add_stmt.Goals as goal

pub returns-in_default : goal.returns-in_default
returns-in_default c = two_lost c.take_stmt-stmt.result c.take_stmts-stmts.result (with_stmt (reverse c.args.stack.now.items)) with_stmts (reverse c.take_stmt-stmt.new.stack.items) (reverse c.take_stmts-stmts.new.stack.items) c.take_stmt-stmt.ensures c.take_stmts-stmts.ensures (λ stmt stmts rest. Some (Value.Stmt (StmtValue.Stmts (stmts ++ stmt ∷ [])) ∷ rest)) (sym c.all_two.ensures ∙ c.in_default.is)
