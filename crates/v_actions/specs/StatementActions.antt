-- Statements and the targets of assignments: what each action makes of the stack. The last part is taken first.
use Rattle.std.specs.Prelude.{[], ◌∷◌, ◌++◌, Option, Some, None}
use Rattle.v_stack.specs.declared.values.Value.TheVariants as Value
use Rattle.v_stack.specs.declared.values.StmtValue.TheVariants as StmtValue
use Rattle.v_actions.specs.declared.actions.StatementAction.{StatementAction}
use Rattle.v_actions.specs.declared.actions.StatementAction.TheVariants as action
use Rattle.v_stack.specs.Values.{Values, with_assignment_kind, with_case_item, with_case_items, with_expr, with_exprs, with_label, with_name, with_place, with_selection, with_stmt, with_stmts, with_target, with_targets}
use Rattle.v_tree.specs.declared.stmt.AssignmentKind.TheVariants as AssignmentKind
use Rattle.v_tree.specs.declared.stmt.CaseItem.TheVariants as CaseItem
use Rattle.v_tree.specs.declared.stmt.CaseKind.TheVariants as CaseKind
use Rattle.v_tree.specs.declared.stmt.Stmt.TheVariants as Stmt
use Rattle.v_tree.specs.declared.stmt.Target.TheVariants as Target

-- What an action for statements and targets makes of the stack (IEEE 1364-2005, clause 9), and none where its parts
-- don't lie on top.
abbrev pub after_statement_action : StatementAction → Values → Option Values
-- name
after_statement_action action.TargetName st = with_name st (λ name st. Some (Value.Stmt (StmtValue.Target (Target.Name name)) ∷ st))
-- name [ selection ]
after_statement_action action.TargetSelect st =
    with_selection st (λ selection st. with_name st (λ name st.
    Some (Value.Stmt (StmtValue.Target (Target.Select name selection)) ∷ st)))
-- { a, b }
after_statement_action action.TargetConcatenation st =
    with_targets st (λ parts st. with_place st (λ place st.
    Some (Value.Stmt (StmtValue.Target (Target.Concatenation place parts)) ∷ st)))
-- no targets yet
after_statement_action action.NoTargets st = Some (Value.Stmt (StmtValue.Targets []) ∷ st)
-- one more of the targets
after_statement_action action.AddTarget st =
    with_target st (λ target st. with_targets st (λ targets st.
    Some (Value.Stmt (StmtValue.Targets (targets ++ target ∷ [])) ∷ st)))
-- =
after_statement_action action.Blocking st = Some (Value.Stmt (StmtValue.AssignmentKind AssignmentKind.Blocking) ∷ st)
-- <=
after_statement_action action.Nonblocking st = Some (Value.Stmt (StmtValue.AssignmentKind AssignmentKind.Nonblocking) ∷ st)
-- target = value ;
after_statement_action action.Assignment st =
    with_expr st (λ value st. with_assignment_kind st (λ kind st. with_target st (λ target st.
    Some (Value.Stmt (StmtValue.Stmt (Stmt.Assignment (record { target = target; kind = kind; value = value }))) ∷ st))))
-- ;
after_statement_action action.Empty st = with_place st (λ place st. Some (Value.Stmt (StmtValue.Stmt (Stmt.Empty place)) ∷ st))
-- : name
after_statement_action action.SomeLabel st = with_name st (λ name st. Some (Value.Stmt (StmtValue.Label (Some name)) ∷ st))
-- no label
after_statement_action action.NoLabel st = Some (Value.Stmt (StmtValue.Label None) ∷ st)
-- begin label body end
after_statement_action action.Block st =
    with_stmts st (λ body st. with_label st (λ label st. with_place st (λ place st.
    Some (Value.Stmt (StmtValue.Stmt (Stmt.Block place label body)) ∷ st))))
-- no statements yet
after_statement_action action.NoStmts st = Some (Value.Stmt (StmtValue.Stmts []) ∷ st)
-- one more of the statements
after_statement_action action.AddStmt st =
    with_stmt st (λ stmt st. with_stmts st (λ stmts st.
    Some (Value.Stmt (StmtValue.Stmts (stmts ++ stmt ∷ [])) ∷ st)))
-- if ( condition ) body
after_statement_action action.IfAlone st =
    with_stmt st (λ body st. with_expr st (λ condition st. with_place st (λ place st.
    Some (Value.Stmt (StmtValue.Stmt (Stmt.If place condition body)) ∷ st))))
-- if ( condition ) body else other
after_statement_action action.IfElse st =
    with_stmt st (λ other st. with_stmt st (λ body st. with_expr st (λ condition st. with_place st (λ place st.
    Some (Value.Stmt (StmtValue.Stmt (Stmt.IfElse place condition body other)) ∷ st)))))
-- case ( value ) items endcase
after_statement_action action.Case st =
    with_case_items st (λ items st. with_expr st (λ value st. with_place st (λ place st.
    Some (Value.Stmt (StmtValue.Stmt (Stmt.Case place CaseKind.Case value items)) ∷ st))))
-- casez ( value ) items endcase
after_statement_action action.Casez st =
    with_case_items st (λ items st. with_expr st (λ value st. with_place st (λ place st.
    Some (Value.Stmt (StmtValue.Stmt (Stmt.Case place CaseKind.Casez value items)) ∷ st))))
-- a, b : body
after_statement_action action.ValuesItem st =
    with_stmt st (λ body st. with_exprs st (λ values st.
    Some (Value.Stmt (StmtValue.CaseItem (CaseItem.Values values body)) ∷ st)))
-- default : body
after_statement_action action.DefaultItem st =
    with_stmt st (λ body st. with_place st (λ place st.
    Some (Value.Stmt (StmtValue.CaseItem (CaseItem.Default place body)) ∷ st)))
-- no case items yet
after_statement_action action.NoCaseItems st = Some (Value.Stmt (StmtValue.CaseItems []) ∷ st)
-- one more of the case items
after_statement_action action.AddCaseItem st =
    with_case_item st (λ item st. with_case_items st (λ items st.
    Some (Value.Stmt (StmtValue.CaseItems (items ++ item ∷ [])) ∷ st)))
-- for ( start = first ; condition ; step = next ) body
after_statement_action action.For st =
    with_stmt st (λ body st. with_expr st (λ next st. with_name st (λ step st. with_expr st (λ condition st. with_expr st (λ first st. with_name st (λ start st. with_place st (λ place st.
    Some (Value.Stmt (StmtValue.Stmt (Stmt.For place (record { start = record { name = start; value = first }; condition = condition; step = record { name = step; value = next } }) body)) ∷ st))))))))
