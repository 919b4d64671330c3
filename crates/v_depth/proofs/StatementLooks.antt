-- The values of statements look as the weaves of their actions say.
use Rattle.std.proofs.Common.{◌≡◌, ℕ, List, ◌∷◌, refl, ◌∙◌, ap, Some}
use Rattle.src_text.specs.declared.refusal.Place.{Place}
use Rattle.v_tree.specs.declared.stmt.CaseKind.TheVariants as case_kind
use Rattle.v_tree.specs.Nodes.{expr_trees, selection_trees, target_trees, stmt_trees, case_item_tree}
use Rattle.v_tree.specs.Starts.{target_start, stmt_start, case_item_start}
use Rattle.src_text.specs.Trees.{also, all_trees}
use Rattle.node_places.proofs.Beside.{also_assoc, end1, end2, end3, end4, in_one, more_trees, more_first, both, wrapped}
use Rattle.node_places.proofs.Looks.{of_values}
use Rattle.v_tree.proofs.Equations.{case_item-start, target_join_trees, block_trees, if_trees, if_else_trees, case_trees, for_trees, values_tree, default_tree}
use Rattle.v_stack.specs.Values.{Values}
use Rattle.v_stack.specs.declared.values.Value.TheVariants as Value
use Rattle.v_stack.specs.declared.values.TokenValue.TheVariants as TokenValue
use Rattle.v_stack.specs.declared.values.ExprValue.TheVariants as ExprValue
use Rattle.v_stack.specs.declared.values.StmtValue.TheVariants as StmtValue
use Rattle.v_actions.specs.declared.actions.StatementAction.TheVariants as stmt_action
use Rattle.v_actions.specs.StatementActions.{after_statement_action}
use Rattle.v_actions.specs.Sorts.{sorts_of}
use Rattle.v_actions.proofs.TopOfSort.{has_assignment_kind, has_case_item, has_case_items, has_expr, has_exprs, has_label, has_name, has_place, has_selection, has_stmt, has_stmts, has_target, has_targets}
use Rattle.v_depth.proofs.Values.{looks_of, Looks}
use Rattle.v_depth.proofs.Begins.{values_or}

pub look_target_name : (nothing own : Place) (st : Values) (rest : List ℕ) → sorts_of st ≡ 2 ∷ rest → Looks nothing (of_values 1 1) own st (after_statement_action stmt_action.TargetName st)
look_target_name nothing own st rest e = has_name (Looks nothing (of_values 1 1) own) _ st _ e (λ name st1 e1. refl)

pub look_target_select : (nothing own : Place) (st : Values) (rest : List ℕ) → sorts_of st ≡ 10 ∷ 2 ∷ rest → Looks nothing (of_values 2 1) own st (after_statement_action stmt_action.TargetSelect st)
look_target_select nothing own st rest e = has_selection (Looks nothing (of_values 2 1) own) _ st _ e (λ selection st1 e1. has_name (λ s o. Looks nothing (of_values 2 1) own (Value.Expr (ExprValue.Selection selection) ∷ s) o) _ st1 _ e1 (λ name st2 e2. both (looks_of nothing st2) refl (in_one name.place (end1 (selection_trees selection)))))

pub look_target_concatenation : (nothing own : Place) (st : Values) (rest : List ℕ) → sorts_of st ≡ 13 ∷ 1 ∷ rest → Looks nothing (of_values 2 1) own st (after_statement_action stmt_action.TargetConcatenation st)
look_target_concatenation nothing own st rest e = has_targets (Looks nothing (of_values 2 1) own) _ st _ e (λ parts st1 e1. has_place (λ s o. Looks nothing (of_values 2 1) own (Value.Stmt (StmtValue.Targets parts) ∷ s) o) _ st1 _ e1 (λ place st2 e2. both (looks_of nothing st2) refl (target_join_trees place parts ∙ in_one place (end1 (all_trees target_trees parts)))))

pub look_no_targets : (nothing own : Place) (st : Values) (rest : List ℕ) → sorts_of st ≡ rest → Looks nothing (of_values 0 0) own st (after_statement_action stmt_action.NoTargets st)
look_no_targets nothing own st rest e = refl

pub look_add_target : (nothing own : Place) (st : Values) (rest : List ℕ) → sorts_of st ≡ 12 ∷ 13 ∷ rest → Looks nothing (of_values 2 0) own st (after_statement_action stmt_action.AddTarget st)
look_add_target nothing own st rest e = has_target (Looks nothing (of_values 2 0) own) _ st _ e (λ target st1 e1. has_targets (λ s o. Looks nothing (of_values 2 0) own (Value.Stmt (StmtValue.Target target) ∷ s) o) _ st1 _ e1 (λ targets st2 e2. both (looks_of nothing st2) (more_first target_start targets target) (more_trees target_trees targets target)))

pub look_blocking : (nothing own : Place) (st : Values) (rest : List ℕ) → sorts_of st ≡ rest → Looks nothing (of_values 0 0) own st (after_statement_action stmt_action.Blocking st)
look_blocking nothing own st rest e = refl

pub look_nonblocking : (nothing own : Place) (st : Values) (rest : List ℕ) → sorts_of st ≡ rest → Looks nothing (of_values 0 0) own st (after_statement_action stmt_action.Nonblocking st)
look_nonblocking nothing own st rest e = refl

pub look_assignment : (nothing own : Place) (st : Values) (rest : List ℕ) → sorts_of st ≡ 9 ∷ 14 ∷ 12 ∷ rest → Looks nothing (of_values 3 1) own st (after_statement_action stmt_action.Assignment st)
look_assignment nothing own st rest e = has_expr (Looks nothing (of_values 3 1) own) _ st _ e (λ value st1 e1. has_assignment_kind (λ s o. Looks nothing (of_values 3 1) own (Value.Expr (ExprValue.Expr value) ∷ s) o) _ st1 _ e1 (λ kind st2 e2. has_target (λ s o. Looks nothing (of_values 3 1) own (Value.Expr (ExprValue.Expr value) ∷ Value.Stmt (StmtValue.AssignmentKind kind) ∷ s) o) _ st2 _ e2 (λ target st3 e3. both (looks_of nothing st3) refl (in_one (target_start target) (end2 (target_trees target) (expr_trees value))))))

pub look_empty : (nothing own : Place) (st : Values) (rest : List ℕ) → sorts_of st ≡ 1 ∷ rest → Looks nothing (of_values 1 1) own st (after_statement_action stmt_action.Empty st)
look_empty nothing own st rest e = has_place (Looks nothing (of_values 1 1) own) _ st _ e (λ place st1 e1. refl)

pub look_some_label : (nothing own : Place) (st : Values) (rest : List ℕ) → sorts_of st ≡ 2 ∷ rest → Looks nothing (of_values 1 0) own st (after_statement_action stmt_action.SomeLabel st)
look_some_label nothing own st rest e = has_name (Looks nothing (of_values 1 0) own) _ st _ e (λ name st1 e1. refl)

pub look_no_label : (nothing own : Place) (st : Values) (rest : List ℕ) → sorts_of st ≡ rest → Looks nothing (of_values 0 0) own st (after_statement_action stmt_action.NoLabel st)
look_no_label nothing own st rest e = refl

pub look_block : (nothing own : Place) (st : Values) (rest : List ℕ) → sorts_of st ≡ 17 ∷ 16 ∷ 1 ∷ rest → Looks nothing (of_values 3 1) own st (after_statement_action stmt_action.Block st)
look_block nothing own st rest e = has_stmts (Looks nothing (of_values 3 1) own) _ st _ e (λ body st1 e1. has_label (λ s o. Looks nothing (of_values 3 1) own (Value.Stmt (StmtValue.Stmts body) ∷ s) o) _ st1 _ e1 (λ label st2 e2. has_place (λ s o. Looks nothing (of_values 3 1) own (Value.Stmt (StmtValue.Stmts body) ∷ Value.Stmt (StmtValue.Label label) ∷ s) o) _ st2 _ e2 (λ place st3 e3. both (looks_of nothing st3) refl (block_trees place label body ∙ in_one place (end1 (all_trees stmt_trees body))))))

pub look_no_stmts : (nothing own : Place) (st : Values) (rest : List ℕ) → sorts_of st ≡ rest → Looks nothing (of_values 0 0) own st (after_statement_action stmt_action.NoStmts st)
look_no_stmts nothing own st rest e = refl

pub look_add_stmt : (nothing own : Place) (st : Values) (rest : List ℕ) → sorts_of st ≡ 15 ∷ 17 ∷ rest → Looks nothing (of_values 2 0) own st (after_statement_action stmt_action.AddStmt st)
look_add_stmt nothing own st rest e = has_stmt (Looks nothing (of_values 2 0) own) _ st _ e (λ stmt st1 e1. has_stmts (λ s o. Looks nothing (of_values 2 0) own (Value.Stmt (StmtValue.Stmt stmt) ∷ s) o) _ st1 _ e1 (λ stmts st2 e2. both (looks_of nothing st2) (more_first stmt_start stmts stmt) (more_trees stmt_trees stmts stmt)))

pub look_if_alone : (nothing own : Place) (st : Values) (rest : List ℕ) → sorts_of st ≡ 15 ∷ 9 ∷ 1 ∷ rest → Looks nothing (of_values 3 1) own st (after_statement_action stmt_action.IfAlone st)
look_if_alone nothing own st rest e = has_stmt (Looks nothing (of_values 3 1) own) _ st _ e (λ body st1 e1. has_expr (λ s o. Looks nothing (of_values 3 1) own (Value.Stmt (StmtValue.Stmt body) ∷ s) o) _ st1 _ e1 (λ condition st2 e2. has_place (λ s o. Looks nothing (of_values 3 1) own (Value.Stmt (StmtValue.Stmt body) ∷ Value.Expr (ExprValue.Expr condition) ∷ s) o) _ st2 _ e2 (λ place st3 e3. both (looks_of nothing st3) refl (if_trees place condition body ∙ in_one place (end2 (expr_trees condition) (stmt_trees body))))))

pub look_if_else : (nothing own : Place) (st : Values) (rest : List ℕ) → sorts_of st ≡ 15 ∷ 15 ∷ 9 ∷ 1 ∷ rest → Looks nothing (of_values 4 1) own st (after_statement_action stmt_action.IfElse st)
look_if_else nothing own st rest e = has_stmt (Looks nothing (of_values 4 1) own) _ st _ e (λ other st1 e1. has_stmt (λ s o. Looks nothing (of_values 4 1) own (Value.Stmt (StmtValue.Stmt other) ∷ s) o) _ st1 _ e1 (λ body st2 e2. has_expr (λ s o. Looks nothing (of_values 4 1) own (Value.Stmt (StmtValue.Stmt other) ∷ Value.Stmt (StmtValue.Stmt body) ∷ s) o) _ st2 _ e2 (λ condition st3 e3. has_place (λ s o. Looks nothing (of_values 4 1) own (Value.Stmt (StmtValue.Stmt other) ∷ Value.Stmt (StmtValue.Stmt body) ∷ Value.Expr (ExprValue.Expr condition) ∷ s) o) _ st3 _ e3 (λ place st4 e4. both (looks_of nothing st4) refl (if_else_trees place condition body other ∙ in_one place (end3 (expr_trees condition) (stmt_trees body) (stmt_trees other)))))))

pub look_case : (nothing own : Place) (st : Values) (rest : List ℕ) → sorts_of st ≡ 18 ∷ 9 ∷ 1 ∷ rest → Looks nothing (of_values 3 1) own st (after_statement_action stmt_action.Case st)
look_case nothing own st rest e = has_case_items (Looks nothing (of_values 3 1) own) _ st _ e (λ items st1 e1. has_expr (λ s o. Looks nothing (of_values 3 1) own (Value.Stmt (StmtValue.CaseItems items) ∷ s) o) _ st1 _ e1 (λ value st2 e2. has_place (λ s o. Looks nothing (of_values 3 1) own (Value.Stmt (StmtValue.CaseItems items) ∷ Value.Expr (ExprValue.Expr value) ∷ s) o) _ st2 _ e2 (λ place st3 e3. both (looks_of nothing st3) refl (case_trees place case_kind.Case value items ∙ in_one place (end2 (expr_trees value) (all_trees case_item_tree items))))))

pub look_casez : (nothing own : Place) (st : Values) (rest : List ℕ) → sorts_of st ≡ 18 ∷ 9 ∷ 1 ∷ rest → Looks nothing (of_values 3 1) own st (after_statement_action stmt_action.Casez st)
look_casez nothing own st rest e = has_case_items (Looks nothing (of_values 3 1) own) _ st _ e (λ items st1 e1. has_expr (λ s o. Looks nothing (of_values 3 1) own (Value.Stmt (StmtValue.CaseItems items) ∷ s) o) _ st1 _ e1 (λ value st2 e2. has_place (λ s o. Looks nothing (of_values 3 1) own (Value.Stmt (StmtValue.CaseItems items) ∷ Value.Expr (ExprValue.Expr value) ∷ s) o) _ st2 _ e2 (λ place st3 e3. both (looks_of nothing st3) refl (case_trees place case_kind.Casez value items ∙ in_one place (end2 (expr_trees value) (all_trees case_item_tree items))))))

pub look_values_item : (nothing own : Place) (st : Values) (rest : List ℕ) → sorts_of st ≡ 15 ∷ 0 ∷ rest → Looks nothing (of_values 2 1) own st (after_statement_action stmt_action.ValuesItem st)
look_values_item nothing own st rest e = has_stmt (Looks nothing (of_values 2 1) own) _ st _ e (λ body st1 e1. has_exprs (λ s o. Looks nothing (of_values 2 1) own (Value.Stmt (StmtValue.Stmt body) ∷ s) o) _ st1 _ e1 (λ values st2 e2. both (looks_of nothing st2) (ap Some (case_item-start values body)) (values_tree values body) ∙ wrapped nothing (looks_of nothing st2) (values_or values (stmt_start body)) (end2 (all_trees expr_trees values) (stmt_trees body))))

pub look_default_item : (nothing own : Place) (st : Values) (rest : List ℕ) → sorts_of st ≡ 15 ∷ 1 ∷ rest → Looks nothing (of_values 2 1) own st (after_statement_action stmt_action.DefaultItem st)
look_default_item nothing own st rest e = has_stmt (Looks nothing (of_values 2 1) own) _ st _ e (λ body st1 e1. has_place (λ s o. Looks nothing (of_values 2 1) own (Value.Stmt (StmtValue.Stmt body) ∷ s) o) _ st1 _ e1 (λ place st2 e2. both (looks_of nothing st2) refl (default_tree place body ∙ in_one place (end1 (stmt_trees body)))))

pub look_no_case_items : (nothing own : Place) (st : Values) (rest : List ℕ) → sorts_of st ≡ rest → Looks nothing (of_values 0 0) own st (after_statement_action stmt_action.NoCaseItems st)
look_no_case_items nothing own st rest e = refl

pub look_add_case_item : (nothing own : Place) (st : Values) (rest : List ℕ) → sorts_of st ≡ 19 ∷ 18 ∷ rest → Looks nothing (of_values 2 0) own st (after_statement_action stmt_action.AddCaseItem st)
look_add_case_item nothing own st rest e = has_case_item (Looks nothing (of_values 2 0) own) _ st _ e (λ item st1 e1. has_case_items (λ s o. Looks nothing (of_values 2 0) own (Value.Stmt (StmtValue.CaseItem item) ∷ s) o) _ st1 _ e1 (λ items st2 e2. both (looks_of nothing st2) (more_first case_item_start items item) (more_trees case_item_tree items item)))

pub look_for : (nothing own : Place) (st : Values) (rest : List ℕ) → sorts_of st ≡ 15 ∷ 9 ∷ 2 ∷ 9 ∷ 9 ∷ 2 ∷ 1 ∷ rest → Looks nothing (of_values 7 1) own st (after_statement_action stmt_action.For st)
look_for nothing own st rest e = has_stmt (Looks nothing (of_values 7 1) own) _ st _ e (λ body st1 e1. has_expr (λ s o. Looks nothing (of_values 7 1) own (Value.Stmt (StmtValue.Stmt body) ∷ s) o) _ st1 _ e1 (λ next st2 e2. has_name (λ s o. Looks nothing (of_values 7 1) own (Value.Stmt (StmtValue.Stmt body) ∷ Value.Expr (ExprValue.Expr next) ∷ s) o) _ st2 _ e2 (λ step st3 e3. has_expr (λ s o. Looks nothing (of_values 7 1) own (Value.Stmt (StmtValue.Stmt body) ∷ Value.Expr (ExprValue.Expr next) ∷ Value.Token (TokenValue.Name step) ∷ s) o) _ st3 _ e3 (λ condition st4 e4. has_expr (λ s o. Looks nothing (of_values 7 1) own (Value.Stmt (StmtValue.Stmt body) ∷ Value.Expr (ExprValue.Expr next) ∷ Value.Token (TokenValue.Name step) ∷ Value.Expr (ExprValue.Expr condition) ∷ s) o) _ st4 _ e4 (λ first st5 e5. has_name (λ s o. Looks nothing (of_values 7 1) own (Value.Stmt (StmtValue.Stmt body) ∷ Value.Expr (ExprValue.Expr next) ∷ Value.Token (TokenValue.Name step) ∷ Value.Expr (ExprValue.Expr condition) ∷ Value.Expr (ExprValue.Expr first) ∷ s) o) _ st5 _ e5 (λ start st6 e6. has_place (λ s o. Looks nothing (of_values 7 1) own (Value.Stmt (StmtValue.Stmt body) ∷ Value.Expr (ExprValue.Expr next) ∷ Value.Token (TokenValue.Name step) ∷ Value.Expr (ExprValue.Expr condition) ∷ Value.Expr (ExprValue.Expr first) ∷ Value.Token (TokenValue.Name start) ∷ s) o) _ st6 _ e6 (λ place st7 e7. both (looks_of nothing st7) refl (for_trees place (record { start = record { name = start; value = first }; condition = condition; step = record { name = step; value = next } }) body ∙ in_one place (also_assoc (expr_trees first) (also (expr_trees condition) (expr_trees next)) (stmt_trees body) ∙ ap (also (expr_trees first)) (also_assoc (expr_trees condition) (expr_trees next) (stmt_trees body)) ∙ end4 (expr_trees first) (expr_trees condition) (expr_trees next) (stmt_trees body))))))))))
