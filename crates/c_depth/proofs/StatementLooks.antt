-- The values of statements look as the weaves of their actions say.
use Rattle.std.proofs.Common.{◌≡◌, ℕ, List, ◌∷◌, refl, sym, ◌∙◌, ap, Some}
use Rattle.src_text.specs.declared.refusal.Place.{Place}
use Rattle.c_tree.specs.declared.statements.BlockItem.TheVariants as block_item
use Rattle.c_tree.specs.Starts.{simple_start}
use Rattle.c_tree.specs.Nodes.{path_trees, expression_trees, initializer_trees, local_trees, simple_trees, label_trees, first_trees, statement_trees, item_trees}
use Rattle.src_text.specs.Trees.{none, also, all_trees, option_trees}
use Rattle.node_places.proofs.Beside.{also_assoc, end1, end2, end3, end4, in_one, more_trees, more_first, both}
use Rattle.node_places.proofs.Looks.{of_values}
use Rattle.c_depth.proofs.Equations.{group_trees, compound_trees, if_trees, if_else_trees, while_trees, do_trees, for_trees, switch_trees, if_start, if_else_start, while_start, do_start, for_start}
use Rattle.c_stack.specs.Values.{Values}
use Rattle.c_stack.specs.declared.values.Value.TheVariants as value
use Rattle.c_stack.specs.declared.values.TokenValue.TheVariants as token_value
use Rattle.c_stack.specs.declared.values.ExpressionValue.TheVariants as expression_value
use Rattle.c_stack.specs.declared.values.DeclarationValue.TheVariants as declaration_value
use Rattle.c_stack.specs.declared.values.StatementValue.TheVariants as statement_value
use Rattle.c_stack.specs.declared.values.SwitchValue.TheVariants as switch_value
use Rattle.c_actions.specs.Sorts.{sorts_of}
use Rattle.c_actions.specs.StatementActions.{after_statement_action}
use Rattle.c_actions.specs.declared.actions.StatementAction.TheVariants as statement_action
use Rattle.c_actions.proofs.TopOfSort.{has_assignment_mark, has_block, has_expression, has_expression_option, has_expressions, has_for_first, has_group, has_groups, has_initializer, has_initializer_option, has_label, has_labelled, has_labels, has_local, has_name, has_parts, has_path, has_place, has_simple, has_simple_option, has_statement, has_step_mark}
use Rattle.c_depth.proofs.Values.{item_start, group_start, parts_of, looks_of, Looks}

pub look_call : (nothing : Place) (own : Place) (st : Values) (rest : List ℕ) → sorts_of st ≡ 22 ∷ 6 ∷ rest → Looks nothing (of_values 2 1) own st (after_statement_action statement_action.Call st)
look_call nothing own st rest e = has_expressions (Looks nothing (of_values 2 1) own) _ st _ e (λ arguments st1 e1. has_name (λ s o. Looks nothing (of_values 2 1) own (value.Expression (expression_value.Expressions arguments) ∷ s) o) _ st1 _ e1 (λ name st2 e2. both (looks_of nothing st2) refl (in_one name.place (end1 (all_trees expression_trees arguments)))))

pub look_assign : (nothing : Place) (own : Place) (st : Values) (rest : List ℕ) → sorts_of st ≡ 21 ∷ 37 ∷ rest → Looks nothing (of_values 2 0) own st (after_statement_action statement_action.Assign st)
look_assign nothing own st rest e = has_initializer (Looks nothing (of_values 2 0) own) _ st _ e (λ given st1 e1. has_path (λ s o. Looks nothing (of_values 2 0) own (value.Expression (expression_value.Initializer given) ∷ s) o) _ st1 _ e1 (λ target st2 e2. both (looks_of nothing st2) refl (end2 (path_trees target) (initializer_trees given))))

pub look_update : (nothing : Place) (own : Place) (st : Values) (rest : List ℕ) → sorts_of st ≡ 17 ∷ 38 ∷ 37 ∷ rest → Looks nothing (of_values 3 0) own st (after_statement_action statement_action.Update st)
look_update nothing own st rest e = has_expression (Looks nothing (of_values 3 0) own) _ st _ e (λ operand st1 e1. has_assignment_mark (λ s o. Looks nothing (of_values 3 0) own (value.Expression (expression_value.Expression operand) ∷ s) o) _ st1 _ e1 (λ mark st2 e2. has_path (λ s o. Looks nothing (of_values 3 0) own (value.Expression (expression_value.Expression operand) ∷ value.Token (token_value.AssignmentMark mark) ∷ s) o) _ st2 _ e2 (λ target st3 e3. both (looks_of nothing st3) refl (end2 (path_trees target) (expression_trees operand)))))

pub look_step_after : (nothing : Place) (own : Place) (st : Values) (rest : List ℕ) → sorts_of st ≡ 39 ∷ 37 ∷ rest → Looks nothing (of_values 2 0) own st (after_statement_action statement_action.StepAfter st)
look_step_after nothing own st rest e = has_step_mark (Looks nothing (of_values 2 0) own) _ st _ e (λ mark st1 e1. has_path (λ s o. Looks nothing (of_values 2 0) own (value.Token (token_value.StepMark mark) ∷ s) o) _ st1 _ e1 (λ target st2 e2. both (looks_of nothing st2) refl (end1 (path_trees target))))

pub look_step_before : (nothing : Place) (own : Place) (st : Values) (rest : List ℕ) → sorts_of st ≡ 37 ∷ 39 ∷ rest → Looks nothing (of_values 2 0) own st (after_statement_action statement_action.StepBefore st)
look_step_before nothing own st rest e = has_path (Looks nothing (of_values 2 0) own) _ st _ e (λ target st1 e1. has_step_mark (λ s o. Looks nothing (of_values 2 0) own (value.Expression (expression_value.Path target) ∷ s) o) _ st1 _ e1 (λ mark st2 e2. both (looks_of nothing st2) refl (end1 (path_trees target))))

pub look_no_simple : (nothing : Place) (own : Place) (st : Values) (rest : List ℕ) → sorts_of st ≡ rest → Looks nothing (of_values 0 0) own st (after_statement_action statement_action.NoSimple st)
look_no_simple nothing own st rest e = refl

pub look_some_simple : (nothing : Place) (own : Place) (st : Values) (rest : List ℕ) → sorts_of st ≡ 27 ∷ rest → Looks nothing (of_values 1 0) own st (after_statement_action statement_action.SomeSimple st)
look_some_simple nothing own st rest e = has_simple (Looks nothing (of_values 1 0) own) _ st _ e (λ part st1 e1. both (looks_of nothing st1) refl (end1 (simple_trees part)))

pub look_for_nothing : (nothing : Place) (own : Place) (st : Values) (rest : List ℕ) → sorts_of st ≡ rest → Looks nothing (of_values 0 0) own st (after_statement_action statement_action.ForNothing st)
look_for_nothing nothing own st rest e = refl

pub look_for_local : (nothing : Place) (own : Place) (st : Values) (rest : List ℕ) → sorts_of st ≡ 25 ∷ rest → Looks nothing (of_values 1 0) own st (after_statement_action statement_action.ForLocal st)
look_for_local nothing own st rest e = has_local (Looks nothing (of_values 1 0) own) _ st _ e (λ part st1 e1. both (looks_of nothing st1) refl (end1 (local_trees part)))

pub look_for_simple : (nothing : Place) (own : Place) (st : Values) (rest : List ℕ) → sorts_of st ≡ 27 ∷ rest → Looks nothing (of_values 1 0) own st (after_statement_action statement_action.ForSimple st)
look_for_simple nothing own st rest e = has_simple (Looks nothing (of_values 1 0) own) _ st _ e (λ part st1 e1. both (looks_of nothing st1) refl (end1 (simple_trees part)))

pub look_case : (nothing : Place) (own : Place) (st : Values) (rest : List ℕ) → sorts_of st ≡ 17 ∷ 3 ∷ rest → Looks nothing (of_values 2 0) own st (after_statement_action statement_action.Case st)
look_case nothing own st rest e = has_expression (Looks nothing (of_values 2 0) own) _ st _ e (λ given st1 e1. has_place (λ s o. Looks nothing (of_values 2 0) own (value.Expression (expression_value.Expression given) ∷ s) o) _ st1 _ e1 (λ place st2 e2. both (looks_of nothing st2) refl (end1 (expression_trees given))))

pub look_default : (nothing : Place) (own : Place) (st : Values) (rest : List ℕ) → sorts_of st ≡ 3 ∷ rest → Looks nothing (of_values 1 0) own st (after_statement_action statement_action.Default st)
look_default nothing own st rest e = has_place (Looks nothing (of_values 1 0) own) _ st _ e (λ place st1 e1. refl)

pub look_first_label : (nothing : Place) (own : Place) (st : Values) (rest : List ℕ) → sorts_of st ≡ 34 ∷ rest → Looks nothing (of_values 1 0) own st (after_statement_action statement_action.FirstLabel st)
look_first_label nothing own st rest e = has_label (Looks nothing (of_values 1 0) own) _ st _ e (λ label_made st1 e1. refl)

pub look_add_label : (nothing : Place) (own : Place) (st : Values) (rest : List ℕ) → sorts_of st ≡ 34 ∷ 35 ∷ rest → Looks nothing (of_values 2 0) own st (after_statement_action statement_action.AddLabel st)
look_add_label nothing own st rest e = has_label (Looks nothing (of_values 2 0) own) _ st _ e (λ label_made st1 e1. has_labels (λ s o. Looks nothing (of_values 2 0) own (value.Statement (statement_value.Label label_made) ∷ s) o) _ st1 _ e1 (λ labels st2 e2. both (looks_of nothing st2) refl (more_trees label_trees labels.labels label_made)))

pub look_labelled : (nothing : Place) (own : Place) (st : Values) (rest : List ℕ) → sorts_of st ≡ 35 ∷ rest → Looks nothing (of_values 1 0) own st (after_statement_action statement_action.Labelled st)
look_labelled nothing own st rest e = has_labels (Looks nothing (of_values 1 0) own) _ st _ e (λ labels st1 e1. refl)

pub look_add_to_group : (nothing : Place) (own : Place) (st : Values) (rest : List ℕ) → sorts_of st ≡ 26 ∷ 36 ∷ rest → Looks nothing (of_values 2 0) own st (after_statement_action statement_action.AddToGroup st)
look_add_to_group nothing own st rest e = has_statement (Looks nothing (of_values 2 0) own) _ st _ e (λ part st1 e1. has_labelled (λ s o. Looks nothing (of_values 2 0) own (value.Statement (statement_value.Statement part) ∷ s) o) _ st1 _ e1 (λ labelled st2 e2. both (looks_of nothing st2) refl (ap (also (all_trees label_trees labelled.labels)) (more_trees statement_trees labelled.body part) ∙ sym (also_assoc (all_trees label_trees labelled.labels) (all_trees statement_trees labelled.body) (also (statement_trees part) none)))))

pub look_group : (nothing : Place) (own : Place) (st : Values) (rest : List ℕ) → sorts_of st ≡ 36 ∷ rest → Looks nothing (of_values 1 1) own st (after_statement_action statement_action.Group st)
look_group nothing own st rest e = has_labelled (Looks nothing (of_values 1 1) own) _ st _ e (λ labelled st1 e1. both (looks_of nothing st1) refl (in_one labelled.place (end1 (parts_of labelled))))

pub look_no_groups : (nothing : Place) (own : Place) (st : Values) (rest : List ℕ) → sorts_of st ≡ rest → Looks nothing (of_values 0 0) own st (after_statement_action statement_action.NoGroups st)
look_no_groups nothing own st rest e = refl

pub look_add_group : (nothing : Place) (own : Place) (st : Values) (rest : List ℕ) → sorts_of st ≡ 33 ∷ 31 ∷ rest → Looks nothing (of_values 2 0) own st (after_statement_action statement_action.AddGroup st)
look_add_group nothing own st rest e = has_group (Looks nothing (of_values 2 0) own) _ st _ e (λ group st1 e1. has_groups (λ s o. Looks nothing (of_values 2 0) own (value.Switch (switch_value.Group group) ∷ s) o) _ st1 _ e1 (λ groups st2 e2. both (looks_of nothing st2) (more_first group_start groups group) (more_trees group_trees groups group)))

pub look_no_items : (nothing : Place) (own : Place) (st : Values) (rest : List ℕ) → sorts_of st ≡ rest → Looks nothing (of_values 0 0) own st (after_statement_action statement_action.NoItems st)
look_no_items nothing own st rest e = refl

pub look_add_local : (nothing : Place) (own : Place) (st : Values) (rest : List ℕ) → sorts_of st ≡ 25 ∷ 24 ∷ rest → Looks nothing (of_values 2 0) own st (after_statement_action statement_action.AddLocal st)
look_add_local nothing own st rest e = has_local (Looks nothing (of_values 2 0) own) _ st _ e (λ part st1 e1. has_parts (λ s o. Looks nothing (of_values 2 0) own (value.Declaration (declaration_value.Local part) ∷ s) o) _ st1 _ e1 (λ parts st2 e2. both (looks_of nothing st2) (more_first item_start parts (block_item.Local part)) (more_trees item_trees parts (block_item.Local part))))

pub look_add_statement : (nothing : Place) (own : Place) (st : Values) (rest : List ℕ) → sorts_of st ≡ 26 ∷ 24 ∷ rest → Looks nothing (of_values 2 0) own st (after_statement_action statement_action.AddStatement st)
look_add_statement nothing own st rest e = has_statement (Looks nothing (of_values 2 0) own) _ st _ e (λ part st1 e1. has_parts (λ s o. Looks nothing (of_values 2 0) own (value.Statement (statement_value.Statement part) ∷ s) o) _ st1 _ e1 (λ parts st2 e2. both (looks_of nothing st2) (more_first item_start parts (block_item.Statement part)) (more_trees item_trees parts (block_item.Statement part))))

pub look_block : (nothing : Place) (own : Place) (st : Values) (rest : List ℕ) → sorts_of st ≡ 24 ∷ 3 ∷ rest → Looks nothing (of_values 2 1) own st (after_statement_action statement_action.Block st)
look_block nothing own st rest e = has_parts (Looks nothing (of_values 2 1) own) _ st _ e (λ items st1 e1. has_place (λ s o. Looks nothing (of_values 2 1) own (value.Statement (statement_value.Parts items) ∷ s) o) _ st1 _ e1 (λ place st2 e2. both (looks_of nothing st2) refl (in_one place (end1 (all_trees item_trees items)))))

pub look_compound : (nothing : Place) (own : Place) (st : Values) (rest : List ℕ) → sorts_of st ≡ 11 ∷ rest → Looks nothing (of_values 1 0) own st (after_statement_action statement_action.Compound st)
look_compound nothing own st rest e = has_block (Looks nothing (of_values 1 0) own) _ st _ e (λ part st1 e1. both (looks_of nothing st1) refl (compound_trees part.place part.items))

pub look_empty : (nothing : Place) (own : Place) (st : Values) (rest : List ℕ) → sorts_of st ≡ 3 ∷ rest → Looks nothing (of_values 1 1) own st (after_statement_action statement_action.Empty st)
look_empty nothing own st rest e = has_place (Looks nothing (of_values 1 1) own) _ st _ e (λ place st1 e1. refl)

pub look_simple : (nothing : Place) (own : Place) (st : Values) (rest : List ℕ) → sorts_of st ≡ 27 ∷ rest → Looks nothing (of_values 1 1) own st (after_statement_action statement_action.Simple st)
look_simple nothing own st rest e = has_simple (Looks nothing (of_values 1 1) own) _ st _ e (λ part st1 e1. both (looks_of nothing st1) refl (in_one (simple_start part) (end1 (simple_trees part))))

pub look_if_alone : (nothing : Place) (own : Place) (st : Values) (rest : List ℕ) → sorts_of st ≡ 26 ∷ 17 ∷ 3 ∷ rest → Looks nothing (of_values 3 1) own st (after_statement_action statement_action.IfAlone st)
look_if_alone nothing own st rest e = has_statement (Looks nothing (of_values 3 1) own) _ st _ e (λ first st1 e1. has_expression (λ s o. Looks nothing (of_values 3 1) own (value.Statement (statement_value.Statement first) ∷ s) o) _ st1 _ e1 (λ condition st2 e2. has_place (λ s o. Looks nothing (of_values 3 1) own (value.Statement (statement_value.Statement first) ∷ value.Expression (expression_value.Expression condition) ∷ s) o) _ st2 _ e2 (λ place st3 e3. both (looks_of nothing st3) (ap Some (if_start place condition first)) (if_trees place condition first ∙ in_one place (end2 (expression_trees condition) (statement_trees first))))))

pub look_if_else : (nothing : Place) (own : Place) (st : Values) (rest : List ℕ) → sorts_of st ≡ 26 ∷ 26 ∷ 17 ∷ 3 ∷ rest → Looks nothing (of_values 4 1) own st (after_statement_action statement_action.IfElse st)
look_if_else nothing own st rest e = has_statement (Looks nothing (of_values 4 1) own) _ st _ e (λ second st1 e1. has_statement (λ s o. Looks nothing (of_values 4 1) own (value.Statement (statement_value.Statement second) ∷ s) o) _ st1 _ e1 (λ first st2 e2. has_expression (λ s o. Looks nothing (of_values 4 1) own (value.Statement (statement_value.Statement second) ∷ value.Statement (statement_value.Statement first) ∷ s) o) _ st2 _ e2 (λ condition st3 e3. has_place (λ s o. Looks nothing (of_values 4 1) own (value.Statement (statement_value.Statement second) ∷ value.Statement (statement_value.Statement first) ∷ value.Expression (expression_value.Expression condition) ∷ s) o) _ st3 _ e3 (λ place st4 e4. both (looks_of nothing st4) (ap Some (if_else_start place condition first second)) (if_else_trees place condition first second ∙ in_one place (end3 (expression_trees condition) (statement_trees first) (statement_trees second)))))))

pub look_while : (nothing : Place) (own : Place) (st : Values) (rest : List ℕ) → sorts_of st ≡ 26 ∷ 17 ∷ 3 ∷ rest → Looks nothing (of_values 3 1) own st (after_statement_action statement_action.While st)
look_while nothing own st rest e = has_statement (Looks nothing (of_values 3 1) own) _ st _ e (λ body st1 e1. has_expression (λ s o. Looks nothing (of_values 3 1) own (value.Statement (statement_value.Statement body) ∷ s) o) _ st1 _ e1 (λ condition st2 e2. has_place (λ s o. Looks nothing (of_values 3 1) own (value.Statement (statement_value.Statement body) ∷ value.Expression (expression_value.Expression condition) ∷ s) o) _ st2 _ e2 (λ place st3 e3. both (looks_of nothing st3) (ap Some (while_start place condition body)) (while_trees place condition body ∙ in_one place (end2 (expression_trees condition) (statement_trees body))))))

pub look_do : (nothing : Place) (own : Place) (st : Values) (rest : List ℕ) → sorts_of st ≡ 17 ∷ 26 ∷ 3 ∷ rest → Looks nothing (of_values 3 1) own st (after_statement_action statement_action.Do st)
look_do nothing own st rest e = has_expression (Looks nothing (of_values 3 1) own) _ st _ e (λ condition st1 e1. has_statement (λ s o. Looks nothing (of_values 3 1) own (value.Expression (expression_value.Expression condition) ∷ s) o) _ st1 _ e1 (λ body st2 e2. has_place (λ s o. Looks nothing (of_values 3 1) own (value.Expression (expression_value.Expression condition) ∷ value.Statement (statement_value.Statement body) ∷ s) o) _ st2 _ e2 (λ place st3 e3. both (looks_of nothing st3) (ap Some (do_start place body condition)) (do_trees place body condition ∙ in_one place (end2 (statement_trees body) (expression_trees condition))))))

pub look_for : (nothing : Place) (own : Place) (st : Values) (rest : List ℕ) → sorts_of st ≡ 26 ∷ 30 ∷ 29 ∷ 28 ∷ 3 ∷ rest → Looks nothing (of_values 5 1) own st (after_statement_action statement_action.For st)
look_for nothing own st rest e = has_statement (Looks nothing (of_values 5 1) own) _ st _ e (λ body st1 e1. has_simple_option (λ s o. Looks nothing (of_values 5 1) own (value.Statement (statement_value.Statement body) ∷ s) o) _ st1 _ e1 (λ step st2 e2. has_expression_option (λ s o. Looks nothing (of_values 5 1) own (value.Statement (statement_value.Statement body) ∷ value.Statement (statement_value.SimpleOption step) ∷ s) o) _ st2 _ e2 (λ condition st3 e3. has_for_first (λ s o. Looks nothing (of_values 5 1) own (value.Statement (statement_value.Statement body) ∷ value.Statement (statement_value.SimpleOption step) ∷ value.Expression (expression_value.ExpressionOption condition) ∷ s) o) _ st3 _ e3 (λ first st4 e4. has_place (λ s o. Looks nothing (of_values 5 1) own (value.Statement (statement_value.Statement body) ∷ value.Statement (statement_value.SimpleOption step) ∷ value.Expression (expression_value.ExpressionOption condition) ∷ value.Statement (statement_value.ForFirst first) ∷ s) o) _ st4 _ e4 (λ place st5 e5. both (looks_of nothing st5) (ap Some (for_start place first condition step body)) (for_trees place first condition step body ∙ in_one place (end4 (first_trees first) (option_trees expression_trees condition) (option_trees simple_trees step) (statement_trees body))))))))

pub look_switch : (nothing : Place) (own : Place) (st : Values) (rest : List ℕ) → sorts_of st ≡ 31 ∷ 17 ∷ 3 ∷ rest → Looks nothing (of_values 3 1) own st (after_statement_action statement_action.Switch st)
look_switch nothing own st rest e = has_groups (Looks nothing (of_values 3 1) own) _ st _ e (λ groups st1 e1. has_expression (λ s o. Looks nothing (of_values 3 1) own (value.Switch (switch_value.Groups groups) ∷ s) o) _ st1 _ e1 (λ given st2 e2. has_place (λ s o. Looks nothing (of_values 3 1) own (value.Switch (switch_value.Groups groups) ∷ value.Expression (expression_value.Expression given) ∷ s) o) _ st2 _ e2 (λ place st3 e3. both (looks_of nothing st3) refl (switch_trees place given groups ∙ in_one place (end2 (expression_trees given) (all_trees group_trees groups))))))

pub look_break : (nothing : Place) (own : Place) (st : Values) (rest : List ℕ) → sorts_of st ≡ 3 ∷ rest → Looks nothing (of_values 1 1) own st (after_statement_action statement_action.Break st)
look_break nothing own st rest e = has_place (Looks nothing (of_values 1 1) own) _ st _ e (λ place st1 e1. refl)

pub look_continue : (nothing : Place) (own : Place) (st : Values) (rest : List ℕ) → sorts_of st ≡ 3 ∷ rest → Looks nothing (of_values 1 1) own st (after_statement_action statement_action.Continue st)
look_continue nothing own st rest e = has_place (Looks nothing (of_values 1 1) own) _ st _ e (λ place st1 e1. refl)

pub look_return : (nothing : Place) (own : Place) (st : Values) (rest : List ℕ) → sorts_of st ≡ 32 ∷ 3 ∷ rest → Looks nothing (of_values 2 1) own st (after_statement_action statement_action.Return st)
look_return nothing own st rest e = has_initializer_option (Looks nothing (of_values 2 1) own) _ st _ e (λ given st1 e1. has_place (λ s o. Looks nothing (of_values 2 1) own (value.Expression (expression_value.InitializerOption given) ∷ s) o) _ st1 _ e1 (λ place st2 e2. both (looks_of nothing st2) refl (in_one place (end1 (option_trees initializer_trees given)))))

pub look_assert : (nothing : Place) (own : Place) (st : Values) (rest : List ℕ) → sorts_of st ≡ 17 ∷ 3 ∷ rest → Looks nothing (of_values 2 1) own st (after_statement_action statement_action.Assert st)
look_assert nothing own st rest e = has_expression (Looks nothing (of_values 2 1) own) _ st _ e (λ condition st1 e1. has_place (λ s o. Looks nothing (of_values 2 1) own (value.Expression (expression_value.Expression condition) ∷ s) o) _ st1 _ e1 (λ place st2 e2. both (looks_of nothing st2) refl (in_one place (end1 (expression_trees condition)))))

pub look_cprover_assert : (nothing : Place) (own : Place) (st : Values) (rest : List ℕ) → sorts_of st ≡ 17 ∷ 3 ∷ rest → Looks nothing (of_values 2 1) own st (after_statement_action statement_action.CproverAssert st)
look_cprover_assert nothing own st rest e = has_expression (Looks nothing (of_values 2 1) own) _ st _ e (λ condition st1 e1. has_place (λ s o. Looks nothing (of_values 2 1) own (value.Expression (expression_value.Expression condition) ∷ s) o) _ st1 _ e1 (λ place st2 e2. both (looks_of nothing st2) refl (in_one place (end1 (expression_trees condition)))))

pub look_cprover_assume : (nothing : Place) (own : Place) (st : Values) (rest : List ℕ) → sorts_of st ≡ 17 ∷ 3 ∷ rest → Looks nothing (of_values 2 1) own st (after_statement_action statement_action.CproverAssume st)
look_cprover_assume nothing own st rest e = has_expression (Looks nothing (of_values 2 1) own) _ st _ e (λ condition st1 e1. has_place (λ s o. Looks nothing (of_values 2 1) own (value.Expression (expression_value.Expression condition) ∷ s) o) _ st1 _ e1 (λ place st2 e2. both (looks_of nothing st2) refl (in_one place (end1 (expression_trees condition)))))
