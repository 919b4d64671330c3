-- Each action of a statement keeps what is known of the values on the stack.
use Rattle.std.specs.Prelude.{[], IfSome, ◌∷◌, ◌++◌, List}
use Rattle.std.proofs.Common.{arith}
use Rattle.std.proofs.lemmas.List.{length-append}
use Rattle.std.proofs.lemmas.List.Elements.{All-cons, All-nil, All-push}
use Rattle.c_tree.specs.declared.statements.BlockItem as in_item
use Rattle.c_tree.specs.declared.statements.BlockItem.TheVariants as block_item
use Rattle.c_tree.specs.declared.statements.Label.{Label}
use Rattle.c_stack.specs.Values.{Values}
use Rattle.c_actions.specs.declared.actions.StatementAction.{StatementAction}
use Rattle.c_actions.specs.declared.actions.StatementAction.TheVariants as action
use Rattle.c_actions.specs.StatementActions.{after_statement_action}
use Rattle.c_text_laws.specs.Bytes.{ItemBytes, LabelBytes, StatementBytes}
use Rattle.c_text_laws.proofs.Rows.{compound, switch}
use Rattle.c_text_laws.proofs.Takes.{takes_assignment_mark, takes_block, takes_expression, takes_expression_option, takes_expressions, takes_for_first, takes_group, takes_groups, takes_initializer, takes_initializer_option, takes_label, takes_labelled, takes_labels, takes_local, takes_name, takes_parts, takes_path, takes_place, takes_simple, takes_simple_option, takes_statement, takes_step_mark}
use Rattle.c_text_laws.proofs.Values.{HaveBytes, GroupBytes, StackBytes}

first_label : (x : Label) → LabelBytes x → HaveBytes (x ∷ [])
first_label x h = (omega arith, All-cons LabelBytes x [] h (All-nil LabelBytes))

more_labels : (xs : List Label) (x : Label) → HaveBytes xs → LabelBytes x → HaveBytes (xs ++ x ∷ [])
more_labels xs x h k = (let n = length-append xs (x ∷ []) in omega (arith, n), All-push LabelBytes xs x h.1 k)

pub statement_bytes : (a : StatementAction) (st : Values) → StackBytes st → IfSome (after_statement_action a st) StackBytes
unfolding in_item.TheBlock.hidden-the_row-Statement-1 denote.Hole.Carrier.hidden
statement_bytes action.Call st h = takes_expressions st _ h (λ arguments st1 a h1. takes_name st1 _ h1 (λ name rest h2. (a, h2)))
statement_bytes action.Assign st h = takes_initializer st _ h (λ given st1 a h1. takes_path st1 _ h1 (λ target rest b h2. ((b, a), h2)))
statement_bytes action.Update st h = takes_expression st _ h (λ operand st1 a h1. takes_assignment_mark st1 _ h1 (λ mark st2 h2. takes_path st2 _ h2 (λ target rest b h3. ((b, a), h3))))
statement_bytes action.StepAfter st h = takes_step_mark st _ h (λ mark st1 h1. takes_path st1 _ h1 (λ target rest a h2. (a, h2)))
statement_bytes action.StepBefore st h = takes_path st _ h (λ target st1 a h1. takes_step_mark st1 _ h1 (λ mark rest h2. (a, h2)))
statement_bytes action.NoSimple st h = (tt, h)
statement_bytes action.SomeSimple st h = takes_simple st _ h (λ part rest a h1. (a, h1))
statement_bytes action.ForNothing st h = (tt, h)
statement_bytes action.ForLocal st h = takes_local st _ h (λ part rest a h1. (a, h1))
statement_bytes action.ForSimple st h = takes_simple st _ h (λ part rest a h1. (a, h1))
statement_bytes action.Case st h = takes_expression st _ h (λ given st1 a h1. takes_place st1 _ h1 (λ place rest h2. (a, h2)))
statement_bytes action.Default st h = takes_place st _ h (λ place rest h1. (tt, h1))
statement_bytes action.FirstLabel st h = takes_label st _ h (λ label_made rest a h1. (first_label label_made a, h1))
statement_bytes action.AddLabel st h = takes_label st _ h (λ label_made st1 a h1. takes_labels st1 _ h1 (λ labels rest b h2. (more_labels labels.labels label_made b a, h2)))
statement_bytes action.Labelled st h = takes_labels st _ h (λ labels rest a h1. ((a, All-nil StatementBytes), h1))
statement_bytes action.AddToGroup st h = takes_statement st _ h (λ part st1 a h1. takes_labelled st1 _ h1 (λ labelled rest b h2. ((b.0, All-push StatementBytes labelled.body part b.1 a), h2)))
statement_bytes action.Group st h = takes_labelled st _ h (λ labelled rest a h1. (a, h1))
statement_bytes action.NoGroups st h = (All-nil GroupBytes, h)
statement_bytes action.AddGroup st h = takes_group st _ h (λ group st1 a h1. takes_groups st1 _ h1 (λ groups rest b h2. (All-push GroupBytes groups group b a, h2)))
statement_bytes action.NoItems st h = (All-nil ItemBytes, h)
statement_bytes action.AddLocal st h = takes_local st _ h (λ part st1 a h1. takes_parts st1 _ h1 (λ parts rest b h2. (All-push ItemBytes parts (block_item.Local part) b a, h2)))
statement_bytes action.AddStatement st h = takes_statement st _ h (λ part st1 a h1. takes_parts st1 _ h1 (λ parts rest b h2. (All-push ItemBytes parts (block_item.Statement part) b a, h2)))
statement_bytes action.Block st h = takes_parts st _ h (λ items st1 a h1. takes_place st1 _ h1 (λ place rest h2. (a, h2)))
statement_bytes action.Compound st h = takes_block st _ h (λ part rest a h1. (compound part.place part.items a, h1))
statement_bytes action.Empty st h = takes_place st _ h (λ place rest h1. (tt, h1))
statement_bytes action.Simple st h = takes_simple st _ h (λ part rest a h1. (a, h1))
statement_bytes action.IfAlone st h = takes_statement st _ h (λ first st1 a h1. takes_expression st1 _ h1 (λ condition st2 b h2. takes_place st2 _ h2 (λ place rest h3. ((b, a), h3))))
statement_bytes action.IfElse st h = takes_statement st _ h (λ second st1 a h1. takes_statement st1 _ h1 (λ first st2 b h2. takes_expression st2 _ h2 (λ condition st3 c h3. takes_place st3 _ h3 (λ place rest h4. ((c, b, a), h4)))))
statement_bytes action.While st h = takes_statement st _ h (λ body st1 a h1. takes_expression st1 _ h1 (λ condition st2 b h2. takes_place st2 _ h2 (λ place rest h3. ((b, a), h3))))
statement_bytes action.Do st h = takes_expression st _ h (λ condition st1 a h1. takes_statement st1 _ h1 (λ body st2 b h2. takes_place st2 _ h2 (λ place rest h3. ((b, a), h3))))
statement_bytes action.For st h = takes_statement st _ h (λ body st1 a h1. takes_simple_option st1 _ h1 (λ step st2 b h2. takes_expression_option st2 _ h2 (λ condition st3 c h3. takes_for_first st3 _ h3 (λ first st4 d h4. takes_place st4 _ h4 (λ place rest h5. ((d, c, b, a), h5))))))
statement_bytes action.Switch st h = takes_groups st _ h (λ groups st1 a h1. takes_expression st1 _ h1 (λ given st2 b h2. takes_place st2 _ h2 (λ place rest h3. (switch place given groups b a, h3))))
statement_bytes action.Break st h = takes_place st _ h (λ place rest h1. (tt, h1))
statement_bytes action.Continue st h = takes_place st _ h (λ place rest h1. (tt, h1))
statement_bytes action.Return st h = takes_initializer_option st _ h (λ given st1 a h1. takes_place st1 _ h1 (λ place rest h2. (a, h2)))
statement_bytes action.Assert st h = takes_expression st _ h (λ condition st1 a h1. takes_place st1 _ h1 (λ place rest h2. (a, h2)))
statement_bytes action.CproverAssert st h = takes_expression st _ h (λ condition st1 a h1. takes_place st1 _ h1 (λ place rest h2. (a, h2)))
statement_bytes action.CproverAssume st h = takes_expression st _ h (λ condition st1 a h1. takes_place st1 _ h1 (λ place rest h2. (a, h2)))
