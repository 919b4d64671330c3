-- Actions of statements (ISO C99, 6.8).
use Rattle.std.specs.Prelude.{[], ◌∷◌, ◌++◌, Option, Some, None}
use Rattle.c_actions.specs.declared.actions.StatementAction.{StatementAction}
use Rattle.c_actions.specs.declared.actions.StatementAction.TheVariants as action
use Rattle.c_tree.specs.declared.statements.BlockItem.TheVariants as block_item
use Rattle.c_tree.specs.declared.statements.ForFirst.TheVariants as for_first
use Rattle.c_tree.specs.declared.statements.Label.TheVariants as label
use Rattle.c_tree.specs.declared.statements.Simple.TheVariants as simple
use Rattle.c_tree.specs.declared.statements.Statement.TheVariants as statement
use Rattle.c_stack.specs.declared.values.Value.TheVariants as value
use Rattle.c_stack.specs.declared.values.StatementValue.TheVariants as statement_value
use Rattle.c_stack.specs.declared.values.SwitchValue.TheVariants as switch_value
use Rattle.c_stack.specs.Values.{Values, with_place, with_name, with_assignment_mark, with_step_mark, with_path, with_expression, with_expressions, with_expression_option, with_initializer, with_initializer_option, with_local, with_simple, with_simple_option, with_for_first, with_label, with_labels, with_labelled, with_group, with_groups, with_statement, with_parts, with_block}
use Rattle.c_tree.specs.Starts.{label_start}

-- the stack after an action of a statement; none where it isn't as the action needs it
abbrev pub after_statement_action : StatementAction → Values → Option Values
-- Simple = Call
after_statement_action action.Call st = with_expressions st (λ arguments st1. with_name st1 (λ name rest. Some (value.Statement (statement_value.Simple (simple.Called (record { name = name; arguments = arguments }))) ∷ rest)))
-- Simple = Path "=" Init
after_statement_action action.Assign st = with_initializer st (λ given st1. with_path st1 (λ target rest. Some (value.Statement (statement_value.Simple (simple.Assign target given)) ∷ rest)))
-- Simple = Path OpAssign Expression
after_statement_action action.Update st = with_expression st (λ operand st1. with_assignment_mark st1 (λ mark st2. with_path st2 (λ target rest. Some (value.Statement (statement_value.Simple (simple.Update target mark operand)) ∷ rest))))
-- Simple = Path ("++" | "--")
after_statement_action action.StepAfter st = with_step_mark st (λ mark st1. with_path st1 (λ target rest. Some (value.Statement (statement_value.Simple (simple.StepAfter target mark)) ∷ rest)))
-- Simple = ("++" | "--") Path
after_statement_action action.StepBefore st = with_path st (λ target st1. with_step_mark st1 (λ mark rest. Some (value.Statement (statement_value.Simple (simple.StepBefore mark target)) ∷ rest)))
-- no simple statement
after_statement_action action.NoSimple st = Some (value.Statement (statement_value.SimpleOption None) ∷ st)
-- a simple statement where there may be none
after_statement_action action.SomeSimple st = with_simple st (λ part rest. Some (value.Statement (statement_value.SimpleOption (Some part)) ∷ rest))
-- nothing before the first ; of a for
after_statement_action action.ForNothing st = Some (value.Statement (statement_value.ForFirst for_first.Nothing) ∷ st)
-- a declaration in the head of a for
after_statement_action action.ForLocal st = with_local st (λ part rest. Some (value.Statement (statement_value.ForFirst (for_first.Local part)) ∷ rest))
-- a simple statement in the head of a for
after_statement_action action.ForSimple st = with_simple st (λ part rest. Some (value.Statement (statement_value.ForFirst (for_first.Simple part)) ∷ rest))
-- Label = "case" Expression ":"
after_statement_action action.Case st = with_expression st (λ given st1. with_place st1 (λ place rest. Some (value.Statement (statement_value.Label (label.Case place given)) ∷ rest)))
-- Label = "default" ":"
after_statement_action action.Default st = with_place st (λ place rest. Some (value.Statement (statement_value.Label (label.Default place)) ∷ rest))
-- the first label of a group
after_statement_action action.FirstLabel st = with_label st (λ label_made rest. Some (value.Switch (switch_value.Labels (record { place = label_start label_made; labels = (label_made ∷ []) })) ∷ rest))
-- one more label of a group
after_statement_action action.AddLabel st = with_label st (λ label_made st1. with_labels st1 (λ labels rest. Some (value.Switch (switch_value.Labels (record { place = labels.place; labels = (labels.labels ++ label_made ∷ []) })) ∷ rest)))
-- the end of the labels of a group
after_statement_action action.Labelled st = with_labels st (λ labels rest. Some (value.Switch (switch_value.Labelled (record { place = labels.place; labels = labels.labels; body = [] })) ∷ rest))
-- one more statement of a group
after_statement_action action.AddToGroup st = with_statement st (λ part st1. with_labelled st1 (λ labelled rest. Some (value.Switch (switch_value.Labelled (record { place = labelled.place; labels = labelled.labels; body = (labelled.body ++ part ∷ []) })) ∷ rest)))
-- Group = Label { Label } { Statement }
after_statement_action action.Group st = with_labelled st (λ labelled rest. Some (value.Switch (switch_value.Group labelled) ∷ rest))
-- no groups
after_statement_action action.NoGroups st = Some (value.Switch (switch_value.Groups []) ∷ st)
-- one more group
after_statement_action action.AddGroup st = with_group st (λ group st1. with_groups st1 (λ groups rest. Some (value.Switch (switch_value.Groups (groups ++ group ∷ [])) ∷ rest)))
-- an empty block
after_statement_action action.NoItems st = Some (value.Statement (statement_value.Parts []) ∷ st)
-- one more declaration of a block
after_statement_action action.AddLocal st = with_local st (λ part st1. with_parts st1 (λ parts rest. Some (value.Statement (statement_value.Parts (parts ++ (block_item.Local part) ∷ [])) ∷ rest)))
-- one more statement of a block
after_statement_action action.AddStatement st = with_statement st (λ part st1. with_parts st1 (λ parts rest. Some (value.Statement (statement_value.Parts (parts ++ (block_item.Statement part) ∷ [])) ∷ rest)))
-- Block = "{" { Local | Statement } "}"
after_statement_action action.Block st = with_parts st (λ items st1. with_place st1 (λ place rest. Some (value.Statement (statement_value.Block (record { place = place; items = items })) ∷ rest)))
-- Statement = Block
after_statement_action action.Compound st = with_block st (λ part rest. Some (value.Statement (statement_value.Statement (statement.Compound part.place part.items)) ∷ rest))
-- Statement = ";"
after_statement_action action.Empty st = with_place st (λ place rest. Some (value.Statement (statement_value.Statement (statement.Empty place)) ∷ rest))
-- Statement = Simple ";"
after_statement_action action.Simple st = with_simple st (λ part rest. Some (value.Statement (statement_value.Statement (statement.Simple part)) ∷ rest))
-- Statement = "if" "(" Expression ")" Statement
after_statement_action action.IfAlone st = with_statement st (λ first st1. with_expression st1 (λ condition st2. with_place st2 (λ place rest. Some (value.Statement (statement_value.Statement (statement.If place condition first)) ∷ rest))))
-- Statement = "if" "(" Expression ")" Statement "else" Statement
after_statement_action action.IfElse st = with_statement st (λ second st1. with_statement st1 (λ first st2. with_expression st2 (λ condition st3. with_place st3 (λ place rest. Some (value.Statement (statement_value.Statement (statement.IfElse place condition first second)) ∷ rest)))))
-- Statement = "while" "(" Expression ")" Statement
after_statement_action action.While st = with_statement st (λ body st1. with_expression st1 (λ condition st2. with_place st2 (λ place rest. Some (value.Statement (statement_value.Statement (statement.While place condition body)) ∷ rest))))
-- Statement = "do" Statement "while" "(" Expression ")" ";"
after_statement_action action.Do st = with_expression st (λ condition st1. with_statement st1 (λ body st2. with_place st2 (λ place rest. Some (value.Statement (statement_value.Statement (statement.Do place body condition)) ∷ rest))))
-- Statement = "for" "(" ForFirst [Expression] ";" [Simple] ")" Statement
after_statement_action action.For st = with_statement st (λ body st1. with_simple_option st1 (λ step st2. with_expression_option st2 (λ condition st3. with_for_first st3 (λ first st4. with_place st4 (λ place rest. Some (value.Statement (statement_value.Statement (statement.For place first condition step body)) ∷ rest))))))
-- Statement = "switch" "(" Expression ")" "{" { Group } "}"
after_statement_action action.Switch st = with_groups st (λ groups st1. with_expression st1 (λ given st2. with_place st2 (λ place rest. Some (value.Statement (statement_value.Statement (statement.Switch place given groups)) ∷ rest))))
-- Statement = "break" ";"
after_statement_action action.Break st = with_place st (λ place rest. Some (value.Statement (statement_value.Statement (statement.Break place)) ∷ rest))
-- Statement = "continue" ";"
after_statement_action action.Continue st = with_place st (λ place rest. Some (value.Statement (statement_value.Statement (statement.Continue place)) ∷ rest))
-- Statement = "return" [Init] ";"
after_statement_action action.Return st = with_initializer_option st (λ given st1. with_place st1 (λ place rest. Some (value.Statement (statement_value.Statement (statement.Return place given)) ∷ rest)))
-- Statement = "assert" "(" Expression ")" ";"
after_statement_action action.Assert st = with_expression st (λ condition st1. with_place st1 (λ place rest. Some (value.Statement (statement_value.Statement (statement.Assert place condition)) ∷ rest)))
-- Statement = "__CPROVER_assert" "(" Expression "," STRING ")" ";"
after_statement_action action.CproverAssert st = with_expression st (λ condition st1. with_place st1 (λ place rest. Some (value.Statement (statement_value.Statement (statement.CproverAssert place condition)) ∷ rest)))
-- Statement = "__CPROVER_assume" "(" Expression ")" ";"
after_statement_action action.CproverAssume st = with_expression st (λ condition st1. with_place st1 (λ place rest. Some (value.Statement (statement_value.Statement (statement.CproverAssume place condition)) ∷ rest)))
