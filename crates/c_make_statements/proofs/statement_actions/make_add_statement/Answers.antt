use Rattle.std.proofs.Common.{◌≡◌, [], ◌∷◌, ◌++◌, Some, None, reverse, sym, ◌∙◌}
use Rattle.stack_parts.proofs.Takings.{two_found, two_lost}
use Rattle.c_stack.specs.Values.{with_parts, with_statement}
use Rattle.c_tree.specs.declared.statements.BlockItem.TheVariants as block_item
use Rattle.c_stack.specs.declared.values.Value.TheVariants as value
use Rattle.c_stack.specs.declared.values.StatementValue.TheVariants as statement_value
use Rattle.c_make_statements.proofs.statement_actions.make_add_statement.Goals as goal

pub returns-in_default : goal.returns-in_default
returns-in_default c = two_lost c.take_statement-part.result c.take_parts-parts.result (with_statement (reverse c.args.stack.now.items)) with_parts (reverse c.take_statement-part.new.stack.items) (reverse c.take_parts-parts.new.stack.items) c.take_statement-part.ensures c.take_parts-parts.ensures (λ part parts rest. Some (value.Statement (statement_value.Parts (parts ++ (block_item.Statement part) ∷ [])) ∷ rest)) (sym c.all_two.ensures ∙ c.in_default.is)
