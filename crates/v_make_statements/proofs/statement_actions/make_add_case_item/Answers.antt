use Rattle.std.proofs.Common.{[], ◌∷◌, ◌++◌, Some, reverse, sym, ◌∙◌}
use Rattle.stack_parts.proofs.Takings.{two_lost}
use Rattle.v_stack.specs.Values.{with_case_item, with_case_items}
use Rattle.v_stack.specs.declared.values.StmtValue.TheVariants as StmtValue
use Rattle.v_stack.specs.declared.values.Value.TheVariants as Value
use Rattle.v_make_statements.proofs.statement_actions.make_add_case_item.Goals as goal

pub returns-in_default : goal.returns-in_default
returns-in_default c = two_lost c.take_case_item-item.result c.take_case_items-items.result (with_case_item (reverse c.args.stack.now.items)) with_case_items (reverse c.take_case_item-item.new.stack.items) (reverse c.take_case_items-items.new.stack.items) c.take_case_item-item.ensures c.take_case_items-items.ensures (λ item items rest. Some (Value.Stmt (StmtValue.CaseItems (items ++ item ∷ [])) ∷ rest)) (sym c.all_two.ensures ∙ c.in_default.is)
