use Rattle.std.proofs.Common.{◌≡◌, [], ◌∷◌, ◌++◌, Some, None, reverse, sym, ◌∙◌}
use Rattle.stack_parts.proofs.Takings.{two_found, two_lost}
use Rattle.c_stack.specs.Values.{with_item, with_items}
use Rattle.c_stack.specs.declared.values.Value.TheVariants as value
use Rattle.c_stack.specs.declared.values.DeclarationValue.TheVariants as declaration_value
use Rattle.c_make_declarations.proofs.declaration_actions.make_add_item.Goals as goal

pub returns-in_default : goal.returns-in_default
returns-in_default c = two_lost c.take_item-item.result c.take_items-items.result (with_item (reverse c.args.stack.now.items)) with_items (reverse c.take_item-item.new.stack.items) (reverse c.take_items-items.new.stack.items) c.take_item-item.ensures c.take_items-items.ensures (λ item items rest. Some (value.Declaration (declaration_value.Items (items ++ item ∷ [])) ∷ rest)) (sym c.all_two.ensures ∙ c.in_default.is)
