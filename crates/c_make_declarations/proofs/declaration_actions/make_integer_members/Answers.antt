use Rattle.std.proofs.Common.{◌≡◌, [], ◌∷◌, ◌++◌, Some, None, reverse, sym, ◌∙◌}
use Rattle.stack_parts.proofs.Takings.{two_found, two_lost}
use Rattle.c_stack.specs.Values.{with_items, with_type}
use Rattle.c_tree.specs.declared.declarations.Member.TheVariants as member
use Rattle.c_stack.specs.declared.values.Value.TheVariants as value
use Rattle.c_stack.specs.declared.values.PartValue.TheVariants as part_value
use Rattle.c_make_declarations.proofs.declaration_actions.make_integer_members.Goals as goal

pub returns : goal.returns
returns c =
    let e = two_found c.take_items-items.result c.take_type-type_name.result (with_items (reverse c.args.stack.now.items)) with_type (reverse c.take_items-items.new.stack.items) (reverse c.take_type-type_name.new.stack.items) c.take_items-items.ensures c.take_type-type_name.ensures (λ items type_name rest. Some (value.Part (part_value.Member (member.Integers type_name items)) ∷ rest)) (c.in-Some.items, c.in-Some.type_name) (sym c.all_two.ensures ∙ c.in-Some.is) in
    let p = c.in_ok-put.ensures in
    cc

pub returns-in_default : goal.returns-in_default
returns-in_default c = two_lost c.take_items-items.result c.take_type-type_name.result (with_items (reverse c.args.stack.now.items)) with_type (reverse c.take_items-items.new.stack.items) (reverse c.take_type-type_name.new.stack.items) c.take_items-items.ensures c.take_type-type_name.ensures (λ items type_name rest. Some (value.Part (part_value.Member (member.Integers type_name items)) ∷ rest)) (sym c.all_two.ensures ∙ c.in_default.is)
