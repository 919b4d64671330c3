use Rattle.std.proofs.Common.{◌≡◌, [], ◌∷◌, ◌++◌, Some, None, reverse, sym, ◌∙◌}
use Rattle.stack_parts.proofs.Takings.{three_found, three_lost}
use Rattle.c_stack.specs.Values.{with_name, with_names, with_place}
use Rattle.c_tree.specs.declared.declarations.Member.TheVariants as member
use Rattle.c_stack.specs.declared.values.Value.TheVariants as value
use Rattle.c_stack.specs.declared.values.PartValue.TheVariants as part_value
use Rattle.c_make_declarations.proofs.declaration_actions.make_struct_members.Goals as goal

pub returns : goal.returns
returns c =
    let e = three_found c.take_names-names.result c.take_name-tag.result c.take_place-place.result (with_names (reverse c.args.stack.now.items)) with_name with_place (reverse c.take_names-names.new.stack.items) (reverse c.take_name-tag.new.stack.items) (reverse c.take_place-place.new.stack.items) c.take_names-names.ensures c.take_name-tag.ensures c.take_place-place.ensures (λ names tag place rest. Some (value.Part (part_value.Member (member.Structs place tag names)) ∷ rest)) (c.in-Some.names, c.in-Some.tag, c.in-Some.place) (sym c.all_three.ensures ∙ c.in-Some.is) in
    let p = c.in_ok-put.ensures in
    cc

pub returns-in_default : goal.returns-in_default
returns-in_default c = three_lost c.take_names-names.result c.take_name-tag.result c.take_place-place.result (with_names (reverse c.args.stack.now.items)) with_name with_place (reverse c.take_names-names.new.stack.items) (reverse c.take_name-tag.new.stack.items) (reverse c.take_place-place.new.stack.items) c.take_names-names.ensures c.take_name-tag.ensures c.take_place-place.ensures (λ names tag place rest. Some (value.Part (part_value.Member (member.Structs place tag names)) ∷ rest)) (sym c.all_three.ensures ∙ c.in_default.is)
