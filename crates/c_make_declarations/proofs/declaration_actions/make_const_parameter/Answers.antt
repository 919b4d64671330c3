use Rattle.std.proofs.Common.{◌≡◌, [], ◌∷◌, ◌++◌, Some, None, reverse, sym, ◌∙◌}
use Rattle.stack_parts.proofs.Takings.{three_found, three_lost}
use Rattle.c_stack.specs.Values.{with_name_option, with_place, with_type}
use Rattle.c_stack.specs.declared.values.Value.TheVariants as value
use Rattle.c_stack.specs.declared.values.PartValue.TheVariants as part_value
use Rattle.c_make_declarations.proofs.declaration_actions.make_const_parameter.Goals as goal

pub returns : goal.returns
returns c =
    let e = three_found c.take_name_option-name.result c.take_type-type_name.result c.take_place-place.result (with_name_option (reverse c.args.stack.now.items)) with_type with_place (reverse c.take_name_option-name.new.stack.items) (reverse c.take_type-type_name.new.stack.items) (reverse c.take_place-place.new.stack.items) c.take_name_option-name.ensures c.take_type-type_name.ensures c.take_place-place.ensures (λ name type_name place rest. Some (value.Part (part_value.Parameter (record { constant = Some place; type_name = type_name; name = name })) ∷ rest)) (c.in-Some.name, c.in-Some.type_name, c.in-Some.place) (sym c.all_three.ensures ∙ c.in-Some.is) in
    let p = c.in_ok-put.ensures in
    cc

pub returns-in_default : goal.returns-in_default
returns-in_default c = three_lost c.take_name_option-name.result c.take_type-type_name.result c.take_place-place.result (with_name_option (reverse c.args.stack.now.items)) with_type with_place (reverse c.take_name_option-name.new.stack.items) (reverse c.take_type-type_name.new.stack.items) (reverse c.take_place-place.new.stack.items) c.take_name_option-name.ensures c.take_type-type_name.ensures c.take_place-place.ensures (λ name type_name place rest. Some (value.Part (part_value.Parameter (record { constant = Some place; type_name = type_name; name = name })) ∷ rest)) (sym c.all_three.ensures ∙ c.in_default.is)
