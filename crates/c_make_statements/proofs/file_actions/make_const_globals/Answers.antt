use Rattle.std.proofs.Common.{◌≡◌, [], ◌∷◌, ◌++◌, Some, None, reverse, sym, ◌∙◌}
use Rattle.stack_parts.proofs.Takings.{four_found, four_lost}
use Rattle.c_stack.specs.Values.{with_declarators, with_place, with_storage, with_type}
use Rattle.c_tree.specs.declared.file.External.TheVariants as external
use Rattle.c_stack.specs.declared.values.Value.TheVariants as value
use Rattle.c_stack.specs.declared.values.FileValue.TheVariants as file_value
use Rattle.c_make_statements.proofs.file_actions.make_const_globals.Goals as goal

pub returns : goal.returns
returns c =
    let e = four_found c.take_declarators-declarators.result c.take_type-type_name.result c.take_place-place.result c.take_storage-class.result (with_declarators (reverse c.args.stack.now.items)) with_type with_place with_storage (reverse c.take_declarators-declarators.new.stack.items) (reverse c.take_type-type_name.new.stack.items) (reverse c.take_place-place.new.stack.items) (reverse c.take_storage-class.new.stack.items) c.take_declarators-declarators.ensures c.take_type-type_name.ensures c.take_place-place.ensures c.take_storage-class.ensures (λ declarators type_name place class rest. Some (value.File (file_value.External (external.Objects (record { storage = class; constant = Some place; type_name = type_name; declarators = declarators }))) ∷ rest)) (c.in-Some.declarators, c.in-Some.type_name, c.in-Some.place, c.in-Some.class) (sym c.all_four.ensures ∙ c.in-Some.is) in
    let p = c.in_ok-put.ensures in
    cc

pub returns-in_default : goal.returns-in_default
returns-in_default c = four_lost c.take_declarators-declarators.result c.take_type-type_name.result c.take_place-place.result c.take_storage-class.result (with_declarators (reverse c.args.stack.now.items)) with_type with_place with_storage (reverse c.take_declarators-declarators.new.stack.items) (reverse c.take_type-type_name.new.stack.items) (reverse c.take_place-place.new.stack.items) (reverse c.take_storage-class.new.stack.items) c.take_declarators-declarators.ensures c.take_type-type_name.ensures c.take_place-place.ensures c.take_storage-class.ensures (λ declarators type_name place class rest. Some (value.File (file_value.External (external.Objects (record { storage = class; constant = Some place; type_name = type_name; declarators = declarators }))) ∷ rest)) (sym c.all_four.ensures ∙ c.in_default.is)
