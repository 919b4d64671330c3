use Rattle.std.proofs.Common.{◌≡◌, [], ◌∷◌, ◌++◌, Some, None, reverse, sym, ◌∙◌}
use Rattle.stack_parts.proofs.Takings.{two_found, two_lost}
use Rattle.c_stack.specs.Values.{with_declared, with_type}
use Rattle.c_tree.specs.declared.declarations.ResultType.TheVariants as result_type
use Rattle.c_stack.specs.declared.values.Value.TheVariants as value
use Rattle.c_stack.specs.declared.values.PartValue.TheVariants as part_value
use Rattle.c_make_statements.proofs.file_actions.make_integer_function.Goals as goal

pub returns : goal.returns
returns c =
    let e = two_found c.take_declared-name.result c.take_type-type_name.result (with_declared (reverse c.args.stack.now.items)) with_type (reverse c.take_declared-name.new.stack.items) (reverse c.take_type-type_name.new.stack.items) c.take_declared-name.ensures c.take_type-type_name.ensures (λ name type_name rest. Some (value.Part (part_value.Function (record { result = result_type.Integer type_name; name = name })) ∷ rest)) (c.in-Some.name, c.in-Some.type_name) (sym c.all_two.ensures ∙ c.in-Some.is) in
    let p = c.in_ok-put.ensures in
    cc

pub returns-in_default : goal.returns-in_default
returns-in_default c = two_lost c.take_declared-name.result c.take_type-type_name.result (with_declared (reverse c.args.stack.now.items)) with_type (reverse c.take_declared-name.new.stack.items) (reverse c.take_type-type_name.new.stack.items) c.take_declared-name.ensures c.take_type-type_name.ensures (λ name type_name rest. Some (value.Part (part_value.Function (record { result = result_type.Integer type_name; name = name })) ∷ rest)) (sym c.all_two.ensures ∙ c.in_default.is)
