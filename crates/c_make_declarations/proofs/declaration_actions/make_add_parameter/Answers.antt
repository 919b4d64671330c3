use Rattle.std.proofs.Common.{◌≡◌, [], ◌∷◌, ◌++◌, Some, None, reverse, sym, ◌∙◌}
use Rattle.stack_parts.proofs.Takings.{two_found, two_lost}
use Rattle.c_stack.specs.Values.{with_parameter, with_parameters}
use Rattle.c_stack.specs.declared.values.Value.TheVariants as value
use Rattle.c_stack.specs.declared.values.PartValue.TheVariants as part_value
use Rattle.c_make_declarations.proofs.declaration_actions.make_add_parameter.Goals as goal

pub returns-in_default : goal.returns-in_default
returns-in_default c = two_lost c.take_parameter-parameter.result c.take_parameters-parameters.result (with_parameter (reverse c.args.stack.now.items)) with_parameters (reverse c.take_parameter-parameter.new.stack.items) (reverse c.take_parameters-parameters.new.stack.items) c.take_parameter-parameter.ensures c.take_parameters-parameters.ensures (λ parameter parameters rest. Some (value.Part (part_value.Parameters (parameters ++ parameter ∷ [])) ∷ rest)) (sym c.all_two.ensures ∙ c.in_default.is)
