use Rattle.std.proofs.Common.{[], ◌∷◌, ◌++◌, Some, reverse, sym, ◌∙◌}
use Rattle.stack_parts.proofs.Takings.{two_lost}
use Rattle.v_stack.specs.Values.{with_parameter, with_parameters}
use Rattle.v_stack.specs.declared.values.DeclareValue.TheVariants as DeclareValue
use Rattle.v_stack.specs.declared.values.Value.TheVariants as Value
use Rattle.v_make_declarations.proofs.declaration_actions.make_add_parameter.Goals as goal

pub returns-in_default : goal.returns-in_default
returns-in_default c = two_lost c.take_parameter-parameter.result c.take_parameters-parameters.result (with_parameter (reverse c.args.stack.now.items)) with_parameters (reverse c.take_parameter-parameter.new.stack.items) (reverse c.take_parameters-parameters.new.stack.items) c.take_parameter-parameter.ensures c.take_parameters-parameters.ensures (λ parameter parameters rest. Some (Value.Declare (DeclareValue.Parameters (parameters ++ parameter ∷ [])) ∷ rest)) (sym c.all_two.ensures ∙ c.in_default.is)
