use Rattle.std.proofs.Common.{[], ◌∷◌, ◌++◌, Some, reverse, sym, ◌∙◌}
use Rattle.stack_parts.proofs.Takings.{two_lost}
use Rattle.v_stack.specs.Values.{with_ordered, with_ordered_values}
use Rattle.v_stack.specs.declared.values.ConnectValue.TheVariants as ConnectValue
use Rattle.v_stack.specs.declared.values.Value.TheVariants as Value
use Rattle.v_make_statements.proofs.connection_actions.make_add_ordered.Goals as goal

pub returns-in_default : goal.returns-in_default
returns-in_default c = two_lost c.take_ordered-value.result c.take_ordered_values-values.result (with_ordered (reverse c.args.stack.now.items)) with_ordered_values (reverse c.take_ordered-value.new.stack.items) (reverse c.take_ordered_values-values.new.stack.items) c.take_ordered-value.ensures c.take_ordered_values-values.ensures (λ value values rest. Some (Value.Connect (ConnectValue.OrderedValues (values ++ value ∷ [])) ∷ rest)) (sym c.all_two.ensures ∙ c.in_default.is)
