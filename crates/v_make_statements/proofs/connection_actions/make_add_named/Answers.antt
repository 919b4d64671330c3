use Rattle.std.proofs.Common.{[], ◌∷◌, ◌++◌, Some, reverse, sym, ◌∙◌}
use Rattle.stack_parts.proofs.Takings.{two_lost}
use Rattle.v_stack.specs.Values.{with_named, with_named_values}
use Rattle.v_stack.specs.declared.values.ConnectValue.TheVariants as ConnectValue
use Rattle.v_stack.specs.declared.values.Value.TheVariants as Value
use Rattle.v_make_statements.proofs.connection_actions.make_add_named.Goals as goal

pub returns-in_default : goal.returns-in_default
returns-in_default c = two_lost c.take_named-connection.result c.take_named_values-connections.result (with_named (reverse c.args.stack.now.items)) with_named_values (reverse c.take_named-connection.new.stack.items) (reverse c.take_named_values-connections.new.stack.items) c.take_named-connection.ensures c.take_named_values-connections.ensures (λ connection connections rest. Some (Value.Connect (ConnectValue.NamedValues (connections ++ connection ∷ [])) ∷ rest)) (sym c.all_two.ensures ∙ c.in_default.is)
