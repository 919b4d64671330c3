use Rattle.std.proofs.Common.{[], ◌∷◌, ◌++◌, Some, reverse, sym, ◌∙◌}
use Rattle.stack_parts.proofs.Takings.{two_lost}
use Rattle.v_stack.specs.Values.{with_instance, with_instances}
use Rattle.v_stack.specs.declared.values.PartValue.TheVariants as PartValue
use Rattle.v_stack.specs.declared.values.Value.TheVariants as Value
use Rattle.v_make_statements.proofs.connection_actions.make_add_instance.Goals as goal

pub returns-in_default : goal.returns-in_default
returns-in_default c = two_lost c.take_instance-instance.result c.take_instances-instances.result (with_instance (reverse c.args.stack.now.items)) with_instances (reverse c.take_instance-instance.new.stack.items) (reverse c.take_instances-instances.new.stack.items) c.take_instance-instance.ensures c.take_instances-instances.ensures (λ instance instances rest. Some (Value.Part (PartValue.Instances (instances ++ instance ∷ [])) ∷ rest)) (sym c.all_two.ensures ∙ c.in_default.is)
