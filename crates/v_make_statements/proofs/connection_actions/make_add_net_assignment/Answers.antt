use Rattle.std.proofs.Common.{[], ◌∷◌, ◌++◌, Some, reverse, sym, ◌∙◌}
use Rattle.stack_parts.proofs.Takings.{two_lost}
use Rattle.v_stack.specs.Values.{with_net_assignment, with_net_assignments}
use Rattle.v_stack.specs.declared.values.PartValue.TheVariants as PartValue
use Rattle.v_stack.specs.declared.values.Value.TheVariants as Value
use Rattle.v_make_statements.proofs.connection_actions.make_add_net_assignment.Goals as goal

pub returns-in_default : goal.returns-in_default
returns-in_default c = two_lost c.take_net_assignment-assignment.result c.take_net_assignments-assignments.result (with_net_assignment (reverse c.args.stack.now.items)) with_net_assignments (reverse c.take_net_assignment-assignment.new.stack.items) (reverse c.take_net_assignments-assignments.new.stack.items) c.take_net_assignment-assignment.ensures c.take_net_assignments-assignments.ensures (λ assignment assignments rest. Some (Value.Part (PartValue.NetAssignments (assignments ++ assignment ∷ [])) ∷ rest)) (sym c.all_two.ensures ∙ c.in_default.is)
