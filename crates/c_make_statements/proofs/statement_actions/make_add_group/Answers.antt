use Rattle.std.proofs.Common.{◌≡◌, [], ◌∷◌, ◌++◌, Some, None, reverse, sym, ◌∙◌}
use Rattle.stack_parts.proofs.Takings.{two_found, two_lost}
use Rattle.c_stack.specs.Values.{with_group, with_groups}
use Rattle.c_stack.specs.declared.values.Value.TheVariants as value
use Rattle.c_stack.specs.declared.values.SwitchValue.TheVariants as switch_value
use Rattle.c_make_statements.proofs.statement_actions.make_add_group.Goals as goal

pub returns-in_default : goal.returns-in_default
returns-in_default c = two_lost c.take_group-group.result c.take_groups-groups.result (with_group (reverse c.args.stack.now.items)) with_groups (reverse c.take_group-group.new.stack.items) (reverse c.take_groups-groups.new.stack.items) c.take_group-group.ensures c.take_groups-groups.ensures (λ group groups rest. Some (value.Switch (switch_value.Groups (groups ++ group ∷ [])) ∷ rest)) (sym c.all_two.ensures ∙ c.in_default.is)
