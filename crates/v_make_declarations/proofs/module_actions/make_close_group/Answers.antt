use Rattle.std.proofs.Common.{[], ◌∷◌, ◌++◌, Some, reverse, sym, ◌∙◌}
use Rattle.stack_parts.proofs.Takings.{four_found, four_lost}
use Rattle.v_stack.specs.Values.{with_groups, with_parameter_range, with_parameters, with_place}
use Rattle.v_stack.specs.declared.values.DeclareValue.TheVariants as DeclareValue
use Rattle.v_stack.specs.declared.values.Value.TheVariants as Value
use Rattle.v_make_declarations.proofs.module_actions.make_close_group.Goals as goal

pub returns : goal.returns
returns c =
    let e = four_found c.take_parameters-parameters.result c.take_parameter_range-range.result c.take_place-place.result c.take_groups-groups.result (with_parameters (reverse c.args.stack.now.items)) with_parameter_range with_place with_groups (reverse c.take_parameters-parameters.new.stack.items) (reverse c.take_parameter_range-range.new.stack.items) (reverse c.take_place-place.new.stack.items) (reverse c.take_groups-groups.new.stack.items) c.take_parameters-parameters.ensures c.take_parameter_range-range.ensures c.take_place-place.ensures c.take_groups-groups.ensures (λ parameters range place groups rest. Some (Value.Declare (DeclareValue.Groups (groups ++ (record { place = place; range = range; parameters = parameters }) ∷ [])) ∷ rest)) (c.in-Some.parameters, c.in-Some.range, c.in-Some.place, c.in-Some.groups) (sym c.all_four.ensures ∙ c.in-Some.is) in
    let q = c.in_ok-push.ensures.ok in
    let p = c.in_ok-put.ensures in
    cc

pub returns-in_default : goal.returns-in_default
returns-in_default c = four_lost c.take_parameters-parameters.result c.take_parameter_range-range.result c.take_place-place.result c.take_groups-groups.result (with_parameters (reverse c.args.stack.now.items)) with_parameter_range with_place with_groups (reverse c.take_parameters-parameters.new.stack.items) (reverse c.take_parameter_range-range.new.stack.items) (reverse c.take_place-place.new.stack.items) (reverse c.take_groups-groups.new.stack.items) c.take_parameters-parameters.ensures c.take_parameter_range-range.ensures c.take_place-place.ensures c.take_groups-groups.ensures (λ parameters range place groups rest. Some (Value.Declare (DeclareValue.Groups (groups ++ (record { place = place; range = range; parameters = parameters }) ∷ [])) ∷ rest)) (sym c.all_four.ensures ∙ c.in_default.is)
