use Rattle.std.proofs.Common.{◌∷◌, Some, reverse, sym, ◌∙◌}
use Rattle.stack_parts.proofs.Takings.{three_found, three_lost}
use Rattle.v_stack.specs.Values.{with_parameter_range, with_parameters, with_place}
use Rattle.v_tree.specs.declared.item.Item.TheVariants as Item
use Rattle.v_stack.specs.declared.values.ModuleValue.TheVariants as ModuleValue
use Rattle.v_stack.specs.declared.values.Value.TheVariants as Value
use Rattle.v_make_declarations.proofs.module_actions.make_local_parameter_item.Goals as goal

pub returns : goal.returns
returns c =
    let e = three_found c.take_parameters-parameters.result c.take_parameter_range-range.result c.take_place-place.result (with_parameters (reverse c.args.stack.now.items)) with_parameter_range with_place (reverse c.take_parameters-parameters.new.stack.items) (reverse c.take_parameter_range-range.new.stack.items) (reverse c.take_place-place.new.stack.items) c.take_parameters-parameters.ensures c.take_parameter_range-range.ensures c.take_place-place.ensures (λ parameters range place rest. Some (Value.Module (ModuleValue.Item (Item.LocalParameter (record { place = place; range = range; parameters = parameters }))) ∷ rest)) (c.in-Some.parameters, c.in-Some.range, c.in-Some.place) (sym c.all_three.ensures ∙ c.in-Some.is) in
    let p = c.in_ok-put.ensures in
    cc

pub returns-in_default : goal.returns-in_default
returns-in_default c = three_lost c.take_parameters-parameters.result c.take_parameter_range-range.result c.take_place-place.result (with_parameters (reverse c.args.stack.now.items)) with_parameter_range with_place (reverse c.take_parameters-parameters.new.stack.items) (reverse c.take_parameter_range-range.new.stack.items) (reverse c.take_place-place.new.stack.items) c.take_parameters-parameters.ensures c.take_parameter_range-range.ensures c.take_place-place.ensures (λ parameters range place rest. Some (Value.Module (ModuleValue.Item (Item.LocalParameter (record { place = place; range = range; parameters = parameters }))) ∷ rest)) (sym c.all_three.ensures ∙ c.in_default.is)
