use Rattle.std.proofs.Common.{◌∷◌, Some, reverse, sym, ◌∙◌}
use Rattle.stack_parts.proofs.Takings.{five_found, five_lost}
use Rattle.v_stack.specs.Values.{with_groups, with_header, with_items, with_name, with_place}
use Rattle.v_stack.specs.declared.values.ModuleValue.TheVariants as ModuleValue
use Rattle.v_stack.specs.declared.values.Value.TheVariants as Value
use Rattle.v_make_declarations.proofs.module_actions.make_module.Goals as goal

pub returns : goal.returns
returns c =
    let e = five_found c.take_items-items.result c.take_header-header.result c.take_groups-groups.result c.take_name-name.result c.take_place-place.result (with_items (reverse c.args.stack.now.items)) with_header with_groups with_name with_place (reverse c.take_items-items.new.stack.items) (reverse c.take_header-header.new.stack.items) (reverse c.take_groups-groups.new.stack.items) (reverse c.take_name-name.new.stack.items) (reverse c.take_place-place.new.stack.items) c.take_items-items.ensures c.take_header-header.ensures c.take_groups-groups.ensures c.take_name-name.ensures c.take_place-place.ensures (λ items header groups name place rest. Some (Value.Module (ModuleValue.Module (record { place = place; name = name; parameters = groups; header = header; items = items })) ∷ rest)) (c.in-Some.items, c.in-Some.header, c.in-Some.groups, c.in-Some.name, c.in-Some.place) (sym c.all_five.ensures ∙ c.in-Some.is) in
    let p = c.in_ok-put.ensures in
    cc

pub returns-in_default : goal.returns-in_default
returns-in_default c = five_lost c.take_items-items.result c.take_header-header.result c.take_groups-groups.result c.take_name-name.result c.take_place-place.result (with_items (reverse c.args.stack.now.items)) with_header with_groups with_name with_place (reverse c.take_items-items.new.stack.items) (reverse c.take_header-header.new.stack.items) (reverse c.take_groups-groups.new.stack.items) (reverse c.take_name-name.new.stack.items) (reverse c.take_place-place.new.stack.items) c.take_items-items.ensures c.take_header-header.ensures c.take_groups-groups.ensures c.take_name-name.ensures c.take_place-place.ensures (λ items header groups name place rest. Some (Value.Module (ModuleValue.Module (record { place = place; name = name; parameters = groups; header = header; items = items })) ∷ rest)) (sym c.all_five.ensures ∙ c.in_default.is)
