use Rattle.std.proofs.Common.{◌∷◌, Some, reverse, sym, ◌∙◌}
use Rattle.stack_parts.proofs.Takings.{five_found, five_lost}
use Rattle.v_stack.specs.Values.{with_declared_names, with_direction, with_net_kind, with_range_option, with_sign}
use Rattle.v_tree.specs.declared.item.Item.TheVariants as Item
use Rattle.v_stack.specs.declared.values.ModuleValue.TheVariants as ModuleValue
use Rattle.v_stack.specs.declared.values.Value.TheVariants as Value
use Rattle.v_make_declarations.proofs.module_actions.make_port_item.Goals as goal

pub returns : goal.returns
returns c =
    let e = five_found c.take_declared_names-names.result c.take_range_option-range.result c.take_sign-signed.result c.take_net_kind-net.result c.take_direction-direction.result (with_declared_names (reverse c.args.stack.now.items)) with_range_option with_sign with_net_kind with_direction (reverse c.take_declared_names-names.new.stack.items) (reverse c.take_range_option-range.new.stack.items) (reverse c.take_sign-signed.new.stack.items) (reverse c.take_net_kind-net.new.stack.items) (reverse c.take_direction-direction.new.stack.items) c.take_declared_names-names.ensures c.take_range_option-range.ensures c.take_sign-signed.ensures c.take_net_kind-net.ensures c.take_direction-direction.ensures (λ names range signed net direction rest. Some (Value.Module (ModuleValue.Item (Item.Port (record { direction = direction; net = net; signed = signed; range = range; names = names }))) ∷ rest)) (c.in-Some.names, c.in-Some.range, c.in-Some.signed, c.in-Some.net, c.in-Some.direction) (sym c.all_five.ensures ∙ c.in-Some.is) in
    let p = c.in_ok-put.ensures in
    cc

pub returns-in_default : goal.returns-in_default
returns-in_default c = five_lost c.take_declared_names-names.result c.take_range_option-range.result c.take_sign-signed.result c.take_net_kind-net.result c.take_direction-direction.result (with_declared_names (reverse c.args.stack.now.items)) with_range_option with_sign with_net_kind with_direction (reverse c.take_declared_names-names.new.stack.items) (reverse c.take_range_option-range.new.stack.items) (reverse c.take_sign-signed.new.stack.items) (reverse c.take_net_kind-net.new.stack.items) (reverse c.take_direction-direction.new.stack.items) c.take_declared_names-names.ensures c.take_range_option-range.ensures c.take_sign-signed.ensures c.take_net_kind-net.ensures c.take_direction-direction.ensures (λ names range signed net direction rest. Some (Value.Module (ModuleValue.Item (Item.Port (record { direction = direction; net = net; signed = signed; range = range; names = names }))) ∷ rest)) (sym c.all_five.ensures ∙ c.in_default.is)
