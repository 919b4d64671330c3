use Rattle.std.proofs.Common.{[], ◌∷◌, ◌++◌, Some, reverse, sym, ◌∙◌}
use Rattle.stack_parts.proofs.Takings.{six_found, six_lost}
use Rattle.v_stack.specs.Values.{with_declarators, with_direction, with_net_kind, with_ports, with_range_option, with_sign}
use Rattle.v_stack.specs.declared.values.ModuleValue.TheVariants as ModuleValue
use Rattle.v_stack.specs.declared.values.Value.TheVariants as Value
use Rattle.v_make_declarations.proofs.module_actions.make_close_port.Goals as goal

pub returns : goal.returns
returns c =
    let e = six_found c.take_declarators-names.result c.take_range_option-range.result c.take_sign-signed.result c.take_net_kind-net.result c.take_direction-direction.result c.take_ports-ports.result (with_declarators (reverse c.args.stack.now.items)) with_range_option with_sign with_net_kind with_direction with_ports (reverse c.take_declarators-names.new.stack.items) (reverse c.take_range_option-range.new.stack.items) (reverse c.take_sign-signed.new.stack.items) (reverse c.take_net_kind-net.new.stack.items) (reverse c.take_direction-direction.new.stack.items) (reverse c.take_ports-ports.new.stack.items) c.take_declarators-names.ensures c.take_range_option-range.ensures c.take_sign-signed.ensures c.take_net_kind-net.ensures c.take_direction-direction.ensures c.take_ports-ports.ensures (λ names range signed net direction ports rest. Some (Value.Module (ModuleValue.Ports (ports ++ (record { direction = direction; net = net; signed = signed; range = range; names = names }) ∷ [])) ∷ rest)) (c.in-Some.names, c.in-Some.range, c.in-Some.signed, c.in-Some.net, c.in-Some.direction, c.in-Some.ports) (sym c.all_six.ensures ∙ c.in-Some.is) in
    let q = c.in_ok-push.ensures.ok in
    let p = c.in_ok-put.ensures in
    cc

pub returns-in_default : goal.returns-in_default
returns-in_default c = six_lost c.take_declarators-names.result c.take_range_option-range.result c.take_sign-signed.result c.take_net_kind-net.result c.take_direction-direction.result c.take_ports-ports.result (with_declarators (reverse c.args.stack.now.items)) with_range_option with_sign with_net_kind with_direction with_ports (reverse c.take_declarators-names.new.stack.items) (reverse c.take_range_option-range.new.stack.items) (reverse c.take_sign-signed.new.stack.items) (reverse c.take_net_kind-net.new.stack.items) (reverse c.take_direction-direction.new.stack.items) (reverse c.take_ports-ports.new.stack.items) c.take_declarators-names.ensures c.take_range_option-range.ensures c.take_sign-signed.ensures c.take_net_kind-net.ensures c.take_direction-direction.ensures c.take_ports-ports.ensures (λ names range signed net direction ports rest. Some (Value.Module (ModuleValue.Ports (ports ++ (record { direction = direction; net = net; signed = signed; range = range; names = names }) ∷ [])) ∷ rest)) (sym c.all_six.ensures ∙ c.in_default.is)
