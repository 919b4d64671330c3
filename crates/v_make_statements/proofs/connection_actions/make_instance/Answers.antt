use Rattle.std.proofs.Common.{◌∷◌, Some, reverse, sym, ◌∙◌}
use Rattle.stack_parts.proofs.Takings.{two_found, two_lost}
use Rattle.v_stack.specs.Values.{with_connections, with_name}
use Rattle.v_stack.specs.declared.values.PartValue.TheVariants as PartValue
use Rattle.v_stack.specs.declared.values.Value.TheVariants as Value
use Rattle.v_make_statements.proofs.connection_actions.make_instance.Goals as goal

pub returns : goal.returns
returns c =
    let e = two_found c.take_connections-connections.result c.take_name-name.result (with_connections (reverse c.args.stack.now.items)) with_name (reverse c.take_connections-connections.new.stack.items) (reverse c.take_name-name.new.stack.items) c.take_connections-connections.ensures c.take_name-name.ensures (λ connections name rest. Some (Value.Part (PartValue.Instance (record { name = name; connections = connections })) ∷ rest)) (c.in-Some.connections, c.in-Some.name) (sym c.all_two.ensures ∙ c.in-Some.is) in
    let p = c.in_ok-put.ensures in
    cc

pub returns-in_default : goal.returns-in_default
returns-in_default c = two_lost c.take_connections-connections.result c.take_name-name.result (with_connections (reverse c.args.stack.now.items)) with_name (reverse c.take_connections-connections.new.stack.items) (reverse c.take_name-name.new.stack.items) c.take_connections-connections.ensures c.take_name-name.ensures (λ connections name rest. Some (Value.Part (PartValue.Instance (record { name = name; connections = connections })) ∷ rest)) (sym c.all_two.ensures ∙ c.in_default.is)
