-- Connections, continuous assignments and events: what each action makes of the stack. The last part is taken first.
use Rattle.std.specs.Prelude.{[], ◌∷◌, ◌++◌, Option, Some, None}
use Rattle.v_stack.specs.declared.values.Value.TheVariants as Value
use Rattle.v_stack.specs.declared.values.ConnectValue.TheVariants as ConnectValue
use Rattle.v_stack.specs.declared.values.PartValue.TheVariants as PartValue
use Rattle.v_actions.specs.declared.actions.ConnectionAction.{ConnectionAction}
use Rattle.v_actions.specs.declared.actions.ConnectionAction.TheVariants as action
use Rattle.v_stack.specs.Values.{Values, with_connections, with_expr, with_expr_option, with_instance, with_instances, with_name, with_named, with_named_values, with_names, with_net_assignment, with_net_assignments, with_ordered, with_ordered_values, with_place, with_target}
use Rattle.v_tree.specs.declared.item.Connections.TheVariants as Connections
use Rattle.v_tree.specs.declared.item.Event.TheVariants as Event

-- What an action for connections, continuous assignments and events makes of the stack (IEEE 1364-2005, 12.3, 6.1 and
-- 9.7), and none where its parts don't lie on top.
abbrev pub after_connection_action : ConnectionAction → Values → Option Values
-- A connection by position
after_connection_action action.Ordered st = with_expr st (λ value st. Some (Value.Connect (ConnectValue.Ordered value) ∷ st))
-- no connections by position yet
after_connection_action action.NoOrdered st = Some (Value.Connect (ConnectValue.OrderedValues []) ∷ st)
-- one more of the connections by position
after_connection_action action.AddOrdered st =
    with_ordered st (λ value st. with_ordered_values st (λ values st.
    Some (Value.Connect (ConnectValue.OrderedValues (values ++ value ∷ [])) ∷ st)))
-- . name ( value )
after_connection_action action.Named st =
    with_expr_option st (λ value st. with_name st (λ name st. with_place st (λ place st.
    Some (Value.Connect (ConnectValue.Named (record { place = place; name = name; value = value })) ∷ st))))
-- no connections by name yet
after_connection_action action.NoNamed st = Some (Value.Connect (ConnectValue.NamedValues []) ∷ st)
-- one more of the connections by name
after_connection_action action.AddNamed st =
    with_named st (λ connection st. with_named_values st (λ connections st.
    Some (Value.Connect (ConnectValue.NamedValues (connections ++ connection ∷ [])) ∷ st)))
-- no connections
after_connection_action action.NoConnections st = Some (Value.Connect (ConnectValue.Connections Connections.Absent) ∷ st)
-- all by position
after_connection_action action.OrderedConnections st =
    with_ordered_values st (λ values st.
    Some (Value.Connect (ConnectValue.Connections (Connections.Ordered values)) ∷ st))
-- all by name
after_connection_action action.NamedConnections st =
    with_named_values st (λ values st.
    Some (Value.Connect (ConnectValue.Connections (Connections.Named values)) ∷ st))
-- # ( values )
after_connection_action action.SomeOverrides st =
    with_connections st (λ values st.
    Some (Value.Connect (ConnectValue.Overrides (Some values)) ∷ st))
-- no #
after_connection_action action.NoOverrides st = Some (Value.Connect (ConnectValue.Overrides None) ∷ st)
-- name ( connections )
after_connection_action action.Instance st =
    with_connections st (λ connections st. with_name st (λ name st.
    Some (Value.Part (PartValue.Instance (record { name = name; connections = connections })) ∷ st)))
-- no instances yet
after_connection_action action.NoInstances st = Some (Value.Part (PartValue.Instances []) ∷ st)
-- one more of the instances
after_connection_action action.AddInstance st =
    with_instance st (λ instance st. with_instances st (λ instances st.
    Some (Value.Part (PartValue.Instances (instances ++ instance ∷ [])) ∷ st)))
-- target = value of assign
after_connection_action action.NetAssignment st =
    with_expr st (λ value st. with_target st (λ target st.
    Some (Value.Part (PartValue.NetAssignment (record { target = target; value = value })) ∷ st)))
-- no assignments yet
after_connection_action action.NoNetAssignments st = Some (Value.Part (PartValue.NetAssignments []) ∷ st)
-- one more of the assignments
after_connection_action action.AddNetAssignment st =
    with_net_assignment st (λ assignment st. with_net_assignments st (λ assignments st.
    Some (Value.Part (PartValue.NetAssignments (assignments ++ assignment ∷ [])) ∷ st)))
-- *
after_connection_action action.AnyEvent st = Some (Value.Part (PartValue.Event Event.All) ∷ st)
-- posedge clock
after_connection_action action.PosedgeEvent st =
    with_name st (λ clock st.
    Some (Value.Part (PartValue.Event (Event.Posedge clock)) ∷ st))
-- a or b
after_connection_action action.NamesEvent st = with_names st (λ names st. Some (Value.Part (PartValue.Event (Event.Names names)) ∷ st))
