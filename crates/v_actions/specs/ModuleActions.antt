-- Items, headers and modules: what each action makes of the stack. The last part is taken first.
use Rattle.std.specs.Prelude.{[], ◌∷◌, ◌++◌, Option, Some}
use Rattle.v_stack.specs.declared.values.Value.TheVariants as Value
use Rattle.v_stack.specs.declared.values.DeclareValue.TheVariants as DeclareValue
use Rattle.v_stack.specs.declared.values.ModuleValue.TheVariants as ModuleValue
use Rattle.v_actions.specs.declared.actions.ModuleAction.{ModuleAction}
use Rattle.v_actions.specs.declared.actions.ModuleAction.TheVariants as action
use Rattle.v_stack.specs.Values.{Values, with_declarators, with_declared_names, with_direction, with_event, with_groups, with_header, with_instances, with_item, with_items, with_module, with_modules, with_name, with_names, with_net_assignments, with_net_kind, with_overrides, with_parameter_range, with_parameters, with_place, with_ports, with_range_option, with_registers, with_sign, with_stmt}
use Rattle.v_tree.specs.declared.item.Header.TheVariants as Header
use Rattle.v_tree.specs.declared.item.Item.TheVariants as Item

-- What an action for items, headers and modules makes of the stack (IEEE 1364-2005, clause 12), and none where its
-- parts don't lie on top.
abbrev pub after_module_action : ModuleAction → Values → Option Values
-- input ..;
after_module_action action.PortItem st =
    with_declared_names st (λ names st. with_range_option st (λ range st. with_sign st (λ signed st. with_net_kind st (λ net st. with_direction st (λ direction st.
    Some (Value.Module (ModuleValue.Item (Item.Port (record { direction = direction; net = net; signed = signed; range = range; names = names }))) ∷ st))))))
-- wire ..;
after_module_action action.NetItem st =
    with_declarators st (λ nets st. with_range_option st (λ range st. with_sign st (λ signed st. with_place st (λ place st.
    Some (Value.Module (ModuleValue.Item (Item.Net (record { place = place; signed = signed; range = range; nets = nets }))) ∷ st)))))
-- reg ..;
after_module_action action.RegItem st =
    with_registers st (λ registers st. with_range_option st (λ range st. with_sign st (λ signed st. with_place st (λ place st.
    Some (Value.Module (ModuleValue.Item (Item.Reg (record { place = place; signed = signed; range = range; registers = registers }))) ∷ st)))))
-- integer ..;
after_module_action action.IntegerItem st =
    with_declared_names st (λ names st. with_place st (λ place st.
    Some (Value.Module (ModuleValue.Item (Item.Integer (record { place = place; names = names }))) ∷ st)))
-- parameter ..;
after_module_action action.ParameterItem st =
    with_parameters st (λ parameters st. with_parameter_range st (λ range st. with_place st (λ place st.
    Some (Value.Module (ModuleValue.Item (Item.Parameter (record { place = place; range = range; parameters = parameters }))) ∷ st))))
-- localparam ..;
after_module_action action.LocalParameterItem st =
    with_parameters st (λ parameters st. with_parameter_range st (λ range st. with_place st (λ place st.
    Some (Value.Module (ModuleValue.Item (Item.LocalParameter (record { place = place; range = range; parameters = parameters }))) ∷ st))))
-- assign ..;
after_module_action action.AssignItem st =
    with_net_assignments st (λ assignments st. with_place st (λ place st.
    Some (Value.Module (ModuleValue.Item (Item.Assign (record { place = place; assignments = assignments }))) ∷ st)))
-- always event body
after_module_action action.AlwaysItem st =
    with_stmt st (λ body st. with_event st (λ event st. with_place st (λ place st.
    Some (Value.Module (ModuleValue.Item (Item.Always (record { place = place; event = event; body = body }))) ∷ st))))
-- initial body
after_module_action action.InitialItem st =
    with_stmt st (λ body st. with_place st (λ place st.
    Some (Value.Module (ModuleValue.Item (Item.Initial place body)) ∷ st)))
-- instances of a module
after_module_action action.InstancesItem st =
    with_instances st (λ instances st. with_overrides st (λ overrides st. with_name st (λ kind st.
    Some (Value.Module (ModuleValue.Item (Item.Instances (record { «module» = kind; overrides = overrides; instances = instances }))) ∷ st))))
-- no items yet
after_module_action action.NoItems st = Some (Value.Module (ModuleValue.Items []) ∷ st)
-- one more of the items
after_module_action action.AddItem st =
    with_item st (λ item st. with_items st (λ items st.
    Some (Value.Module (ModuleValue.Items (items ++ item ∷ [])) ∷ st)))
-- no parameters in a header yet
after_module_action action.NoGroups st = Some (Value.Declare (DeclareValue.Groups []) ∷ st)
-- one more parameter .. of a header
after_module_action action.CloseGroup st =
    with_parameters st (λ parameters st. with_parameter_range st (λ range st. with_place st (λ place st. with_groups st (λ groups st.
    Some (Value.Declare (DeclareValue.Groups (groups ++ (record { place = place; range = range; parameters = parameters }) ∷ [])) ∷ st)))))
-- no ports in a header yet
after_module_action action.NoPorts st = Some (Value.Module (ModuleValue.Ports []) ∷ st)
-- one more input .. of a header
after_module_action action.ClosePort st =
    with_declarators st (λ names st. with_range_option st (λ range st. with_sign st (λ signed st. with_net_kind st (λ net st. with_direction st (λ direction st. with_ports st (λ ports st.
    Some (Value.Module (ModuleValue.Ports (ports ++ (record { direction = direction; net = net; signed = signed; range = range; names = names }) ∷ [])) ∷ st)))))))
-- no header
after_module_action action.AbsentHeader st = Some (Value.Module (ModuleValue.Header Header.Absent) ∷ st)
-- ( )
after_module_action action.EmptyHeader st = Some (Value.Module (ModuleValue.Header Header.Empty) ∷ st)
-- ( a, b )
after_module_action action.HeaderNames st =
    with_names st (λ names st.
    Some (Value.Module (ModuleValue.Header (Header.Names names)) ∷ st))
-- ( input a, output b )
after_module_action action.HeaderPorts st =
    with_ports st (λ ports st.
    Some (Value.Module (ModuleValue.Header (Header.Ports ports)) ∷ st))
-- module name .. endmodule
after_module_action action.Module st =
    with_items st (λ items st. with_header st (λ header st. with_groups st (λ groups st. with_name st (λ name st. with_place st (λ place st.
    Some (Value.Module (ModuleValue.Module (record { place = place; name = name; parameters = groups; header = header; items = items })) ∷ st))))))
-- no modules yet
after_module_action action.NoModules st = Some (Value.Module (ModuleValue.Modules []) ∷ st)
-- one more of the modules
after_module_action action.AddModule st =
    with_module st (λ unit st. with_modules st (λ units st.
    Some (Value.Module (ModuleValue.Modules (units ++ unit ∷ [])) ∷ st)))
-- the whole text
after_module_action action.Source st =
    with_modules st (λ modules st.
    Some (Value.Module (ModuleValue.Source (record { modules = modules })) ∷ st))
