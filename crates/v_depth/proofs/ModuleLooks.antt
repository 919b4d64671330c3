-- The values of items, headers and modules look as the weaves of their actions say.
use Rattle.std.proofs.Common.{◌≡◌, ℕ, List, ◌∷◌, refl}
use Rattle.src_text.specs.declared.refusal.Place.{Place}
use Rattle.src_text.specs.Trees.{all_trees, option_trees}
use Rattle.node_places.proofs.Beside.{end1, end2, end3, in_one, more_trees, more_parts, more_first, both}
use Rattle.node_places.proofs.Looks.{first_in, of_values}
use Rattle.v_tree.specs.Nodes.{stmt_trees, range_trees, parameter_range_trees, declared_trees, declarator_trees, parameter_trees, parameters_trees, port_trees, header_trees, register_trees, net_assignment_trees, connections_trees, instance_trees, item_trees, module_trees}
use Rattle.v_tree.specs.Starts.{item_start}
use Rattle.v_stack.specs.Values.{Values}
use Rattle.v_stack.specs.declared.values.Value.TheVariants as Value
use Rattle.v_stack.specs.declared.values.TokenValue.TheVariants as TokenValue
use Rattle.v_stack.specs.declared.values.ExprValue.TheVariants as ExprValue
use Rattle.v_stack.specs.declared.values.StmtValue.TheVariants as StmtValue
use Rattle.v_stack.specs.declared.values.DeclareValue.TheVariants as DeclareValue
use Rattle.v_stack.specs.declared.values.NamesValue.TheVariants as NamesValue
use Rattle.v_stack.specs.declared.values.ConnectValue.TheVariants as ConnectValue
use Rattle.v_stack.specs.declared.values.PartValue.TheVariants as PartValue
use Rattle.v_stack.specs.declared.values.ModuleValue.TheVariants as ModuleValue
use Rattle.v_actions.specs.declared.actions.ModuleAction.TheVariants as module_action
use Rattle.v_actions.specs.ModuleActions.{after_module_action}
use Rattle.v_actions.specs.Sorts.{sorts_of}
use Rattle.v_actions.proofs.TopOfSort.{has_declarators, has_declared_names, has_direction, has_event, has_groups, has_header, has_instances, has_item, has_items, has_module, has_modules, has_name, has_names, has_net_assignments, has_net_kind, has_overrides, has_parameter_range, has_parameters, has_place, has_ports, has_range_option, has_registers, has_sign, has_stmt}
use Rattle.v_depth.proofs.Values.{name_start, parameters_start, port_start, module_start, looks_of, Looks}
use Rattle.v_depth.proofs.Begins.{or_none, whole}

pub look_port_item : (nothing own : Place) (st : Values) (rest : List ℕ) → sorts_of st ≡ 26 ∷ 21 ∷ 30 ∷ 29 ∷ 6 ∷ rest → Looks nothing (of_values 5 1) own st (after_module_action module_action.PortItem st)
look_port_item nothing own st rest e = has_declared_names (Looks nothing (of_values 5 1) own) _ st _ e (λ names st1 e1. has_range_option (λ s o. Looks nothing (of_values 5 1) own (Value.Names (NamesValue.DeclaredNames names) ∷ s) o) _ st1 _ e1 (λ range st2 e2. has_sign (λ s o. Looks nothing (of_values 5 1) own (Value.Names (NamesValue.DeclaredNames names) ∷ Value.Expr (ExprValue.RangeOption range) ∷ s) o) _ st2 _ e2 (λ signed st3 e3. has_net_kind (λ s o. Looks nothing (of_values 5 1) own (Value.Names (NamesValue.DeclaredNames names) ∷ Value.Expr (ExprValue.RangeOption range) ∷ Value.Declare (DeclareValue.Sign signed) ∷ s) o) _ st3 _ e3 (λ net st4 e4. has_direction (λ s o. Looks nothing (of_values 5 1) own (Value.Names (NamesValue.DeclaredNames names) ∷ Value.Expr (ExprValue.RangeOption range) ∷ Value.Declare (DeclareValue.Sign signed) ∷ Value.Declare (DeclareValue.NetKind net) ∷ s) o) _ st4 _ e4 (λ direction st5 e5. both (looks_of nothing st5) refl (in_one direction.place (end2 (option_trees range_trees range) (all_trees declared_trees names))))))))

pub look_net_item : (nothing own : Place) (st : Values) (rest : List ℕ) → sorts_of st ≡ 28 ∷ 21 ∷ 30 ∷ 1 ∷ rest → Looks nothing (of_values 4 1) own st (after_module_action module_action.NetItem st)
look_net_item nothing own st rest e = has_declarators (Looks nothing (of_values 4 1) own) _ st _ e (λ nets st1 e1. has_range_option (λ s o. Looks nothing (of_values 4 1) own (Value.Names (NamesValue.Declarators nets) ∷ s) o) _ st1 _ e1 (λ range st2 e2. has_sign (λ s o. Looks nothing (of_values 4 1) own (Value.Names (NamesValue.Declarators nets) ∷ Value.Expr (ExprValue.RangeOption range) ∷ s) o) _ st2 _ e2 (λ signed st3 e3. has_place (λ s o. Looks nothing (of_values 4 1) own (Value.Names (NamesValue.Declarators nets) ∷ Value.Expr (ExprValue.RangeOption range) ∷ Value.Declare (DeclareValue.Sign signed) ∷ s) o) _ st3 _ e3 (λ place st4 e4. both (looks_of nothing st4) refl (in_one place (end2 (option_trees range_trees range) (all_trees declarator_trees nets)))))))

pub look_reg_item : (nothing own : Place) (st : Values) (rest : List ℕ) → sorts_of st ≡ 32 ∷ 21 ∷ 30 ∷ 1 ∷ rest → Looks nothing (of_values 4 1) own st (after_module_action module_action.RegItem st)
look_reg_item nothing own st rest e = has_registers (Looks nothing (of_values 4 1) own) _ st _ e (λ registers st1 e1. has_range_option (λ s o. Looks nothing (of_values 4 1) own (Value.Names (NamesValue.Registers registers) ∷ s) o) _ st1 _ e1 (λ range st2 e2. has_sign (λ s o. Looks nothing (of_values 4 1) own (Value.Names (NamesValue.Registers registers) ∷ Value.Expr (ExprValue.RangeOption range) ∷ s) o) _ st2 _ e2 (λ signed st3 e3. has_place (λ s o. Looks nothing (of_values 4 1) own (Value.Names (NamesValue.Registers registers) ∷ Value.Expr (ExprValue.RangeOption range) ∷ Value.Declare (DeclareValue.Sign signed) ∷ s) o) _ st3 _ e3 (λ place st4 e4. both (looks_of nothing st4) refl (in_one place (end2 (option_trees range_trees range) (all_trees register_trees registers)))))))

pub look_integer_item : (nothing own : Place) (st : Values) (rest : List ℕ) → sorts_of st ≡ 26 ∷ 1 ∷ rest → Looks nothing (of_values 2 1) own st (after_module_action module_action.IntegerItem st)
look_integer_item nothing own st rest e = has_declared_names (Looks nothing (of_values 2 1) own) _ st _ e (λ names st1 e1. has_place (λ s o. Looks nothing (of_values 2 1) own (Value.Names (NamesValue.DeclaredNames names) ∷ s) o) _ st1 _ e1 (λ place st2 e2. both (looks_of nothing st2) refl (in_one place (end1 (all_trees declared_trees names)))))

pub look_parameter_item : (nothing own : Place) (st : Values) (rest : List ℕ) → sorts_of st ≡ 24 ∷ 22 ∷ 1 ∷ rest → Looks nothing (of_values 3 1) own st (after_module_action module_action.ParameterItem st)
look_parameter_item nothing own st rest e = has_parameters (Looks nothing (of_values 3 1) own) _ st _ e (λ parameters st1 e1. has_parameter_range (λ s o. Looks nothing (of_values 3 1) own (Value.Declare (DeclareValue.Parameters parameters) ∷ s) o) _ st1 _ e1 (λ range st2 e2. has_place (λ s o. Looks nothing (of_values 3 1) own (Value.Declare (DeclareValue.Parameters parameters) ∷ Value.Declare (DeclareValue.ParameterRange range) ∷ s) o) _ st2 _ e2 (λ place st3 e3. both (looks_of nothing st3) refl (in_one place (end2 (option_trees parameter_range_trees range) (all_trees parameter_trees parameters))))))

pub look_local_parameter_item : (nothing own : Place) (st : Values) (rest : List ℕ) → sorts_of st ≡ 24 ∷ 22 ∷ 1 ∷ rest → Looks nothing (of_values 3 1) own st (after_module_action module_action.LocalParameterItem st)
look_local_parameter_item nothing own st rest e = has_parameters (Looks nothing (of_values 3 1) own) _ st _ e (λ parameters st1 e1. has_parameter_range (λ s o. Looks nothing (of_values 3 1) own (Value.Declare (DeclareValue.Parameters parameters) ∷ s) o) _ st1 _ e1 (λ range st2 e2. has_place (λ s o. Looks nothing (of_values 3 1) own (Value.Declare (DeclareValue.Parameters parameters) ∷ Value.Declare (DeclareValue.ParameterRange range) ∷ s) o) _ st2 _ e2 (λ place st3 e3. both (looks_of nothing st3) refl (in_one place (end2 (option_trees parameter_range_trees range) (all_trees parameter_trees parameters))))))

pub look_assign_item : (nothing own : Place) (st : Values) (rest : List ℕ) → sorts_of st ≡ 42 ∷ 1 ∷ rest → Looks nothing (of_values 2 1) own st (after_module_action module_action.AssignItem st)
look_assign_item nothing own st rest e = has_net_assignments (Looks nothing (of_values 2 1) own) _ st _ e (λ assignments st1 e1. has_place (λ s o. Looks nothing (of_values 2 1) own (Value.Part (PartValue.NetAssignments assignments) ∷ s) o) _ st1 _ e1 (λ place st2 e2. both (looks_of nothing st2) refl (in_one place (end1 (all_trees net_assignment_trees assignments)))))

pub look_always_item : (nothing own : Place) (st : Values) (rest : List ℕ) → sorts_of st ≡ 15 ∷ 43 ∷ 1 ∷ rest → Looks nothing (of_values 3 1) own st (after_module_action module_action.AlwaysItem st)
look_always_item nothing own st rest e = has_stmt (Looks nothing (of_values 3 1) own) _ st _ e (λ body st1 e1. has_event (λ s o. Looks nothing (of_values 3 1) own (Value.Stmt (StmtValue.Stmt body) ∷ s) o) _ st1 _ e1 (λ event st2 e2. has_place (λ s o. Looks nothing (of_values 3 1) own (Value.Stmt (StmtValue.Stmt body) ∷ Value.Part (PartValue.Event event) ∷ s) o) _ st2 _ e2 (λ place st3 e3. both (looks_of nothing st3) refl (in_one place (end1 (stmt_trees body))))))

pub look_initial_item : (nothing own : Place) (st : Values) (rest : List ℕ) → sorts_of st ≡ 15 ∷ 1 ∷ rest → Looks nothing (of_values 2 1) own st (after_module_action module_action.InitialItem st)
look_initial_item nothing own st rest e = has_stmt (Looks nothing (of_values 2 1) own) _ st _ e (λ body st1 e1. has_place (λ s o. Looks nothing (of_values 2 1) own (Value.Stmt (StmtValue.Stmt body) ∷ s) o) _ st1 _ e1 (λ place st2 e2. both (looks_of nothing st2) refl (in_one place (end1 (stmt_trees body)))))

pub look_instances_item : (nothing own : Place) (st : Values) (rest : List ℕ) → sorts_of st ≡ 40 ∷ 38 ∷ 2 ∷ rest → Looks nothing (of_values 3 1) own st (after_module_action module_action.InstancesItem st)
look_instances_item nothing own st rest e = has_instances (Looks nothing (of_values 3 1) own) _ st _ e (λ instances st1 e1. has_overrides (λ s o. Looks nothing (of_values 3 1) own (Value.Part (PartValue.Instances instances) ∷ s) o) _ st1 _ e1 (λ overrides st2 e2. has_name (λ s o. Looks nothing (of_values 3 1) own (Value.Part (PartValue.Instances instances) ∷ Value.Connect (ConnectValue.Overrides overrides) ∷ s) o) _ st2 _ e2 (λ kind st3 e3. both (looks_of nothing st3) refl (in_one kind.place (end2 (option_trees connections_trees overrides) (all_trees instance_trees instances))))))

pub look_no_items : (nothing own : Place) (st : Values) (rest : List ℕ) → sorts_of st ≡ rest → Looks nothing (of_values 0 0) own st (after_module_action module_action.NoItems st)
look_no_items nothing own st rest e = refl

pub look_add_item : (nothing own : Place) (st : Values) (rest : List ℕ) → sorts_of st ≡ 44 ∷ 45 ∷ rest → Looks nothing (of_values 2 0) own st (after_module_action module_action.AddItem st)
look_add_item nothing own st rest e = has_item (Looks nothing (of_values 2 0) own) _ st _ e (λ item st1 e1. has_items (λ s o. Looks nothing (of_values 2 0) own (Value.Module (ModuleValue.Item item) ∷ s) o) _ st1 _ e1 (λ items st2 e2. both (looks_of nothing st2) (more_first item_start items item) (more_trees item_trees items item)))

pub look_no_groups : (nothing own : Place) (st : Values) (rest : List ℕ) → sorts_of st ≡ rest → Looks nothing (of_values 0 0) own st (after_module_action module_action.NoGroups st)
look_no_groups nothing own st rest e = refl

pub look_close_group : (nothing own : Place) (st : Values) (rest : List ℕ) → sorts_of st ≡ 24 ∷ 22 ∷ 1 ∷ 46 ∷ rest → Looks nothing (of_values 4 0) own st (after_module_action module_action.CloseGroup st)
look_close_group nothing own st rest e = has_parameters (Looks nothing (of_values 4 0) own) _ st _ e (λ parameters st1 e1. has_parameter_range (λ s o. Looks nothing (of_values 4 0) own (Value.Declare (DeclareValue.Parameters parameters) ∷ s) o) _ st1 _ e1 (λ range st2 e2. has_place (λ s o. Looks nothing (of_values 4 0) own (Value.Declare (DeclareValue.Parameters parameters) ∷ Value.Declare (DeclareValue.ParameterRange range) ∷ s) o) _ st2 _ e2 (λ place st3 e3. has_groups (λ s o. Looks nothing (of_values 4 0) own (Value.Declare (DeclareValue.Parameters parameters) ∷ Value.Declare (DeclareValue.ParameterRange range) ∷ Value.Token (TokenValue.Place place) ∷ s) o) _ st3 _ e3 (λ groups st4 e4. both (looks_of nothing st4) (more_first parameters_start groups (record { place = place; range = range; parameters = parameters })) (more_parts parameters_trees groups (record { place = place; range = range; parameters = parameters }) (option_trees parameter_range_trees range) (all_trees parameter_trees parameters) refl)))))

pub look_no_ports : (nothing own : Place) (st : Values) (rest : List ℕ) → sorts_of st ≡ rest → Looks nothing (of_values 0 0) own st (after_module_action module_action.NoPorts st)
look_no_ports nothing own st rest e = refl

pub look_close_port : (nothing own : Place) (st : Values) (rest : List ℕ) → sorts_of st ≡ 28 ∷ 21 ∷ 30 ∷ 29 ∷ 6 ∷ 47 ∷ rest → Looks nothing (of_values 6 0) own st (after_module_action module_action.ClosePort st)
look_close_port nothing own st rest e = has_declarators (Looks nothing (of_values 6 0) own) _ st _ e (λ names st1 e1. has_range_option (λ s o. Looks nothing (of_values 6 0) own (Value.Names (NamesValue.Declarators names) ∷ s) o) _ st1 _ e1 (λ range st2 e2. has_sign (λ s o. Looks nothing (of_values 6 0) own (Value.Names (NamesValue.Declarators names) ∷ Value.Expr (ExprValue.RangeOption range) ∷ s) o) _ st2 _ e2 (λ signed st3 e3. has_net_kind (λ s o. Looks nothing (of_values 6 0) own (Value.Names (NamesValue.Declarators names) ∷ Value.Expr (ExprValue.RangeOption range) ∷ Value.Declare (DeclareValue.Sign signed) ∷ s) o) _ st3 _ e3 (λ net st4 e4. has_direction (λ s o. Looks nothing (of_values 6 0) own (Value.Names (NamesValue.Declarators names) ∷ Value.Expr (ExprValue.RangeOption range) ∷ Value.Declare (DeclareValue.Sign signed) ∷ Value.Declare (DeclareValue.NetKind net) ∷ s) o) _ st4 _ e4 (λ direction st5 e5. has_ports (λ s o. Looks nothing (of_values 6 0) own (Value.Names (NamesValue.Declarators names) ∷ Value.Expr (ExprValue.RangeOption range) ∷ Value.Declare (DeclareValue.Sign signed) ∷ Value.Declare (DeclareValue.NetKind net) ∷ Value.Token (TokenValue.Direction direction) ∷ s) o) _ st5 _ e5 (λ ports st6 e6. both (looks_of nothing st6) (more_first port_start ports (record { direction = direction; net = net; signed = signed; range = range; names = names })) (more_parts port_trees ports (record { direction = direction; net = net; signed = signed; range = range; names = names }) (option_trees range_trees range) (all_trees declarator_trees names) refl)))))))

pub look_absent_header : (nothing own : Place) (st : Values) (rest : List ℕ) → sorts_of st ≡ rest → Looks nothing (of_values 0 0) own st (after_module_action module_action.AbsentHeader st)
look_absent_header nothing own st rest e = refl

pub look_empty_header : (nothing own : Place) (st : Values) (rest : List ℕ) → sorts_of st ≡ rest → Looks nothing (of_values 0 0) own st (after_module_action module_action.EmptyHeader st)
look_empty_header nothing own st rest e = refl

pub look_header_names : (nothing own : Place) (st : Values) (rest : List ℕ) → sorts_of st ≡ 25 ∷ rest → Looks nothing (of_values 1 0) own st (after_module_action module_action.HeaderNames st)
look_header_names nothing own st rest e = has_names (Looks nothing (of_values 1 0) own) _ st _ e (λ names st1 e1. both (looks_of nothing st1) (or_none (first_in name_start names)) refl)

pub look_header_ports : (nothing own : Place) (st : Values) (rest : List ℕ) → sorts_of st ≡ 47 ∷ rest → Looks nothing (of_values 1 0) own st (after_module_action module_action.HeaderPorts st)
look_header_ports nothing own st rest e = has_ports (Looks nothing (of_values 1 0) own) _ st _ e (λ ports st1 e1. both (looks_of nothing st1) (or_none (first_in port_start ports)) (end1 (all_trees port_trees ports)))

pub look_module : (nothing own : Place) (st : Values) (rest : List ℕ) → sorts_of st ≡ 45 ∷ 48 ∷ 46 ∷ 2 ∷ 1 ∷ rest → Looks nothing (of_values 5 1) own st (after_module_action module_action.Module st)
look_module nothing own st rest e = has_items (Looks nothing (of_values 5 1) own) _ st _ e (λ items st1 e1. has_header (λ s o. Looks nothing (of_values 5 1) own (Value.Module (ModuleValue.Items items) ∷ s) o) _ st1 _ e1 (λ header st2 e2. has_groups (λ s o. Looks nothing (of_values 5 1) own (Value.Module (ModuleValue.Items items) ∷ Value.Module (ModuleValue.Header header) ∷ s) o) _ st2 _ e2 (λ groups st3 e3. has_name (λ s o. Looks nothing (of_values 5 1) own (Value.Module (ModuleValue.Items items) ∷ Value.Module (ModuleValue.Header header) ∷ Value.Declare (DeclareValue.Groups groups) ∷ s) o) _ st3 _ e3 (λ name st4 e4. has_place (λ s o. Looks nothing (of_values 5 1) own (Value.Module (ModuleValue.Items items) ∷ Value.Module (ModuleValue.Header header) ∷ Value.Declare (DeclareValue.Groups groups) ∷ Value.Token (TokenValue.Name name) ∷ s) o) _ st4 _ e4 (λ place st5 e5. both (looks_of nothing st5) refl (in_one place (end3 (all_trees parameters_trees groups) (header_trees header) (all_trees item_trees items))))))))

pub look_no_modules : (nothing own : Place) (st : Values) (rest : List ℕ) → sorts_of st ≡ rest → Looks nothing (of_values 0 0) own st (after_module_action module_action.NoModules st)
look_no_modules nothing own st rest e = refl

pub look_add_module : (nothing own : Place) (st : Values) (rest : List ℕ) → sorts_of st ≡ 49 ∷ 50 ∷ rest → Looks nothing (of_values 2 0) own st (after_module_action module_action.AddModule st)
look_add_module nothing own st rest e = has_module (Looks nothing (of_values 2 0) own) _ st _ e (λ unit st1 e1. has_modules (λ s o. Looks nothing (of_values 2 0) own (Value.Module (ModuleValue.Module unit) ∷ s) o) _ st1 _ e1 (λ units st2 e2. both (looks_of nothing st2) (more_first module_start units unit) (more_trees module_trees units unit)))

pub look_source : (nothing own : Place) (st : Values) (rest : List ℕ) → sorts_of st ≡ 50 ∷ rest → Looks nothing (of_values 1 1) own st (after_module_action module_action.Source st)
look_source nothing own st rest e = has_modules (Looks nothing (of_values 1 1) own) _ st _ e (λ modules st1 e1. whole nothing modules (looks_of nothing st1))
