-- What each action weaves, as the table has it, and that its value looks so.
use Rattle.std.proofs.Common.{◌≡◌, ℕ, ◌-◌, List, ◌∷◌, ◌++◌, map, Some, refl, sym, ap, ◌∙◌}
use Rattle.std.proofs.Math.ListN.{get_or-map}
use Rattle.src_text.specs.declared.refusal.Place.{Place}
use Rattle.node_depth.specs.declared.weave.Weave.{Weave}
use Rattle.node_depth.specs.Weaves.{weave_of}
use Rattle.node_places.proofs.Looks.{of_values, of_token}
use Rattle.v_actions.specs.declared.actions.TokenAction.{TokenAction}
use Rattle.v_actions.specs.declared.actions.TokenAction.TheVariants as token_action
use Rattle.v_actions.specs.declared.actions.ExpressionAction.{ExpressionAction}
use Rattle.v_actions.specs.declared.actions.ExpressionAction.TheVariants as expr_action
use Rattle.v_actions.specs.declared.actions.StatementAction.{StatementAction}
use Rattle.v_actions.specs.declared.actions.StatementAction.TheVariants as stmt_action
use Rattle.v_actions.specs.declared.actions.DeclarationAction.{DeclarationAction}
use Rattle.v_actions.specs.declared.actions.DeclarationAction.TheVariants as declare_action
use Rattle.v_actions.specs.declared.actions.ConnectionAction.{ConnectionAction}
use Rattle.v_actions.specs.declared.actions.ConnectionAction.TheVariants as connect_action
use Rattle.v_actions.specs.declared.actions.ModuleAction.{ModuleAction}
use Rattle.v_actions.specs.declared.actions.ModuleAction.TheVariants as module_action
use Rattle.v_actions.specs.declared.actions.Action.{Action}
use Rattle.v_actions.specs.declared.actions.Action.TheVariants as action
use Rattle.v_actions.specs.declared.actions.TheConstants.{ACTIONS}
use Rattle.v_actions.specs.Acts.{after_action}
use Rattle.v_actions.specs.ExpressionActions.{after_expression_action}
use Rattle.v_actions.specs.StatementActions.{after_statement_action}
use Rattle.v_actions.specs.DeclarationActions.{after_declaration_action}
use Rattle.v_actions.specs.ConnectionActions.{after_connection_action}
use Rattle.v_actions.specs.ModuleActions.{after_module_action}
use Rattle.v_actions.specs.Numbers.{action_of}
use Rattle.v_actions.specs.Sorts.{sorts_of}
use Rattle.v_actions.specs.Tokens.{Lexemes, place_in, token_value}
use Rattle.v_actions.proofs.Fitting.{signature}
use Rattle.v_stack.specs.Values.{Values}
use Rattle.v_grammar.specs.declared.TheConstants.{WEAVES}
use Rattle.v_depth.proofs.Values.{Looks}
use Rattle.v_depth.proofs.ExpressionLooks.{look_decimal_literal, look_based_literal, look_sized_literal, look_name_alone, look_select, look_unary, look_binary, look_conditional, look_parentheses, look_concatenation, look_replication, look_signed_call, look_unsigned_call, look_index_selection, look_range_selection, look_up_selection, look_down_selection, look_no_exprs, look_add_expr, look_first_expr, look_some_expr, look_no_expr}
use Rattle.v_depth.proofs.StatementLooks.{look_target_name, look_target_select, look_target_concatenation, look_no_targets, look_add_target, look_blocking, look_nonblocking, look_assignment, look_empty, look_some_label, look_no_label, look_block, look_no_stmts, look_add_stmt, look_if_alone, look_if_else, look_case, look_casez, look_values_item, look_default_item, look_no_case_items, look_add_case_item, look_for}
use Rattle.v_depth.proofs.DeclarationLooks.{look_range, look_some_range, look_no_range, look_signed_range, look_plain_range, look_no_parameter_range, look_parameter, look_no_parameters, look_add_parameter, look_no_names, look_add_name, look_no_declared, look_add_declared, look_declarator, look_no_declarators, look_add_declarator, look_wire_kind, look_reg_kind, look_no_kind, look_signed, look_unsigned, look_plain_register, look_initialized_register, look_memory, look_no_registers, look_add_register}
use Rattle.v_depth.proofs.ConnectionLooks.{look_ordered, look_no_ordered, look_add_ordered, look_named, look_no_named, look_add_named, look_no_connections, look_ordered_connections, look_named_connections, look_some_overrides, look_no_overrides, look_instance, look_no_instances, look_add_instance, look_net_assignment, look_no_net_assignments, look_add_net_assignment, look_any_event, look_posedge_event, look_names_event}
use Rattle.v_depth.proofs.ModuleLooks.{look_port_item, look_net_item, look_reg_item, look_integer_item, look_parameter_item, look_local_parameter_item, look_assign_item, look_always_item, look_initial_item, look_instances_item, look_no_items, look_add_item, look_no_groups, look_close_group, look_no_ports, look_close_port, look_absent_header, look_empty_header, look_header_names, look_header_ports, look_module, look_no_modules, look_add_module, look_source}

abbrev weave_of_token : TokenAction → Weave
weave_of_token token_action.Place = of_token 0
weave_of_token token_action.Name = of_token 0
weave_of_token token_action.Declared = of_token 1
weave_of_token token_action.Decimal = of_token 0
weave_of_token token_action.Based = of_token 0
weave_of_token (token_action.Direction kind) = of_token 0
weave_of_token (token_action.Unary op) = of_token 0
weave_of_token (token_action.Binary op) = of_token 0

abbrev weave_of_expr : ExpressionAction → Weave
weave_of_expr expr_action.DecimalLiteral = of_values 1 1
weave_of_expr expr_action.BasedLiteral = of_values 1 1
weave_of_expr expr_action.SizedLiteral = of_values 2 1
weave_of_expr expr_action.NameAlone = of_values 1 1
weave_of_expr expr_action.Select = of_values 2 1
weave_of_expr expr_action.Unary = of_values 2 1
weave_of_expr expr_action.Binary = of_values 3 1
weave_of_expr expr_action.Conditional = of_values 3 1
weave_of_expr expr_action.Parentheses = of_values 2 1
weave_of_expr expr_action.Concatenation = of_values 2 1
weave_of_expr expr_action.Replication = of_values 3 1
weave_of_expr expr_action.SignedCall = of_values 2 1
weave_of_expr expr_action.UnsignedCall = of_values 2 1
weave_of_expr expr_action.IndexSelection = of_values 1 0
weave_of_expr expr_action.RangeSelection = of_values 2 0
weave_of_expr expr_action.UpSelection = of_values 2 0
weave_of_expr expr_action.DownSelection = of_values 2 0
weave_of_expr expr_action.NoExprs = of_values 0 0
weave_of_expr expr_action.AddExpr = of_values 2 0
weave_of_expr expr_action.FirstExpr = of_values 1 0
weave_of_expr expr_action.SomeExpr = of_values 1 0
weave_of_expr expr_action.NoExpr = of_values 0 0

abbrev weave_of_stmt : StatementAction → Weave
weave_of_stmt stmt_action.TargetName = of_values 1 1
weave_of_stmt stmt_action.TargetSelect = of_values 2 1
weave_of_stmt stmt_action.TargetConcatenation = of_values 2 1
weave_of_stmt stmt_action.NoTargets = of_values 0 0
weave_of_stmt stmt_action.AddTarget = of_values 2 0
weave_of_stmt stmt_action.Blocking = of_values 0 0
weave_of_stmt stmt_action.Nonblocking = of_values 0 0
weave_of_stmt stmt_action.Assignment = of_values 3 1
weave_of_stmt stmt_action.Empty = of_values 1 1
weave_of_stmt stmt_action.SomeLabel = of_values 1 0
weave_of_stmt stmt_action.NoLabel = of_values 0 0
weave_of_stmt stmt_action.Block = of_values 3 1
weave_of_stmt stmt_action.NoStmts = of_values 0 0
weave_of_stmt stmt_action.AddStmt = of_values 2 0
weave_of_stmt stmt_action.IfAlone = of_values 3 1
weave_of_stmt stmt_action.IfElse = of_values 4 1
weave_of_stmt stmt_action.Case = of_values 3 1
weave_of_stmt stmt_action.Casez = of_values 3 1
weave_of_stmt stmt_action.ValuesItem = of_values 2 1
weave_of_stmt stmt_action.DefaultItem = of_values 2 1
weave_of_stmt stmt_action.NoCaseItems = of_values 0 0
weave_of_stmt stmt_action.AddCaseItem = of_values 2 0
weave_of_stmt stmt_action.For = of_values 7 1

abbrev weave_of_declare : DeclarationAction → Weave
weave_of_declare declare_action.Range = of_values 3 0
weave_of_declare declare_action.SomeRange = of_values 1 0
weave_of_declare declare_action.NoRange = of_values 0 0
weave_of_declare declare_action.SignedRange = of_values 1 0
weave_of_declare declare_action.PlainRange = of_values 1 0
weave_of_declare declare_action.NoParameterRange = of_values 0 0
weave_of_declare declare_action.Parameter = of_values 2 1
weave_of_declare declare_action.NoParameters = of_values 0 0
weave_of_declare declare_action.AddParameter = of_values 2 0
weave_of_declare declare_action.NoNames = of_values 0 0
weave_of_declare declare_action.AddName = of_values 2 0
weave_of_declare declare_action.NoDeclared = of_values 0 0
weave_of_declare declare_action.AddDeclared = of_values 2 0
weave_of_declare declare_action.Declarator = of_values 2 1
weave_of_declare declare_action.NoDeclarators = of_values 0 0
weave_of_declare declare_action.AddDeclarator = of_values 2 0
weave_of_declare declare_action.WireKind = of_values 0 0
weave_of_declare declare_action.RegKind = of_values 0 0
weave_of_declare declare_action.NoKind = of_values 0 0
weave_of_declare declare_action.Signed = of_values 0 0
weave_of_declare declare_action.Unsigned = of_values 0 0
weave_of_declare declare_action.PlainRegister = of_values 1 1
weave_of_declare declare_action.InitializedRegister = of_values 2 1
weave_of_declare declare_action.Memory = of_values 2 1
weave_of_declare declare_action.NoRegisters = of_values 0 0
weave_of_declare declare_action.AddRegister = of_values 2 0

abbrev weave_of_connect : ConnectionAction → Weave
weave_of_connect connect_action.Ordered = of_values 1 1
weave_of_connect connect_action.NoOrdered = of_values 0 0
weave_of_connect connect_action.AddOrdered = of_values 2 0
weave_of_connect connect_action.Named = of_values 3 1
weave_of_connect connect_action.NoNamed = of_values 0 0
weave_of_connect connect_action.AddNamed = of_values 2 0
weave_of_connect connect_action.NoConnections = of_values 0 0
weave_of_connect connect_action.OrderedConnections = of_values 1 0
weave_of_connect connect_action.NamedConnections = of_values 1 0
weave_of_connect connect_action.SomeOverrides = of_values 1 0
weave_of_connect connect_action.NoOverrides = of_values 0 0
weave_of_connect connect_action.Instance = of_values 2 1
weave_of_connect connect_action.NoInstances = of_values 0 0
weave_of_connect connect_action.AddInstance = of_values 2 0
weave_of_connect connect_action.NetAssignment = of_values 2 0
weave_of_connect connect_action.NoNetAssignments = of_values 0 0
weave_of_connect connect_action.AddNetAssignment = of_values 2 0
weave_of_connect connect_action.AnyEvent = of_values 0 0
weave_of_connect connect_action.PosedgeEvent = of_values 1 0
weave_of_connect connect_action.NamesEvent = of_values 1 0

abbrev weave_of_module : ModuleAction → Weave
weave_of_module module_action.PortItem = of_values 5 1
weave_of_module module_action.NetItem = of_values 4 1
weave_of_module module_action.RegItem = of_values 4 1
weave_of_module module_action.IntegerItem = of_values 2 1
weave_of_module module_action.ParameterItem = of_values 3 1
weave_of_module module_action.LocalParameterItem = of_values 3 1
weave_of_module module_action.AssignItem = of_values 2 1
weave_of_module module_action.AlwaysItem = of_values 3 1
weave_of_module module_action.InitialItem = of_values 2 1
weave_of_module module_action.InstancesItem = of_values 3 1
weave_of_module module_action.NoItems = of_values 0 0
weave_of_module module_action.AddItem = of_values 2 0
weave_of_module module_action.NoGroups = of_values 0 0
weave_of_module module_action.CloseGroup = of_values 4 0
weave_of_module module_action.NoPorts = of_values 0 0
weave_of_module module_action.ClosePort = of_values 6 0
weave_of_module module_action.AbsentHeader = of_values 0 0
weave_of_module module_action.EmptyHeader = of_values 0 0
weave_of_module module_action.HeaderNames = of_values 1 0
weave_of_module module_action.HeaderPorts = of_values 1 0
weave_of_module module_action.Module = of_values 5 1
weave_of_module module_action.NoModules = of_values 0 0
weave_of_module module_action.AddModule = of_values 2 0
weave_of_module module_action.Source = of_values 1 1

abbrev pub weave : Action → Weave
weave (action.Token a) = weave_of_token a
weave (action.Expression a) = weave_of_expr a
weave (action.Statement a) = weave_of_stmt a
weave (action.Declaration a) = weave_of_declare a
weave (action.Connection a) = weave_of_connect a
weave (action.Module a) = weave_of_module a

weaves : map weave ACTIONS ≡ WEAVES
weaves = refl

pub weave_at : (n : ℕ) → weave_of WEAVES n ≡ weave (action_of n)
weave_at n = ap (λ ws. weave_of ws n) (sym weaves) ∙ get_or-map weave ACTIONS n (action.Expression expr_action.NoExprs)

look_token : (x : Lexemes) (a : TokenAction) (i : ℕ) (nothing : Place) (st : Values) → Looks nothing (weave_of_token a) (place_in x.places i) st (Some (token_value x a i ∷ st))
look_token x token_action.Place i nothing st = refl
look_token x token_action.Name i nothing st = refl
look_token x token_action.Declared i nothing st = refl
look_token x token_action.Decimal i nothing st = refl
look_token x token_action.Based i nothing st = refl
look_token x (token_action.Direction kind) i nothing st = refl
look_token x (token_action.Unary op) i nothing st = refl
look_token x (token_action.Binary op) i nothing st = refl

look_expr_action : (a : ExpressionAction) (nothing own : Place) (st : Values) (rest : List ℕ) → sorts_of st ≡ (signature (action.Expression a)).takes ++ rest → Looks nothing (weave_of_expr a) own st (after_expression_action a st)
look_expr_action expr_action.DecimalLiteral nothing own st rest e = look_decimal_literal nothing own st rest e
look_expr_action expr_action.BasedLiteral nothing own st rest e = look_based_literal nothing own st rest e
look_expr_action expr_action.SizedLiteral nothing own st rest e = look_sized_literal nothing own st rest e
look_expr_action expr_action.NameAlone nothing own st rest e = look_name_alone nothing own st rest e
look_expr_action expr_action.Select nothing own st rest e = look_select nothing own st rest e
look_expr_action expr_action.Unary nothing own st rest e = look_unary nothing own st rest e
look_expr_action expr_action.Binary nothing own st rest e = look_binary nothing own st rest e
look_expr_action expr_action.Conditional nothing own st rest e = look_conditional nothing own st rest e
look_expr_action expr_action.Parentheses nothing own st rest e = look_parentheses nothing own st rest e
look_expr_action expr_action.Concatenation nothing own st rest e = look_concatenation nothing own st rest e
look_expr_action expr_action.Replication nothing own st rest e = look_replication nothing own st rest e
look_expr_action expr_action.SignedCall nothing own st rest e = look_signed_call nothing own st rest e
look_expr_action expr_action.UnsignedCall nothing own st rest e = look_unsigned_call nothing own st rest e
look_expr_action expr_action.IndexSelection nothing own st rest e = look_index_selection nothing own st rest e
look_expr_action expr_action.RangeSelection nothing own st rest e = look_range_selection nothing own st rest e
look_expr_action expr_action.UpSelection nothing own st rest e = look_up_selection nothing own st rest e
look_expr_action expr_action.DownSelection nothing own st rest e = look_down_selection nothing own st rest e
look_expr_action expr_action.NoExprs nothing own st rest e = look_no_exprs nothing own st rest e
look_expr_action expr_action.AddExpr nothing own st rest e = look_add_expr nothing own st rest e
look_expr_action expr_action.FirstExpr nothing own st rest e = look_first_expr nothing own st rest e
look_expr_action expr_action.SomeExpr nothing own st rest e = look_some_expr nothing own st rest e
look_expr_action expr_action.NoExpr nothing own st rest e = look_no_expr nothing own st rest e

look_stmt_action : (a : StatementAction) (nothing own : Place) (st : Values) (rest : List ℕ) → sorts_of st ≡ (signature (action.Statement a)).takes ++ rest → Looks nothing (weave_of_stmt a) own st (after_statement_action a st)
look_stmt_action stmt_action.TargetName nothing own st rest e = look_target_name nothing own st rest e
look_stmt_action stmt_action.TargetSelect nothing own st rest e = look_target_select nothing own st rest e
look_stmt_action stmt_action.TargetConcatenation nothing own st rest e = look_target_concatenation nothing own st rest e
look_stmt_action stmt_action.NoTargets nothing own st rest e = look_no_targets nothing own st rest e
look_stmt_action stmt_action.AddTarget nothing own st rest e = look_add_target nothing own st rest e
look_stmt_action stmt_action.Blocking nothing own st rest e = look_blocking nothing own st rest e
look_stmt_action stmt_action.Nonblocking nothing own st rest e = look_nonblocking nothing own st rest e
look_stmt_action stmt_action.Assignment nothing own st rest e = look_assignment nothing own st rest e
look_stmt_action stmt_action.Empty nothing own st rest e = look_empty nothing own st rest e
look_stmt_action stmt_action.SomeLabel nothing own st rest e = look_some_label nothing own st rest e
look_stmt_action stmt_action.NoLabel nothing own st rest e = look_no_label nothing own st rest e
look_stmt_action stmt_action.Block nothing own st rest e = look_block nothing own st rest e
look_stmt_action stmt_action.NoStmts nothing own st rest e = look_no_stmts nothing own st rest e
look_stmt_action stmt_action.AddStmt nothing own st rest e = look_add_stmt nothing own st rest e
look_stmt_action stmt_action.IfAlone nothing own st rest e = look_if_alone nothing own st rest e
look_stmt_action stmt_action.IfElse nothing own st rest e = look_if_else nothing own st rest e
look_stmt_action stmt_action.Case nothing own st rest e = look_case nothing own st rest e
look_stmt_action stmt_action.Casez nothing own st rest e = look_casez nothing own st rest e
look_stmt_action stmt_action.ValuesItem nothing own st rest e = look_values_item nothing own st rest e
look_stmt_action stmt_action.DefaultItem nothing own st rest e = look_default_item nothing own st rest e
look_stmt_action stmt_action.NoCaseItems nothing own st rest e = look_no_case_items nothing own st rest e
look_stmt_action stmt_action.AddCaseItem nothing own st rest e = look_add_case_item nothing own st rest e
look_stmt_action stmt_action.For nothing own st rest e = look_for nothing own st rest e

look_declare_action : (a : DeclarationAction) (nothing own : Place) (st : Values) (rest : List ℕ) → sorts_of st ≡ (signature (action.Declaration a)).takes ++ rest → Looks nothing (weave_of_declare a) own st (after_declaration_action a st)
look_declare_action declare_action.Range nothing own st rest e = look_range nothing own st rest e
look_declare_action declare_action.SomeRange nothing own st rest e = look_some_range nothing own st rest e
look_declare_action declare_action.NoRange nothing own st rest e = look_no_range nothing own st rest e
look_declare_action declare_action.SignedRange nothing own st rest e = look_signed_range nothing own st rest e
look_declare_action declare_action.PlainRange nothing own st rest e = look_plain_range nothing own st rest e
look_declare_action declare_action.NoParameterRange nothing own st rest e = look_no_parameter_range nothing own st rest e
look_declare_action declare_action.Parameter nothing own st rest e = look_parameter nothing own st rest e
look_declare_action declare_action.NoParameters nothing own st rest e = look_no_parameters nothing own st rest e
look_declare_action declare_action.AddParameter nothing own st rest e = look_add_parameter nothing own st rest e
look_declare_action declare_action.NoNames nothing own st rest e = look_no_names nothing own st rest e
look_declare_action declare_action.AddName nothing own st rest e = look_add_name nothing own st rest e
look_declare_action declare_action.NoDeclared nothing own st rest e = look_no_declared nothing own st rest e
look_declare_action declare_action.AddDeclared nothing own st rest e = look_add_declared nothing own st rest e
look_declare_action declare_action.Declarator nothing own st rest e = look_declarator nothing own st rest e
look_declare_action declare_action.NoDeclarators nothing own st rest e = look_no_declarators nothing own st rest e
look_declare_action declare_action.AddDeclarator nothing own st rest e = look_add_declarator nothing own st rest e
look_declare_action declare_action.WireKind nothing own st rest e = look_wire_kind nothing own st rest e
look_declare_action declare_action.RegKind nothing own st rest e = look_reg_kind nothing own st rest e
look_declare_action declare_action.NoKind nothing own st rest e = look_no_kind nothing own st rest e
look_declare_action declare_action.Signed nothing own st rest e = look_signed nothing own st rest e
look_declare_action declare_action.Unsigned nothing own st rest e = look_unsigned nothing own st rest e
look_declare_action declare_action.PlainRegister nothing own st rest e = look_plain_register nothing own st rest e
look_declare_action declare_action.InitializedRegister nothing own st rest e = look_initialized_register nothing own st rest e
look_declare_action declare_action.Memory nothing own st rest e = look_memory nothing own st rest e
look_declare_action declare_action.NoRegisters nothing own st rest e = look_no_registers nothing own st rest e
look_declare_action declare_action.AddRegister nothing own st rest e = look_add_register nothing own st rest e

look_connect_action : (a : ConnectionAction) (nothing own : Place) (st : Values) (rest : List ℕ) → sorts_of st ≡ (signature (action.Connection a)).takes ++ rest → Looks nothing (weave_of_connect a) own st (after_connection_action a st)
look_connect_action connect_action.Ordered nothing own st rest e = look_ordered nothing own st rest e
look_connect_action connect_action.NoOrdered nothing own st rest e = look_no_ordered nothing own st rest e
look_connect_action connect_action.AddOrdered nothing own st rest e = look_add_ordered nothing own st rest e
look_connect_action connect_action.Named nothing own st rest e = look_named nothing own st rest e
look_connect_action connect_action.NoNamed nothing own st rest e = look_no_named nothing own st rest e
look_connect_action connect_action.AddNamed nothing own st rest e = look_add_named nothing own st rest e
look_connect_action connect_action.NoConnections nothing own st rest e = look_no_connections nothing own st rest e
look_connect_action connect_action.OrderedConnections nothing own st rest e = look_ordered_connections nothing own st rest e
look_connect_action connect_action.NamedConnections nothing own st rest e = look_named_connections nothing own st rest e
look_connect_action connect_action.SomeOverrides nothing own st rest e = look_some_overrides nothing own st rest e
look_connect_action connect_action.NoOverrides nothing own st rest e = look_no_overrides nothing own st rest e
look_connect_action connect_action.Instance nothing own st rest e = look_instance nothing own st rest e
look_connect_action connect_action.NoInstances nothing own st rest e = look_no_instances nothing own st rest e
look_connect_action connect_action.AddInstance nothing own st rest e = look_add_instance nothing own st rest e
look_connect_action connect_action.NetAssignment nothing own st rest e = look_net_assignment nothing own st rest e
look_connect_action connect_action.NoNetAssignments nothing own st rest e = look_no_net_assignments nothing own st rest e
look_connect_action connect_action.AddNetAssignment nothing own st rest e = look_add_net_assignment nothing own st rest e
look_connect_action connect_action.AnyEvent nothing own st rest e = look_any_event nothing own st rest e
look_connect_action connect_action.PosedgeEvent nothing own st rest e = look_posedge_event nothing own st rest e
look_connect_action connect_action.NamesEvent nothing own st rest e = look_names_event nothing own st rest e

look_module_action : (a : ModuleAction) (nothing own : Place) (st : Values) (rest : List ℕ) → sorts_of st ≡ (signature (action.Module a)).takes ++ rest → Looks nothing (weave_of_module a) own st (after_module_action a st)
look_module_action module_action.PortItem nothing own st rest e = look_port_item nothing own st rest e
look_module_action module_action.NetItem nothing own st rest e = look_net_item nothing own st rest e
look_module_action module_action.RegItem nothing own st rest e = look_reg_item nothing own st rest e
look_module_action module_action.IntegerItem nothing own st rest e = look_integer_item nothing own st rest e
look_module_action module_action.ParameterItem nothing own st rest e = look_parameter_item nothing own st rest e
look_module_action module_action.LocalParameterItem nothing own st rest e = look_local_parameter_item nothing own st rest e
look_module_action module_action.AssignItem nothing own st rest e = look_assign_item nothing own st rest e
look_module_action module_action.AlwaysItem nothing own st rest e = look_always_item nothing own st rest e
look_module_action module_action.InitialItem nothing own st rest e = look_initial_item nothing own st rest e
look_module_action module_action.InstancesItem nothing own st rest e = look_instances_item nothing own st rest e
look_module_action module_action.NoItems nothing own st rest e = look_no_items nothing own st rest e
look_module_action module_action.AddItem nothing own st rest e = look_add_item nothing own st rest e
look_module_action module_action.NoGroups nothing own st rest e = look_no_groups nothing own st rest e
look_module_action module_action.CloseGroup nothing own st rest e = look_close_group nothing own st rest e
look_module_action module_action.NoPorts nothing own st rest e = look_no_ports nothing own st rest e
look_module_action module_action.ClosePort nothing own st rest e = look_close_port nothing own st rest e
look_module_action module_action.AbsentHeader nothing own st rest e = look_absent_header nothing own st rest e
look_module_action module_action.EmptyHeader nothing own st rest e = look_empty_header nothing own st rest e
look_module_action module_action.HeaderNames nothing own st rest e = look_header_names nothing own st rest e
look_module_action module_action.HeaderPorts nothing own st rest e = look_header_ports nothing own st rest e
look_module_action module_action.Module nothing own st rest e = look_module nothing own st rest e
look_module_action module_action.NoModules nothing own st rest e = look_no_modules nothing own st rest e
look_module_action module_action.AddModule nothing own st rest e = look_add_module nothing own st rest e
look_module_action module_action.Source nothing own st rest e = look_source nothing own st rest e

-- an action that finds the sorts that it takes gives the look that its weave says
pub look_action : (x : Lexemes) (a : Action) (i : ℕ) (nothing : Place) (st : Values) (rest : List ℕ) → sorts_of st ≡ (signature a).takes ++ rest →
    Looks nothing (weave a) (place_in x.places (i - 1)) st (after_action x a i st)
look_action x (action.Token a) i nothing st rest e = look_token x a (i - 1) nothing st
look_action x (action.Expression a) i nothing st rest e = look_expr_action a nothing (place_in x.places (i - 1)) st rest e
look_action x (action.Statement a) i nothing st rest e = look_stmt_action a nothing (place_in x.places (i - 1)) st rest e
look_action x (action.Declaration a) i nothing st rest e = look_declare_action a nothing (place_in x.places (i - 1)) st rest e
look_action x (action.Connection a) i nothing st rest e = look_connect_action a nothing (place_in x.places (i - 1)) st rest e
look_action x (action.Module a) i nothing st rest e = look_module_action a nothing (place_in x.places (i - 1)) st rest e
