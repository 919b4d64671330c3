-- How a value looks: the place of its first token, and its nodes.
use Rattle.std.proofs.Common.{◌≡◌, List, [], ◌∷◌, map, option_map, option_and_then}
use Rattle.std.specs.declared.option.Option.{Option}
use Rattle.std.specs.declared.option.Option.TheVariants.{None, Some}
use Rattle.src_text.specs.declared.refusal.Place.{Place}
use Rattle.v_tree.specs.declared.item.Connections.{Connections}
use Rattle.v_tree.specs.declared.item.Connections.TheVariants as connections
use Rattle.v_tree.specs.declared.item.Declarator.{Declarator}
use Rattle.v_tree.specs.declared.item.Event.{Event}
use Rattle.v_tree.specs.declared.item.Event.TheVariants as event
use Rattle.v_tree.specs.declared.item.Header.{Header}
use Rattle.v_tree.specs.declared.item.Header.TheVariants as header
use Rattle.v_tree.specs.declared.item.Instance.{Instance}
use Rattle.v_tree.specs.declared.item.Module.{Module}
use Rattle.v_tree.specs.declared.item.NamedConnection.{NamedConnection}
use Rattle.v_tree.specs.declared.item.NetAssignment.{NetAssignment}
use Rattle.v_tree.specs.declared.item.ParameterAssignment.{ParameterAssignment}
use Rattle.v_tree.specs.declared.item.ParameterDeclaration.{ParameterDeclaration}
use Rattle.v_tree.specs.declared.item.ParameterRange.{ParameterRange}
use Rattle.v_tree.specs.declared.item.Port.{Port}
use Rattle.v_tree.specs.declared.item.Range.{Range}
use Rattle.v_tree.specs.declared.item.Register.{Register}
use Rattle.v_tree.specs.declared.name.Identifier.{Identifier}
use Rattle.v_tree.specs.Nodes.{expr_trees, selection_trees, target_trees, stmt_trees, case_item_tree, range_trees, parameter_range_trees, declared_trees, declarator_trees, parameter_trees, parameters_trees, port_trees, header_trees, register_trees, net_assignment_trees, ordered_trees, named_trees, connections_trees, instance_trees, item_trees, module_trees}
use Rattle.v_tree.specs.Starts.{expr_start, target_start, stmt_start, case_item_start, item_start}
use Rattle.src_text.specs.Trees.{Trees, none, node, one, all_trees, option_trees, leaf}
use Rattle.v_stack.specs.Values.{Values}
use Rattle.v_stack.specs.declared.values.Value.{Value}
use Rattle.v_stack.specs.declared.values.TokenValue.TheVariants as TokenValue
use Rattle.v_stack.specs.declared.values.ExprValue.TheVariants as ExprValue
use Rattle.v_stack.specs.declared.values.StmtValue.TheVariants as StmtValue
use Rattle.v_stack.specs.declared.values.DeclareValue.TheVariants as DeclareValue
use Rattle.v_stack.specs.declared.values.NamesValue.TheVariants as NamesValue
use Rattle.v_stack.specs.declared.values.ConnectValue.TheVariants as ConnectValue
use Rattle.v_stack.specs.declared.values.PartValue.TheVariants as PartValue
use Rattle.v_stack.specs.declared.values.ModuleValue.TheVariants as ModuleValue
use Rattle.node_places.proofs.Looks.{PlaceLook, first_in, placed_weaves}
use Rattle.node_depth.specs.declared.weave.Weave.{Weave}

-- the place of the first of some trees, which is where a selection begins
abbrev pub root_first : Trees → Option Place
root_first none = None
root_first (node p a b) = Some p

abbrev pub name_start : Identifier → Place
name_start x = x.place

abbrev pub range_start : Range → Place
range_start r = r.place

abbrev pub parameter_range_start : ParameterRange → Place
parameter_range_start r = r.range.place

abbrev pub parameter_start : ParameterAssignment → Place
parameter_start p = p.name.place

abbrev pub parameters_start : ParameterDeclaration → Place
parameters_start d = d.place

abbrev pub declarator_start : Declarator → Place
declarator_start d = d.name.place

abbrev pub register_start : Register → Place
register_start r = r.name.place

abbrev pub named_start : NamedConnection → Place
named_start c = c.place

abbrev pub connections_first : Connections → Option Place
connections_first connections.Absent = None
connections_first (connections.Ordered values) = first_in expr_start values
connections_first (connections.Named values) = first_in named_start values

abbrev pub instance_start : Instance → Place
instance_start i = i.name.place

abbrev pub net_assignment_start : NetAssignment → Place
net_assignment_start a = target_start a.target

abbrev pub event_first : Event → Option Place
event_first event.All = None
event_first (event.Posedge clock) = Some clock.place
event_first (event.Names names) = first_in name_start names

abbrev pub port_start : Port → Place
port_start p = p.direction.place

abbrev pub header_first : Header → Option Place
header_first header.Absent = None
header_first header.Empty = None
header_first (header.Names names) = first_in name_start names
header_first (header.Ports ports) = first_in port_start ports

abbrev pub module_start : Module → Place
module_start m = m.place

abbrev pub first_of_value : Value → Option Place
first_of_value (Value.Token (TokenValue.Place x)) = Some x
first_of_value (Value.Token (TokenValue.Name x)) = Some x.place
first_of_value (Value.Token (TokenValue.Declared x)) = Some x.place
first_of_value (Value.Token (TokenValue.UnaryOperator x)) = Some x.place
first_of_value (Value.Token (TokenValue.BinaryOperator x)) = Some x.place
first_of_value (Value.Token (TokenValue.Decimal x)) = Some x.place
first_of_value (Value.Token (TokenValue.Based x)) = Some x.place
first_of_value (Value.Token (TokenValue.Direction x)) = Some x.place
first_of_value (Value.Expr (ExprValue.Expr x)) = Some (expr_start x)
first_of_value (Value.Expr (ExprValue.Exprs xs)) = first_in expr_start xs
first_of_value (Value.Expr (ExprValue.ExprOption x)) = option_map expr_start x
first_of_value (Value.Expr (ExprValue.Selection x)) = root_first (selection_trees x)
first_of_value (Value.Expr (ExprValue.Range x)) = Some (range_start x)
first_of_value (Value.Expr (ExprValue.RangeOption x)) = option_map range_start x
first_of_value (Value.Stmt (StmtValue.Target x)) = Some (target_start x)
first_of_value (Value.Stmt (StmtValue.Targets xs)) = first_in target_start xs
first_of_value (Value.Stmt (StmtValue.AssignmentKind x)) = None
first_of_value (Value.Stmt (StmtValue.Label x)) = option_map name_start x
first_of_value (Value.Stmt (StmtValue.Stmt x)) = Some (stmt_start x)
first_of_value (Value.Stmt (StmtValue.Stmts xs)) = first_in stmt_start xs
first_of_value (Value.Stmt (StmtValue.CaseItem x)) = Some (case_item_start x)
first_of_value (Value.Stmt (StmtValue.CaseItems xs)) = first_in case_item_start xs
first_of_value (Value.Declare (DeclareValue.Sign x)) = None
first_of_value (Value.Declare (DeclareValue.NetKind x)) = None
first_of_value (Value.Declare (DeclareValue.ParameterRange x)) = option_map parameter_range_start x
first_of_value (Value.Declare (DeclareValue.Parameter x)) = Some (parameter_start x)
first_of_value (Value.Declare (DeclareValue.Parameters xs)) = first_in parameter_start xs
first_of_value (Value.Declare (DeclareValue.Groups xs)) = first_in parameters_start xs
first_of_value (Value.Names (NamesValue.Names xs)) = first_in name_start xs
first_of_value (Value.Names (NamesValue.DeclaredNames xs)) = first_in name_start xs
first_of_value (Value.Names (NamesValue.Declarator x)) = Some (declarator_start x)
first_of_value (Value.Names (NamesValue.Declarators xs)) = first_in declarator_start xs
first_of_value (Value.Names (NamesValue.Register x)) = Some (register_start x)
first_of_value (Value.Names (NamesValue.Registers xs)) = first_in register_start xs
first_of_value (Value.Connect (ConnectValue.Ordered x)) = Some (expr_start x)
first_of_value (Value.Connect (ConnectValue.OrderedValues xs)) = first_in expr_start xs
first_of_value (Value.Connect (ConnectValue.Named x)) = Some (named_start x)
first_of_value (Value.Connect (ConnectValue.NamedValues xs)) = first_in named_start xs
first_of_value (Value.Connect (ConnectValue.Connections x)) = connections_first x
first_of_value (Value.Connect (ConnectValue.Overrides x)) = option_and_then connections_first x
first_of_value (Value.Part (PartValue.Instance x)) = Some (instance_start x)
first_of_value (Value.Part (PartValue.Instances xs)) = first_in instance_start xs
first_of_value (Value.Part (PartValue.NetAssignment x)) = Some (net_assignment_start x)
first_of_value (Value.Part (PartValue.NetAssignments xs)) = first_in net_assignment_start xs
first_of_value (Value.Part (PartValue.Event x)) = event_first x
first_of_value (Value.Module (ModuleValue.Ports xs)) = first_in port_start xs
first_of_value (Value.Module (ModuleValue.Header x)) = header_first x
first_of_value (Value.Module (ModuleValue.Item x)) = Some (item_start x)
first_of_value (Value.Module (ModuleValue.Items xs)) = first_in item_start xs
first_of_value (Value.Module (ModuleValue.Module x)) = Some (module_start x)
first_of_value (Value.Module (ModuleValue.Modules xs)) = first_in module_start xs
first_of_value (Value.Module (ModuleValue.Source x)) = first_in module_start x.modules

-- where a file begins by its tokens
abbrev pub first_start : List Module → (nothing : Place) → Place
first_start [] nothing = nothing
first_start (m ∷ ms) nothing = module_start m

abbrev pub trees_of_value : (nothing : Place) → Value → Trees
trees_of_value nothing (Value.Token (TokenValue.Place x)) = none
trees_of_value nothing (Value.Token (TokenValue.Name x)) = none
trees_of_value nothing (Value.Token (TokenValue.Declared x)) = leaf x.place
trees_of_value nothing (Value.Token (TokenValue.UnaryOperator x)) = none
trees_of_value nothing (Value.Token (TokenValue.BinaryOperator x)) = none
trees_of_value nothing (Value.Token (TokenValue.Decimal x)) = none
trees_of_value nothing (Value.Token (TokenValue.Based x)) = none
trees_of_value nothing (Value.Token (TokenValue.Direction x)) = none
trees_of_value nothing (Value.Expr (ExprValue.Expr x)) = expr_trees x
trees_of_value nothing (Value.Expr (ExprValue.Exprs xs)) = all_trees expr_trees xs
trees_of_value nothing (Value.Expr (ExprValue.ExprOption x)) = option_trees expr_trees x
trees_of_value nothing (Value.Expr (ExprValue.Selection x)) = selection_trees x
trees_of_value nothing (Value.Expr (ExprValue.Range x)) = range_trees x
trees_of_value nothing (Value.Expr (ExprValue.RangeOption x)) = option_trees range_trees x
trees_of_value nothing (Value.Stmt (StmtValue.Target x)) = target_trees x
trees_of_value nothing (Value.Stmt (StmtValue.Targets xs)) = all_trees target_trees xs
trees_of_value nothing (Value.Stmt (StmtValue.AssignmentKind x)) = none
trees_of_value nothing (Value.Stmt (StmtValue.Label x)) = none
trees_of_value nothing (Value.Stmt (StmtValue.Stmt x)) = stmt_trees x
trees_of_value nothing (Value.Stmt (StmtValue.Stmts xs)) = all_trees stmt_trees xs
trees_of_value nothing (Value.Stmt (StmtValue.CaseItem x)) = case_item_tree x
trees_of_value nothing (Value.Stmt (StmtValue.CaseItems xs)) = all_trees case_item_tree xs
trees_of_value nothing (Value.Declare (DeclareValue.Sign x)) = none
trees_of_value nothing (Value.Declare (DeclareValue.NetKind x)) = none
trees_of_value nothing (Value.Declare (DeclareValue.ParameterRange x)) = option_trees parameter_range_trees x
trees_of_value nothing (Value.Declare (DeclareValue.Parameter x)) = parameter_trees x
trees_of_value nothing (Value.Declare (DeclareValue.Parameters xs)) = all_trees parameter_trees xs
trees_of_value nothing (Value.Declare (DeclareValue.Groups xs)) = all_trees parameters_trees xs
trees_of_value nothing (Value.Names (NamesValue.Names xs)) = none
trees_of_value nothing (Value.Names (NamesValue.DeclaredNames xs)) = all_trees declared_trees xs
trees_of_value nothing (Value.Names (NamesValue.Declarator x)) = declarator_trees x
trees_of_value nothing (Value.Names (NamesValue.Declarators xs)) = all_trees declarator_trees xs
trees_of_value nothing (Value.Names (NamesValue.Register x)) = register_trees x
trees_of_value nothing (Value.Names (NamesValue.Registers xs)) = all_trees register_trees xs
trees_of_value nothing (Value.Connect (ConnectValue.Ordered x)) = ordered_trees x
trees_of_value nothing (Value.Connect (ConnectValue.OrderedValues xs)) = all_trees ordered_trees xs
trees_of_value nothing (Value.Connect (ConnectValue.Named x)) = named_trees x
trees_of_value nothing (Value.Connect (ConnectValue.NamedValues xs)) = all_trees named_trees xs
trees_of_value nothing (Value.Connect (ConnectValue.Connections x)) = connections_trees x
trees_of_value nothing (Value.Connect (ConnectValue.Overrides x)) = option_trees connections_trees x
trees_of_value nothing (Value.Part (PartValue.Instance x)) = instance_trees x
trees_of_value nothing (Value.Part (PartValue.Instances xs)) = all_trees instance_trees xs
trees_of_value nothing (Value.Part (PartValue.NetAssignment x)) = net_assignment_trees x
trees_of_value nothing (Value.Part (PartValue.NetAssignments xs)) = all_trees net_assignment_trees xs
trees_of_value nothing (Value.Part (PartValue.Event x)) = none
trees_of_value nothing (Value.Module (ModuleValue.Ports xs)) = all_trees port_trees xs
trees_of_value nothing (Value.Module (ModuleValue.Header x)) = header_trees x
trees_of_value nothing (Value.Module (ModuleValue.Item x)) = item_trees x
trees_of_value nothing (Value.Module (ModuleValue.Items xs)) = all_trees item_trees xs
trees_of_value nothing (Value.Module (ModuleValue.Module x)) = module_trees x
trees_of_value nothing (Value.Module (ModuleValue.Modules xs)) = all_trees module_trees xs
trees_of_value nothing (Value.Module (ModuleValue.Source x)) = one (first_start x.modules nothing) (all_trees module_trees x.modules)

abbrev pub look_of_value : (nothing : Place) → Value → PlaceLook
look_of_value nothing v = record { first = first_of_value v; trees = trees_of_value nothing v }

-- The looks of a stack. A file without tokens begins at `nothing`.
abbrev pub looks_of : (nothing : Place) → Values → List PlaceLook
looks_of nothing st = map (look_of_value nothing) st

-- what is left is a stack that looks as the weave makes it, where the last token is at `place`
abbrev pub Looks : (nothing : Place) → Weave → (place : Place) → Values → Option Values → Type 0
Looks nothing w place st None = ⊥
Looks nothing w place st (Some new) = looks_of nothing new ≡ placed_weaves nothing w place (looks_of nothing st)
