-- The stack, from the top down. Each `with_..` takes a value of its sort off, and goes on with it.
use Rattle.std.specs.Prelude.{◌≡◌, Bool, true, false, List, ◌∷◌, Option, Some, None}
use Rattle.src_text.specs.declared.refusal.Place.{Place}
use Rattle.v_stack.specs.declared.values.Value.{Value}
use Rattle.v_stack.specs.declared.values.TokenValue.TheVariants as TokenValue
use Rattle.v_stack.specs.declared.values.ExprValue.TheVariants as ExprValue
use Rattle.v_stack.specs.declared.values.StmtValue.TheVariants as StmtValue
use Rattle.v_stack.specs.declared.values.DeclareValue.TheVariants as DeclareValue
use Rattle.v_stack.specs.declared.values.NamesValue.TheVariants as NamesValue
use Rattle.v_stack.specs.declared.values.ConnectValue.TheVariants as ConnectValue
use Rattle.v_stack.specs.declared.values.PartValue.TheVariants as PartValue
use Rattle.v_stack.specs.declared.values.ModuleValue.TheVariants as ModuleValue
use Rattle.v_tree.specs.declared.stmt.AssignmentKind.{AssignmentKind}
use Rattle.v_tree.specs.declared.expr.BasedNumber.{BasedNumber}
use Rattle.v_tree.specs.declared.expr.BinaryOperator.{BinaryOperator}
use Rattle.v_tree.specs.declared.stmt.CaseItem.{CaseItem}
use Rattle.v_tree.specs.declared.item.Connections.{Connections}
use Rattle.v_tree.specs.declared.expr.DecimalNumber.{DecimalNumber}
use Rattle.v_tree.specs.declared.item.Declarator.{Declarator}
use Rattle.v_tree.specs.declared.item.Direction.{Direction}
use Rattle.v_tree.specs.declared.item.Event.{Event}
use Rattle.v_tree.specs.declared.expr.Expr.{Expr}
use Rattle.v_tree.specs.declared.item.Header.{Header}
use Rattle.v_tree.specs.declared.name.Identifier.{Identifier}
use Rattle.v_tree.specs.declared.item.Instance.{Instance}
use Rattle.v_tree.specs.declared.item.Item.{Item}
use Rattle.v_tree.specs.declared.item.Module.{Module}
use Rattle.v_tree.specs.declared.item.NamedConnection.{NamedConnection}
use Rattle.v_tree.specs.declared.item.NetAssignment.{NetAssignment}
use Rattle.v_tree.specs.declared.item.NetKind.{NetKind}
use Rattle.v_tree.specs.declared.item.ParameterAssignment.{ParameterAssignment}
use Rattle.v_tree.specs.declared.item.ParameterDeclaration.{ParameterDeclaration}
use Rattle.v_tree.specs.declared.item.ParameterRange.{ParameterRange}
use Rattle.v_tree.specs.declared.item.Port.{Port}
use Rattle.v_tree.specs.declared.item.Range.{Range}
use Rattle.v_tree.specs.declared.item.Register.{Register}
use Rattle.v_tree.specs.declared.expr.Selection.{Selection}
use Rattle.v_tree.specs.declared.stmt.Stmt.{Stmt}
use Rattle.v_tree.specs.declared.stmt.Target.{Target}
use Rattle.v_tree.specs.declared.expr.UnaryOperator.{UnaryOperator}
use Rattle.v_tree.specs.declared.item.VTree.{VTree}

-- a stack of values, the top one first
abbrev pub Values : Type 0
Values = List Value

-- what goes on with a value and the stack below it
abbrev pub Goes : Type 0 → Type 0
Goes A = A → Values → Option Values

abbrev pub with_place : Values → Goes Place → Option Values
with_place (Value.Token (TokenValue.Place x) ∷ st) go = go x st
with_place st go = None

abbrev pub with_name : Values → Goes Identifier → Option Values
with_name (Value.Token (TokenValue.Name x) ∷ st) go = go x st
with_name st go = None

abbrev pub with_declared : Values → Goes Identifier → Option Values
with_declared (Value.Token (TokenValue.Declared x) ∷ st) go = go x st
with_declared st go = None

abbrev pub with_unary_operator : Values → Goes UnaryOperator → Option Values
with_unary_operator (Value.Token (TokenValue.UnaryOperator x) ∷ st) go = go x st
with_unary_operator st go = None

abbrev pub with_binary_operator : Values → Goes BinaryOperator → Option Values
with_binary_operator (Value.Token (TokenValue.BinaryOperator x) ∷ st) go = go x st
with_binary_operator st go = None

abbrev pub with_decimal : Values → Goes DecimalNumber → Option Values
with_decimal (Value.Token (TokenValue.Decimal x) ∷ st) go = go x st
with_decimal st go = None

abbrev pub with_based : Values → Goes BasedNumber → Option Values
with_based (Value.Token (TokenValue.Based x) ∷ st) go = go x st
with_based st go = None

abbrev pub with_direction : Values → Goes Direction → Option Values
with_direction (Value.Token (TokenValue.Direction x) ∷ st) go = go x st
with_direction st go = None

abbrev pub with_expr : Values → Goes Expr → Option Values
with_expr (Value.Expr (ExprValue.Expr x) ∷ st) go = go x st
with_expr st go = None

abbrev pub with_exprs : Values → Goes (List Expr) → Option Values
with_exprs (Value.Expr (ExprValue.Exprs x) ∷ st) go = go x st
with_exprs st go = None

abbrev pub with_expr_option : Values → Goes (Option Expr) → Option Values
with_expr_option (Value.Expr (ExprValue.ExprOption x) ∷ st) go = go x st
with_expr_option st go = None

abbrev pub with_selection : Values → Goes Selection → Option Values
with_selection (Value.Expr (ExprValue.Selection x) ∷ st) go = go x st
with_selection st go = None

abbrev pub with_range : Values → Goes Range → Option Values
with_range (Value.Expr (ExprValue.Range x) ∷ st) go = go x st
with_range st go = None

abbrev pub with_range_option : Values → Goes (Option Range) → Option Values
with_range_option (Value.Expr (ExprValue.RangeOption x) ∷ st) go = go x st
with_range_option st go = None

abbrev pub with_target : Values → Goes Target → Option Values
with_target (Value.Stmt (StmtValue.Target x) ∷ st) go = go x st
with_target st go = None

abbrev pub with_targets : Values → Goes (List Target) → Option Values
with_targets (Value.Stmt (StmtValue.Targets x) ∷ st) go = go x st
with_targets st go = None

abbrev pub with_assignment_kind : Values → Goes AssignmentKind → Option Values
with_assignment_kind (Value.Stmt (StmtValue.AssignmentKind x) ∷ st) go = go x st
with_assignment_kind st go = None

abbrev pub with_label : Values → Goes (Option Identifier) → Option Values
with_label (Value.Stmt (StmtValue.Label x) ∷ st) go = go x st
with_label st go = None

abbrev pub with_stmt : Values → Goes Stmt → Option Values
with_stmt (Value.Stmt (StmtValue.Stmt x) ∷ st) go = go x st
with_stmt st go = None

abbrev pub with_stmts : Values → Goes (List Stmt) → Option Values
with_stmts (Value.Stmt (StmtValue.Stmts x) ∷ st) go = go x st
with_stmts st go = None

abbrev pub with_case_item : Values → Goes CaseItem → Option Values
with_case_item (Value.Stmt (StmtValue.CaseItem x) ∷ st) go = go x st
with_case_item st go = None

abbrev pub with_case_items : Values → Goes (List CaseItem) → Option Values
with_case_items (Value.Stmt (StmtValue.CaseItems x) ∷ st) go = go x st
with_case_items st go = None

abbrev pub with_sign : Values → Goes Bool → Option Values
with_sign (Value.Declare (DeclareValue.Sign x) ∷ st) go = go x st
with_sign st go = None

abbrev pub with_net_kind : Values → Goes (Option NetKind) → Option Values
with_net_kind (Value.Declare (DeclareValue.NetKind x) ∷ st) go = go x st
with_net_kind st go = None

abbrev pub with_parameter_range : Values → Goes (Option ParameterRange) → Option Values
with_parameter_range (Value.Declare (DeclareValue.ParameterRange x) ∷ st) go = go x st
with_parameter_range st go = None

abbrev pub with_parameter : Values → Goes ParameterAssignment → Option Values
with_parameter (Value.Declare (DeclareValue.Parameter x) ∷ st) go = go x st
with_parameter st go = None

abbrev pub with_parameters : Values → Goes (List ParameterAssignment) → Option Values
with_parameters (Value.Declare (DeclareValue.Parameters x) ∷ st) go = go x st
with_parameters st go = None

abbrev pub with_groups : Values → Goes (List ParameterDeclaration) → Option Values
with_groups (Value.Declare (DeclareValue.Groups x) ∷ st) go = go x st
with_groups st go = None

abbrev pub with_names : Values → Goes (List Identifier) → Option Values
with_names (Value.Names (NamesValue.Names x) ∷ st) go = go x st
with_names st go = None

abbrev pub with_declared_names : Values → Goes (List Identifier) → Option Values
with_declared_names (Value.Names (NamesValue.DeclaredNames x) ∷ st) go = go x st
with_declared_names st go = None

abbrev pub with_declarator : Values → Goes Declarator → Option Values
with_declarator (Value.Names (NamesValue.Declarator x) ∷ st) go = go x st
with_declarator st go = None

abbrev pub with_declarators : Values → Goes (List Declarator) → Option Values
with_declarators (Value.Names (NamesValue.Declarators x) ∷ st) go = go x st
with_declarators st go = None

abbrev pub with_register : Values → Goes Register → Option Values
with_register (Value.Names (NamesValue.Register x) ∷ st) go = go x st
with_register st go = None

abbrev pub with_registers : Values → Goes (List Register) → Option Values
with_registers (Value.Names (NamesValue.Registers x) ∷ st) go = go x st
with_registers st go = None

abbrev pub with_ordered : Values → Goes Expr → Option Values
with_ordered (Value.Connect (ConnectValue.Ordered x) ∷ st) go = go x st
with_ordered st go = None

abbrev pub with_ordered_values : Values → Goes (List Expr) → Option Values
with_ordered_values (Value.Connect (ConnectValue.OrderedValues x) ∷ st) go = go x st
with_ordered_values st go = None

abbrev pub with_named : Values → Goes NamedConnection → Option Values
with_named (Value.Connect (ConnectValue.Named x) ∷ st) go = go x st
with_named st go = None

abbrev pub with_named_values : Values → Goes (List NamedConnection) → Option Values
with_named_values (Value.Connect (ConnectValue.NamedValues x) ∷ st) go = go x st
with_named_values st go = None

abbrev pub with_connections : Values → Goes Connections → Option Values
with_connections (Value.Connect (ConnectValue.Connections x) ∷ st) go = go x st
with_connections st go = None

abbrev pub with_overrides : Values → Goes (Option Connections) → Option Values
with_overrides (Value.Connect (ConnectValue.Overrides x) ∷ st) go = go x st
with_overrides st go = None

abbrev pub with_instance : Values → Goes Instance → Option Values
with_instance (Value.Part (PartValue.Instance x) ∷ st) go = go x st
with_instance st go = None

abbrev pub with_instances : Values → Goes (List Instance) → Option Values
with_instances (Value.Part (PartValue.Instances x) ∷ st) go = go x st
with_instances st go = None

abbrev pub with_net_assignment : Values → Goes NetAssignment → Option Values
with_net_assignment (Value.Part (PartValue.NetAssignment x) ∷ st) go = go x st
with_net_assignment st go = None

abbrev pub with_net_assignments : Values → Goes (List NetAssignment) → Option Values
with_net_assignments (Value.Part (PartValue.NetAssignments x) ∷ st) go = go x st
with_net_assignments st go = None

abbrev pub with_event : Values → Goes Event → Option Values
with_event (Value.Part (PartValue.Event x) ∷ st) go = go x st
with_event st go = None

abbrev pub with_ports : Values → Goes (List Port) → Option Values
with_ports (Value.Module (ModuleValue.Ports x) ∷ st) go = go x st
with_ports st go = None

abbrev pub with_header : Values → Goes Header → Option Values
with_header (Value.Module (ModuleValue.Header x) ∷ st) go = go x st
with_header st go = None

abbrev pub with_item : Values → Goes Item → Option Values
with_item (Value.Module (ModuleValue.Item x) ∷ st) go = go x st
with_item st go = None

abbrev pub with_items : Values → Goes (List Item) → Option Values
with_items (Value.Module (ModuleValue.Items x) ∷ st) go = go x st
with_items st go = None

abbrev pub with_module : Values → Goes Module → Option Values
with_module (Value.Module (ModuleValue.Module x) ∷ st) go = go x st
with_module st go = None

abbrev pub with_modules : Values → Goes (List Module) → Option Values
with_modules (Value.Module (ModuleValue.Modules x) ∷ st) go = go x st
with_modules st go = None

abbrev pub with_source : Values → Goes VTree → Option Values
with_source (Value.Module (ModuleValue.Source x) ∷ st) go = go x st
with_source st go = None

-- What a call left on the stack, where an action leaves `after`: that, or it didn't find its values.
abbrev pub Fits : Bool → Values → Option Values → Type 0
Fits true new after = after ≡ Some new
Fits false new after = after ≡ None
