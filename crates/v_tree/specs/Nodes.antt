-- The nodes of a tree: the file, each module, item, statement, case item, declared name, connection, operator, select,
-- call, literal, name, concatenation and pair of parentheses round an expression. A node stands directly in the next
-- one round it. No node of its own has a level without an operator, a port, a range, an event, an assignment of
-- `assign` and a part of a loop's head.
use Rattle.std.specs.Prelude.{ℕ}
use Rattle.src_text.specs.Trees.{Trees, none, also, one, leaf, all_trees, option_trees}
use Rattle.src_text.specs.Trees as trees
use Rattle.v_tree.specs.declared.expr.Expr.{Expr}
use Rattle.v_tree.specs.declared.expr.Expr as expr
use Rattle.v_tree.specs.declared.expr.Selection.{Selection}
use Rattle.v_tree.specs.declared.expr.Selection as selection
use Rattle.v_tree.specs.declared.item.Connections.{Connections}
use Rattle.v_tree.specs.declared.item.Connections.TheVariants as connections
use Rattle.v_tree.specs.declared.item.Declarator.{Declarator}
use Rattle.v_tree.specs.declared.item.Header.{Header}
use Rattle.v_tree.specs.declared.item.Header.TheVariants as header
use Rattle.v_tree.specs.declared.item.Instance.{Instance}
use Rattle.v_tree.specs.declared.item.Item.{Item}
use Rattle.v_tree.specs.declared.item.Item.TheVariants as item
use Rattle.v_tree.specs.declared.item.Module.{Module}
use Rattle.v_tree.specs.declared.item.NamedConnection.{NamedConnection}
use Rattle.v_tree.specs.declared.item.NetAssignment.{NetAssignment}
use Rattle.v_tree.specs.declared.item.ParameterAssignment.{ParameterAssignment}
use Rattle.v_tree.specs.declared.item.ParameterDeclaration.{ParameterDeclaration}
use Rattle.v_tree.specs.declared.item.ParameterRange.{ParameterRange}
use Rattle.v_tree.specs.declared.item.Port.{Port}
use Rattle.v_tree.specs.declared.item.Range.{Range}
use Rattle.v_tree.specs.declared.item.Register.{Register}
use Rattle.v_tree.specs.declared.item.RegisterForm.{RegisterForm}
use Rattle.v_tree.specs.declared.item.RegisterForm.TheVariants as form
use Rattle.v_tree.specs.declared.item.VTree.{VTree}
use Rattle.v_tree.specs.declared.name.Identifier.{Identifier}
use Rattle.v_tree.specs.declared.stmt.CaseItem.{CaseItem}
use Rattle.v_tree.specs.declared.stmt.CaseItem as case_item
use Rattle.v_tree.specs.declared.stmt.ForHead.{ForHead}
use Rattle.v_tree.specs.declared.stmt.Stmt.{Stmt}
use Rattle.v_tree.specs.declared.stmt.Stmt as stmt
use Rattle.v_tree.specs.declared.stmt.Target.{Target}
use Rattle.v_tree.specs.declared.stmt.Target as target
use Rattle.v_tree.specs.Starts.{literal_start, expr_start, target_start, stmt_start, values_start}

-- Expressions: a node has the place of its first token, and holds its operands or parts.
abbrev mutual
  pub expr_trees : Expr → Trees
  expr_trees (expr.Literal l) = leaf (literal_start l)
  expr_trees (expr.Name x) = leaf x.place
  expr_trees (expr.Select' x _ (expr.more_of-Selection s _)) = one x.place (selection_trees s)
  expr_trees (expr.Unary' operator _ (expr.more_of-Expr a _)) = one operator.place (expr_trees a)
  expr_trees (expr.Binary' _ (expr.more_of-Expr a _) operator _ (expr.more_of-Expr b _)) =
      one (expr_start a) (also (expr_trees a) (expr_trees b))
  expr_trees (expr.Conditional' _ (expr.more_of-Expr c _) _ (expr.more_of-Expr a _) _ (expr.more_of-Expr b _)) =
      one (expr_start c) (also (expr_trees c) (also (expr_trees a) (expr_trees b)))
  expr_trees (expr.Parentheses' place _ (expr.more_of-Expr a _)) = one place (expr_trees a)
  expr_trees (expr.Concatenation' place _ parts) = one place (part_trees parts)
  expr_trees (expr.Replication' place _ (expr.more_of-Expr count _) _ parts) =
      one place (also (expr_trees count) (part_trees parts))
  expr_trees (expr.Signed' place _ (expr.more_of-Expr a _)) = one place (expr_trees a)
  expr_trees (expr.Unsigned' place _ (expr.more_of-Expr a _)) = one place (expr_trees a)

  pub selection_trees : Selection → Trees
  selection_trees (selection.Index' _ (expr.more_of-Expr a _)) = expr_trees a
  selection_trees (selection.Range' _ (expr.more_of-Expr a _) _ (expr.more_of-Expr b _)) = also (expr_trees a) (expr_trees b)
  selection_trees (selection.Up' _ (expr.more_of-Expr a _) _ (expr.more_of-Expr b _)) = also (expr_trees a) (expr_trees b)
  selection_trees (selection.Down' _ (expr.more_of-Expr a _) _ (expr.more_of-Expr b _)) = also (expr_trees a) (expr_trees b)

  pub part_trees : {m : _} → expr.Row_of-Expr m → Trees
  part_trees expr.end_of-Expr = none
  part_trees (expr.more_of-Expr a rest) = also (expr_trees a) (part_trees rest)

-- Targets of assignments: a select holds its indexes, and a concatenation its parts.
abbrev mutual
  pub target_trees : Target → Trees
  target_trees (target.Name x) = leaf x.place
  target_trees (target.Select x s) = one x.place (selection_trees s)
  target_trees (target.Concatenation' place _ parts) = one place (target_part_trees parts)

  pub target_part_trees : {m : _} → target.Row_of-Target m → Trees
  target_part_trees target.end_of-Target = none
  target_part_trees (target.more_of-Target t rest) = also (target_trees t) (target_part_trees rest)

-- the head of a loop has no node but those of its three expressions
abbrev pub head_trees : ForHead → Trees
head_trees h = also (expr_trees h.start.value) (also (expr_trees h.condition) (expr_trees h.step.value))

-- Statements and case items: a node has the place of its first token.
abbrev mutual
  pub stmt_trees : Stmt → Trees
  stmt_trees (stmt.Empty place) = leaf place
  stmt_trees (stmt.Block' place label _ body) = one place (body_trees body)
  stmt_trees (stmt.If' place condition _ (stmt.more_of-Stmt s _)) = one place (also (expr_trees condition) (stmt_trees s))
  stmt_trees (stmt.IfElse' place condition _ (stmt.more_of-Stmt s _) _ (stmt.more_of-Stmt other _)) =
      one place (also (expr_trees condition) (also (stmt_trees s) (stmt_trees other)))
  stmt_trees (stmt.Case' place kind value _ items) = one place (also (expr_trees value) (case_item_trees items))
  stmt_trees (stmt.For' place head _ (stmt.more_of-Stmt s _)) = one place (also (head_trees head) (stmt_trees s))
  stmt_trees (stmt.Assignment a) = one (target_start a.target) (also (target_trees a.target) (expr_trees a.value))

  pub body_trees : {m : _} → stmt.Row_of-Stmt m → Trees
  body_trees stmt.end_of-Stmt = none
  body_trees (stmt.more_of-Stmt s rest) = also (stmt_trees s) (body_trees rest)

  pub case_item_tree : CaseItem → Trees
  case_item_tree (case_item.Values' values _ (stmt.more_of-Stmt s _)) =
      one (values_start values (stmt_start s)) (also (all_trees expr_trees values) (stmt_trees s))
  case_item_tree (case_item.Default' place _ (stmt.more_of-Stmt s _)) = one place (stmt_trees s)

  pub case_item_trees : {m : _} → stmt.Row_of-CaseItem m → Trees
  case_item_trees stmt.end_of-CaseItem = none
  case_item_trees (stmt.more_of-CaseItem c rest) = also (case_item_tree c) (case_item_trees rest)

-- the nodes of the two bounds of a range
abbrev pub range_trees : Range → Trees
range_trees r = also (expr_trees r.high) (expr_trees r.low)

-- the same for the range of a parameter declaration
abbrev pub parameter_range_trees : ParameterRange → Trees
parameter_range_trees r = range_trees r.range

-- a name that is declared
abbrev pub declared_trees : Identifier → Trees
declared_trees x = leaf x.place

-- a declared name, which holds its value if it has one
abbrev pub declarator_trees : Declarator → Trees
declarator_trees d = one d.name.place (option_trees expr_trees d.value)

-- a parameter, which holds its value
abbrev pub parameter_trees : ParameterAssignment → Trees
parameter_trees p = one p.name.place (expr_trees p.value)

-- the range and the parameters of a declaration
abbrev pub parameters_trees : ParameterDeclaration → Trees
parameters_trees d = also (option_trees parameter_range_trees d.range) (all_trees parameter_trees d.parameters)

-- the range and the names of a port in a header
abbrev pub port_trees : Port → Trees
port_trees p = also (option_trees range_trees p.range) (all_trees declarator_trees p.names)

-- the ports that a header declares; a list of names alone has no nodes
abbrev pub header_trees : Header → Trees
header_trees header.Absent = none
header_trees header.Empty = none
header_trees (header.Names names) = none
header_trees (header.Ports ports) = all_trees port_trees ports

-- what follows the name of a register: nothing, its value, or the range of a memory
abbrev pub form_trees : RegisterForm → Trees
form_trees form.Plain = none
form_trees (form.Initialized value) = expr_trees value
form_trees (form.Memory range) = range_trees range

-- the declared name of a register, which holds what follows it
abbrev pub register_trees : Register → Trees
register_trees r = one r.name.place (form_trees r.form)

-- both sides of an assignment of `assign`
abbrev pub net_assignment_trees : NetAssignment → Trees
net_assignment_trees a = also (target_trees a.target) (expr_trees a.value)

-- a connection by position
abbrev pub ordered_trees : Expr → Trees
ordered_trees e = one (expr_start e) (expr_trees e)

-- a connection by name, which holds its expression if it has one
abbrev pub named_trees : NamedConnection → Trees
named_trees c = one c.place (option_trees expr_trees c.value)

-- the connections of an instance, or the values of the parameters of a module
abbrev pub connections_trees : Connections → Trees
connections_trees connections.Absent = none
connections_trees (connections.Ordered values) = all_trees ordered_trees values
connections_trees (connections.Named values) = all_trees named_trees values

-- an instance, which holds its connections
abbrev pub instance_trees : Instance → Trees
instance_trees i = one i.name.place (connections_trees i.connections)

-- an item: a node at its first token, which holds its parts in the order of the text
abbrev pub item_trees : Item → Trees
item_trees (item.Port d) = one d.direction.place (also (option_trees range_trees d.range) (all_trees declared_trees d.names))
item_trees (item.Net d) = one d.place (also (option_trees range_trees d.range) (all_trees declarator_trees d.nets))
item_trees (item.Reg d) = one d.place (also (option_trees range_trees d.range) (all_trees register_trees d.registers))
item_trees (item.Integer d) = one d.place (all_trees declared_trees d.names)
item_trees (item.Parameter d) = one d.place (parameters_trees d)
item_trees (item.LocalParameter d) = one d.place (parameters_trees d)
item_trees (item.Assign d) = one d.place (all_trees net_assignment_trees d.assignments)
item_trees (item.Always d) = one d.place (stmt_trees d.body)
item_trees (item.Initial place body) = one place (stmt_trees body)
item_trees (item.Instances d) =
    one d.module.place (also (option_trees connections_trees d.overrides) (all_trees instance_trees d.instances))

-- a module, which holds its parameters, its header and its items
abbrev pub module_trees : Module → Trees
module_trees m =
    one m.place (also (all_trees parameters_trees m.parameters) (also (header_trees m.header) (all_trees item_trees m.items)))

-- the file begins where its text does
abbrev pub trees_of : VTree → Trees
trees_of t = one (record { line = 1; column = 1 }) (all_trees module_trees t.modules)

-- the greatest depth of a node, where the file has the depth 1
abbrev pub height : VTree → ℕ
height t = trees.height (trees_of t)
