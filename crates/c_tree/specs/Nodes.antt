-- The nodes of a tree: the file, each external declaration, statement and group, each declared name with what belongs to
-- it, and in expressions each operator, cast, call, literal, path and pair of parentheses. The parentheses of a
-- statement's head, the `=` and the operator of an assignment and a label are no nodes.
use Rattle.c_tree.specs.declared.names.Identifier.{Identifier}
use Rattle.c_tree.specs.declared.declarations.Declarator.{Declarator}
use Rattle.c_tree.specs.declared.declarations.Declarator.TheVariants as declarator
use Rattle.c_tree.specs.declared.declarations.FunctionHead.{FunctionHead}
use Rattle.c_tree.specs.declared.declarations.Globals.{Globals}
use Rattle.c_tree.specs.declared.declarations.Initializer.{Initializer}
use Rattle.c_tree.specs.declared.declarations.Initializer.TheVariants as initializer
use Rattle.c_tree.specs.declared.declarations.Local.{Local}
use Rattle.c_tree.specs.declared.declarations.Member.{Member}
use Rattle.c_tree.specs.declared.declarations.Member.TheVariants as member
use Rattle.c_tree.specs.declared.declarations.MemberDeclarator.{MemberDeclarator}
use Rattle.c_tree.specs.declared.declarations.MemberDeclarator.TheVariants as member_declarator
use Rattle.c_tree.specs.declared.declarations.Parameter.{Parameter}
use Rattle.c_tree.specs.declared.expressions.Call.{Call}
use Rattle.c_tree.specs.declared.expressions.Expression.{Expression}
use Rattle.c_tree.specs.declared.expressions.Expression as expression
use Rattle.c_tree.specs.declared.expressions.Path.{Path}
use Rattle.c_tree.specs.declared.expressions.Path as path
use Rattle.c_tree.specs.declared.file.CTree.{CTree}
use Rattle.c_tree.specs.declared.file.External.{External}
use Rattle.c_tree.specs.declared.file.External.TheVariants as external
use Rattle.c_tree.specs.declared.statements.Block.{Block}
use Rattle.c_tree.specs.declared.statements.BlockItem.{BlockItem}
use Rattle.c_tree.specs.declared.statements.BlockItem as block_item
use Rattle.c_tree.specs.declared.statements.ForFirst.{ForFirst}
use Rattle.c_tree.specs.declared.statements.ForFirst.TheVariants as for_first
use Rattle.c_tree.specs.declared.statements.Label.{Label}
use Rattle.c_tree.specs.declared.statements.Label.TheVariants as label
use Rattle.c_tree.specs.declared.statements.Simple.{Simple}
use Rattle.c_tree.specs.declared.statements.Simple.TheVariants as simple
use Rattle.c_tree.specs.declared.statements.Statement.{Statement}
use Rattle.c_tree.specs.declared.statements.Statement as statement
use Rattle.c_tree.specs.Starts.{expression_start, simple_start, external_start, tree_start}
use Rattle.src_text.specs.Trees.{Trees, none, also, one, leaf, all_trees, option_trees}

-- the nodes of a path and of an expression
abbrev mutual
  -- a path without an index is a leaf; with one, its index stands inside it
  pub path_trees : Path → Trees
  path_trees (path.Object o) = leaf o.name.place
  path_trees (path.Element' o p _ (path.more_of-Expression e _)) = one o.name.place (expression_trees e)

  -- an operator, a cast and a pair of parentheses have their operands inside
  pub expression_trees : Expression → Trees
  expression_trees (expression.Integer p spelled) = leaf p
  expression_trees (expression.Character p value) = leaf p
  expression_trees (expression.True p) = leaf p
  expression_trees (expression.False p) = leaf p
  expression_trees (expression.Read x) = path_trees x
  expression_trees (expression.Parentheses' p _ (expression.more_of-Expression e _)) = one p (expression_trees e)
  expression_trees (expression.Unary' mark _ (expression.more_of-Expression e _)) = one mark.place (expression_trees e)
  expression_trees (expression.Cast' p ty _ (expression.more_of-Expression e _)) = one p (expression_trees e)
  expression_trees (expression.Binary' _ (expression.more_of-Expression left _) mark _ (expression.more_of-Expression right _)) = one (expression_start left) (also (expression_trees left) (expression_trees right))
  expression_trees (expression.Conditional' _ (expression.more_of-Expression condition _) p _ (expression.more_of-Expression first _) _ (expression.more_of-Expression second _)) = one (expression_start condition) (also (expression_trees condition) (also (expression_trees first) (expression_trees second)))

-- a call, and its arguments
abbrev pub call_trees : Call → Trees
call_trees call = one call.name.place (all_trees expression_trees call.arguments)

-- the nodes of an initializer: its expression, or its call
abbrev pub initializer_trees : Initializer → Trees
initializer_trees (initializer.Value e) = expression_trees e
initializer_trees (initializer.Called call) = call_trees call

-- a name that is declared
abbrev pub name_trees : Identifier → Trees
name_trees x = leaf x.place

-- a declared name, with its length and its values
abbrev pub declarator_trees : Declarator → Trees
declarator_trees (declarator.Plain x) = leaf x.place
declarator_trees (declarator.Initialized x i) = one x.place (initializer_trees i)
declarator_trees (declarator.Array x n) = one x.place (expression_trees n)
declarator_trees (declarator.InitializedArray x n es) = one x.place (also (expression_trees n) (all_trees expression_trees es))

-- the names that a declaration in a block declares
abbrev pub local_trees : Local → Trees
local_trees l = all_trees declarator_trees l.declarators

-- the nodes of an assignment, a step or a call
abbrev pub simple_trees : Simple → Trees
simple_trees (simple.Assign x i) = also (path_trees x) (initializer_trees i)
simple_trees (simple.Update x mark e) = also (path_trees x) (expression_trees e)
simple_trees (simple.StepAfter x mark) = path_trees x
simple_trees (simple.StepBefore mark x) = path_trees x
simple_trees (simple.Called call) = call_trees call

-- the nodes of a label's expression; `default` has none
abbrev pub label_trees : Label → Trees
label_trees (label.Case p e) = expression_trees e
label_trees (label.Default p) = none

-- the nodes of the first part of a `for`
abbrev pub first_trees : ForFirst → Trees
first_trees for_first.Nothing = none
first_trees (for_first.Local l) = local_trees l
first_trees (for_first.Simple s) = simple_trees s

-- the nodes of a statement, and of the lists in it
abbrev mutual
  -- a statement is a node, and its parts stand inside it
  pub statement_trees : Statement → Trees
  statement_trees (statement.Compound' p _ items) = one p (item_row items)
  statement_trees (statement.Empty p) = leaf p
  statement_trees (statement.Simple s) = one (simple_start s) (simple_trees s)
  statement_trees (statement.If' p c _ (statement.more_of-Statement s _)) = one p (also (expression_trees c) (statement_trees s))
  statement_trees (statement.IfElse' p c _ (statement.more_of-Statement s _) _ (statement.more_of-Statement t _)) = one p (also (expression_trees c) (also (statement_trees s) (statement_trees t)))
  statement_trees (statement.While' p c _ (statement.more_of-Statement s _)) = one p (also (expression_trees c) (statement_trees s))
  statement_trees (statement.Do' p _ (statement.more_of-Statement s _) c) = one p (also (statement_trees s) (expression_trees c))
  statement_trees (statement.For' p first c step _ (statement.more_of-Statement s _)) =
      one p (also (first_trees first) (also (option_trees expression_trees c) (also (option_trees simple_trees step) (statement_trees s))))
  statement_trees (statement.Switch' p e _ groups) = one p (also (expression_trees e) (group_row groups))
  statement_trees (statement.Break p) = leaf p
  statement_trees (statement.Continue p) = leaf p
  statement_trees (statement.Return p i) = one p (option_trees initializer_trees i)
  statement_trees (statement.Assert p e) = one p (expression_trees e)
  statement_trees (statement.CproverAssert p e) = one p (expression_trees e)
  statement_trees (statement.CproverAssume p e) = one p (expression_trees e)

  -- a declaration in a block has a node for each name; a statement is one
  pub item_trees : BlockItem → Trees
  item_trees (block_item.Local l) = local_trees l
  item_trees (block_item.Statement s) = statement_trees s

  -- the items of a block
  pub item_row : {m : _} → statement.Row_of-BlockItem m → Trees
  item_row statement.end_of-BlockItem = none
  item_row (statement.more_of-BlockItem x row) = also (item_trees x) (item_row row)

  -- a group is a node, with its labels and statements inside
  pub group_row : {m : _} → statement.Row_of-Group m → Trees
  group_row statement.end_of-Group = none
  group_row (statement.more_of-Group p labels _ body row) = also (one p (also (all_trees label_trees labels) (statement_row body))) (group_row row)

  -- statements, in order
  pub statement_row : {m : _} → statement.Row_of-Statement m → Trees
  statement_row statement.end_of-Statement = none
  statement_row (statement.more_of-Statement x row) = also (statement_trees x) (statement_row row)

-- the statements of a list, the groups of a switch, the parts of a block
abbrev pub block_trees : Block → Trees
block_trees b = one b.place (all_trees item_trees b.items)

-- a member's name, with its length
abbrev pub member_declarator_trees : MemberDeclarator → Trees
member_declarator_trees (member_declarator.Plain x) = leaf x.place
member_declarator_trees (member_declarator.Array x n) = one x.place (expression_trees n)

-- the names of members that one declaration declares
abbrev pub member_trees : Member → Trees
member_trees (member.Integers ty ds) = all_trees member_declarator_trees ds
member_trees (member.Structs p tag names) = all_trees name_trees names

-- a parameter's name, if it has one
abbrev pub parameter_trees : Parameter → Trees
parameter_trees x = option_trees name_trees x.name

-- the function's name, and its parameters
abbrev pub head_trees : FunctionHead → Trees
head_trees head = also (leaf head.name.place) (all_trees parameter_trees head.parameters)

-- the names that a declaration at file scope declares
abbrev pub globals_trees : Globals → Trees
globals_trees g = all_trees declarator_trees g.declarators

-- the nodes inside an external declaration
abbrev pub inside_external : External → Trees
inside_external (external.Struct p tag members) = also (leaf tag.place) (all_trees member_trees members)
inside_external (external.Mirror p tag name) = leaf name.place
inside_external (external.Bound p ty name) = leaf name.place
inside_external (external.Function head) = head_trees head
inside_external (external.Definition head body) = also (head_trees head) (block_trees body)
inside_external (external.Objects g) = globals_trees g

-- an external declaration, and the nodes inside it
abbrev pub external_trees : External → Trees
external_trees x = one (external_start x) (inside_external x)

-- the nodes of a file
abbrev pub trees_of : CTree → Trees
trees_of tree = one (tree_start tree) (all_trees external_trees tree.externals)
