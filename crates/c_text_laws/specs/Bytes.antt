-- Where each character constant in a tree is a byte (C99 6.4.4.4), and each group of a `switch` has a label.
use Rattle.std.specs.Prelude.{ℕ, ◌<◌, length, All, IfSome}
use Rattle.c_tree.specs.declared.declarations.Declarator.{Declarator}
use Rattle.c_tree.specs.declared.declarations.Declarator.TheVariants as declarator
use Rattle.c_tree.specs.declared.declarations.Initializer.{Initializer}
use Rattle.c_tree.specs.declared.declarations.Initializer.TheVariants as initializer
use Rattle.c_tree.specs.declared.declarations.Local.{Local}
use Rattle.c_tree.specs.declared.declarations.Member.{Member}
use Rattle.c_tree.specs.declared.declarations.Member.TheVariants as member
use Rattle.c_tree.specs.declared.declarations.MemberDeclarator.{MemberDeclarator}
use Rattle.c_tree.specs.declared.declarations.MemberDeclarator.TheVariants as member_declarator
use Rattle.c_tree.specs.declared.expressions.Call.{Call}
use Rattle.c_tree.specs.declared.expressions.Expression.{Expression}
use Rattle.c_tree.specs.declared.expressions.Expression as expression
use Rattle.c_tree.specs.declared.expressions.Path.{Path}
use Rattle.c_tree.specs.declared.expressions.Path as path
use Rattle.c_tree.specs.declared.file.CTree.{CTree}
use Rattle.c_tree.specs.declared.file.External.{External}
use Rattle.c_tree.specs.declared.file.External.TheVariants as external
use Rattle.c_tree.specs.declared.statements.BlockItem.{BlockItem}
use Rattle.c_tree.specs.declared.statements.BlockItem as block_item
use Rattle.c_tree.specs.declared.statements.ForFirst.{ForFirst}
use Rattle.c_tree.specs.declared.statements.ForFirst.TheVariants as for_first
use Rattle.c_tree.specs.declared.statements.Label.{Label}
use Rattle.c_tree.specs.declared.statements.Label.TheVariants as label
use Rattle.c_tree.specs.declared.statements.Simple.{Simple}
use Rattle.c_tree.specs.declared.statements.Simple.TheVariants as simple
use Rattle.c_tree.specs.declared.statements.Statement.{Statement}
use Rattle.c_tree.specs.declared.statements.Statement as statement

-- a byte
abbrev pub IsByte : ℕ → Type 0
IsByte n = n < 256

abbrev mutual
  -- in the index of a path
  pub PathBytes : Path → Type 0
  PathBytes (path.Object o) = Unit {0}
  PathBytes (path.Element' o p _ (path.more_of-Expression e _)) = ExpressionBytes e

  -- in an expression
  pub ExpressionBytes : Expression → Type 0
  ExpressionBytes (expression.Integer p spelled) = Unit {0}
  ExpressionBytes (expression.Character p value) = IsByte value
  ExpressionBytes (expression.True p) = Unit {0}
  ExpressionBytes (expression.False p) = Unit {0}
  ExpressionBytes (expression.Read x) = PathBytes x
  ExpressionBytes (expression.Parentheses' p _ (expression.more_of-Expression e _)) = ExpressionBytes e
  ExpressionBytes (expression.Unary' mark _ (expression.more_of-Expression e _)) = ExpressionBytes e
  ExpressionBytes (expression.Cast' p ty _ (expression.more_of-Expression e _)) = ExpressionBytes e
  ExpressionBytes (expression.Binary' _ (expression.more_of-Expression left _) mark _ (expression.more_of-Expression right _)) = ExpressionBytes left × ExpressionBytes right
  ExpressionBytes (expression.Conditional' _ (expression.more_of-Expression condition _) p _ (expression.more_of-Expression first _) _ (expression.more_of-Expression second _)) =
      ExpressionBytes condition × ExpressionBytes first × ExpressionBytes second

-- in the arguments of a call
abbrev pub CallBytes : Call → Type 0
CallBytes call = All ExpressionBytes call.arguments

-- in what an object is set to
abbrev pub InitializerBytes : Initializer → Type 0
InitializerBytes (initializer.Value e) = ExpressionBytes e
InitializerBytes (initializer.Called call) = CallBytes call

-- in the length of an object, and in what it is set to
abbrev pub DeclaratorBytes : Declarator → Type 0
DeclaratorBytes (declarator.Plain x) = Unit {0}
DeclaratorBytes (declarator.Initialized x i) = InitializerBytes i
DeclaratorBytes (declarator.Array x n) = ExpressionBytes n
DeclaratorBytes (declarator.InitializedArray x n es) = ExpressionBytes n × All ExpressionBytes es

-- in a declaration in a block
abbrev pub LocalBytes : Local → Type 0
LocalBytes l = All DeclaratorBytes l.declarators

-- in an assignment, an update or a call
abbrev pub SimpleBytes : Simple → Type 0
SimpleBytes (simple.Assign x i) = PathBytes x × InitializerBytes i
SimpleBytes (simple.Update x mark e) = PathBytes x × ExpressionBytes e
SimpleBytes (simple.StepAfter x mark) = PathBytes x
SimpleBytes (simple.StepBefore mark x) = PathBytes x
SimpleBytes (simple.Called call) = CallBytes call

-- in a label
abbrev pub LabelBytes : Label → Type 0
LabelBytes (label.Case p e) = ExpressionBytes e
LabelBytes (label.Default p) = Unit {0}

-- in the first part of a `for`
abbrev pub FirstBytes : ForFirst → Type 0
FirstBytes for_first.Nothing = Unit {0}
FirstBytes (for_first.Local l) = LocalBytes l
FirstBytes (for_first.Simple s) = SimpleBytes s

abbrev mutual
  -- in a statement, and in all that stands in it
  pub StatementBytes : Statement → Type 0
  StatementBytes (statement.Compound' p _ items) = ItemRow items
  StatementBytes (statement.Empty p) = Unit {0}
  StatementBytes (statement.Simple s) = SimpleBytes s
  StatementBytes (statement.If' p c _ (statement.more_of-Statement s _)) = ExpressionBytes c × StatementBytes s
  StatementBytes (statement.IfElse' p c _ (statement.more_of-Statement s _) _ (statement.more_of-Statement t _)) = ExpressionBytes c × StatementBytes s × StatementBytes t
  StatementBytes (statement.While' p c _ (statement.more_of-Statement s _)) = ExpressionBytes c × StatementBytes s
  StatementBytes (statement.Do' p _ (statement.more_of-Statement s _) c) = StatementBytes s × ExpressionBytes c
  StatementBytes (statement.For' p first c step _ (statement.more_of-Statement s _)) = FirstBytes first × IfSome c ExpressionBytes × IfSome step SimpleBytes × StatementBytes s
  StatementBytes (statement.Switch' p e _ groups) = ExpressionBytes e × GroupRow groups
  StatementBytes (statement.Break p) = Unit {0}
  StatementBytes (statement.Continue p) = Unit {0}
  StatementBytes (statement.Return p i) = IfSome i InitializerBytes
  StatementBytes (statement.Assert p e) = ExpressionBytes e
  StatementBytes (statement.CproverAssert p e) = ExpressionBytes e
  StatementBytes (statement.CproverAssume p e) = ExpressionBytes e

  -- in a declaration or a statement of a block
  pub ItemBytes : BlockItem → Type 0
  ItemBytes (block_item.Local l) = LocalBytes l
  ItemBytes (block_item.Statement s) = StatementBytes s

  -- in the items of a block
  pub ItemRow : {m : _} → statement.Row_of-BlockItem m → Type 0
  ItemRow statement.end_of-BlockItem = Unit {0}
  ItemRow (statement.more_of-BlockItem x row) = ItemBytes x × ItemRow row

  -- in the groups of a `switch`, each of which has a label
  pub GroupRow : {m : _} → statement.Row_of-Group m → Type 0
  GroupRow statement.end_of-Group = Unit {0}
  GroupRow (statement.more_of-Group p labels _ body row) = (0 < length labels) × All LabelBytes labels × StatementRow body × GroupRow row

  -- in statements
  pub StatementRow : {m : _} → statement.Row_of-Statement m → Type 0
  StatementRow statement.end_of-Statement = Unit {0}
  StatementRow (statement.more_of-Statement x row) = StatementBytes x × StatementRow row

-- in the length of a member
abbrev pub MemberDeclaratorBytes : MemberDeclarator → Type 0
MemberDeclaratorBytes (member_declarator.Plain x) = Unit {0}
MemberDeclaratorBytes (member_declarator.Array x n) = ExpressionBytes n

-- in the members that a declaration declares
abbrev pub MemberBytes : Member → Type 0
MemberBytes (member.Integers ty ds) = All MemberDeclaratorBytes ds
MemberBytes (member.Structs p tag names) = Unit {0}

-- in an external declaration
abbrev pub ExternalBytes : External → Type 0
ExternalBytes (external.Struct p tag members) = All MemberBytes members
ExternalBytes (external.Mirror p tag x) = Unit {0}
ExternalBytes (external.Bound p ty x) = Unit {0}
ExternalBytes (external.Function head) = Unit {0}
ExternalBytes (external.Definition head body) = All ItemBytes body.items
ExternalBytes (external.Objects g) = All DeclaratorBytes g.declarators

-- in a file
abbrev pub TreeBytes : CTree → Type 0
TreeBytes tree = All ExternalBytes tree.externals
