-- The place of the first token of each part of a tree that has one.
use Rattle.std.specs.Prelude.{List, [], ◌∷◌, unwrap_or}
use Rattle.src_text.specs.declared.refusal.Place.{Place}
use Rattle.c_tree.specs.declared.declarations.Declarator.{Declarator}
use Rattle.c_tree.specs.declared.declarations.Declarator.TheVariants as declarator
use Rattle.c_tree.specs.declared.declarations.FunctionHead.{FunctionHead}
use Rattle.c_tree.specs.declared.declarations.Globals.{Globals}
use Rattle.c_tree.specs.declared.declarations.Initializer.{Initializer}
use Rattle.c_tree.specs.declared.declarations.Initializer.TheVariants as initializer
use Rattle.c_tree.specs.declared.declarations.Local.{Local}
use Rattle.c_tree.specs.declared.declarations.Member.{Member}
use Rattle.c_tree.specs.declared.declarations.Member.TheVariants as member
use Rattle.c_tree.specs.declared.declarations.MemberDeclarator.{MemberDeclarator}
use Rattle.c_tree.specs.declared.declarations.MemberDeclarator.TheVariants as member_declarator
use Rattle.c_tree.specs.declared.declarations.Parameter.{Parameter}
use Rattle.c_tree.specs.declared.declarations.ResultType.{ResultType}
use Rattle.c_tree.specs.declared.declarations.ResultType.TheVariants as result_type
use Rattle.c_tree.specs.declared.declarations.Storage.{Storage}
use Rattle.c_tree.specs.declared.declarations.Storage.TheVariants as storage
use Rattle.c_tree.specs.declared.expressions.Call.{Call}
use Rattle.c_tree.specs.declared.expressions.Expression.{Expression}
use Rattle.c_tree.specs.declared.expressions.Expression as expression
use Rattle.c_tree.specs.declared.expressions.Object.{Object}
use Rattle.c_tree.specs.declared.expressions.Path.{Path}
use Rattle.c_tree.specs.declared.expressions.Path as path
use Rattle.c_tree.specs.declared.file.CTree.{CTree}
use Rattle.c_tree.specs.declared.file.External.{External}
use Rattle.c_tree.specs.declared.file.External.TheVariants as external
use Rattle.c_tree.specs.declared.statements.Label.{Label}
use Rattle.c_tree.specs.declared.statements.Label.TheVariants as label
use Rattle.c_tree.specs.declared.statements.Simple.{Simple}
use Rattle.c_tree.specs.declared.statements.Simple.TheVariants as simple
use Rattle.c_tree.specs.declared.statements.Statement.{Statement}
use Rattle.c_tree.specs.declared.statements.Statement as statement

-- an object starts with its name
abbrev pub object_start : Object → Place
object_start o = o.name.place

-- a path starts with its object
abbrev pub path_start : Path → Place
path_start (path.Object o) = object_start o
path_start (path.Element' o p _ (path.more_of-Expression e _)) = object_start o

-- an expression starts with its first operand, with an operator that stands before it, or with a parenthesis
abbrev pub expression_start : Expression → Place
expression_start (expression.Integer p spelled) = p
expression_start (expression.Character p value) = p
expression_start (expression.True p) = p
expression_start (expression.False p) = p
expression_start (expression.Read x) = path_start x
expression_start (expression.Parentheses' p _ (expression.more_of-Expression e _)) = p
expression_start (expression.Unary' mark _ (expression.more_of-Expression e _)) = mark.place
expression_start (expression.Cast' p ty _ (expression.more_of-Expression e _)) = p
expression_start (expression.Binary' _ (expression.more_of-Expression left _) mark _ (expression.more_of-Expression right _)) = expression_start left
expression_start (expression.Conditional' _ (expression.more_of-Expression condition _) p _ (expression.more_of-Expression first _) _ (expression.more_of-Expression second _)) = expression_start condition

-- a call starts with the function's name
abbrev pub call_start : Call → Place
call_start call = call.name.place

-- an initializer starts with its expression or its call
abbrev pub initializer_start : Initializer → Place
initializer_start (initializer.Value e) = expression_start e
initializer_start (initializer.Called call) = call_start call

-- a declarator starts with the name that it declares
abbrev pub declarator_start : Declarator → Place
declarator_start (declarator.Plain x) = x.place
declarator_start (declarator.Initialized x i) = x.place
declarator_start (declarator.Array x n) = x.place
declarator_start (declarator.InitializedArray x n es) = x.place

-- a declaration in a block starts with `const`, or else with its type
abbrev pub local_start : Local → Place
local_start l = unwrap_or l.constant l.type_name.place

-- a member's declarator starts with its name
abbrev pub member_declarator_start : MemberDeclarator → Place
member_declarator_start (member_declarator.Plain x) = x.place
member_declarator_start (member_declarator.Array x n) = x.place

-- a declaration of members starts with its type, or with `struct`
abbrev pub member_start : Member → Place
member_start (member.Integers ty ds) = ty.place
member_start (member.Structs p tag names) = p

-- a parameter starts with `const`, or else with its type
abbrev pub parameter_start : Parameter → Place
parameter_start x = unwrap_or x.constant x.type_name.place

-- the result of a function starts with `void`, or with its type
abbrev pub result_start : ResultType → Place
result_start (result_type.Void p) = p
result_start (result_type.Integer ty) = ty.place

-- the place of a storage class, or else of what follows it
abbrev pub storage_start : Storage → Place → Place
storage_start storage.Unspecified next = next
storage_start (storage.Extern p) next = p
storage_start (storage.Static p) next = p

-- a function starts with its storage class, or else with its result
abbrev pub head_start : FunctionHead → Place
head_start head = storage_start head.storage (result_start head.result)

-- a declaration at file scope starts with its storage class, then `const`, then its type: with the first that it has
abbrev pub globals_start : Globals → Place
globals_start g = storage_start g.storage (unwrap_or g.constant g.type_name.place)

-- an assignment, a step or a call starts with its path, an operator before it, or a function's name
abbrev pub simple_start : Simple → Place
simple_start (simple.Assign x i) = path_start x
simple_start (simple.Update x mark e) = path_start x
simple_start (simple.StepAfter x mark) = path_start x
simple_start (simple.StepBefore mark x) = mark.place
simple_start (simple.Called call) = call_start call

-- a label starts with `case` or `default`
abbrev pub label_start : Label → Place
label_start (label.Case p e) = p
label_start (label.Default p) = p

-- a statement starts with its keyword, brace or semicolon, or as its assignment, step or call does
abbrev pub statement_start : Statement → Place
statement_start (statement.Compound' p _ items) = p
statement_start (statement.Empty p) = p
statement_start (statement.Simple s) = simple_start s
statement_start (statement.If' p c _ (statement.more_of-Statement s _)) = p
statement_start (statement.IfElse' p c _ (statement.more_of-Statement s _) _ (statement.more_of-Statement t _)) = p
statement_start (statement.While' p c _ (statement.more_of-Statement s _)) = p
statement_start (statement.Do' p _ (statement.more_of-Statement s _) c) = p
statement_start (statement.For' p first c step _ (statement.more_of-Statement s _)) = p
statement_start (statement.Switch' p e _ groups) = p
statement_start (statement.Break p) = p
statement_start (statement.Continue p) = p
statement_start (statement.Return p i) = p
statement_start (statement.Assert p e) = p
statement_start (statement.CproverAssert p e) = p
statement_start (statement.CproverAssume p e) = p

-- an external declaration starts with its first word
abbrev pub external_start : External → Place
external_start (external.Struct p tag members) = p
external_start (external.Mirror p tag name) = p
external_start (external.Bound p ty name) = p
external_start (external.Function head) = head_start head
external_start (external.Definition head body) = head_start head
external_start (external.Objects g) = globals_start g

-- a file without tokens starts at its end
abbrev pub first_start : List External → Place → Place
first_start [] end = end
first_start (x ∷ xs) end = external_start x

-- a file starts with its first external declaration
abbrev pub tree_start : CTree → Place
tree_start tree = first_start tree.externals tree.end
