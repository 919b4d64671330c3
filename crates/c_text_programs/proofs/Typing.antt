-- What the tree of a text has by its bytes is what the typing of statements asks of it.
use Rattle.std.specs.Prelude.{List, [], ◌∷◌, All, IfSome, Option, None, Some}
use Rattle.std.proofs.lemmas.List.Elements.{All-head, All-tail, All-weaker}
use Rattle.c_tree.specs.declared.declarations.Declarator.{Declarator}
use Rattle.c_tree.specs.declared.declarations.Declarator.TheVariants as declarator
use Rattle.c_tree.specs.declared.declarations.Initializer.{Initializer}
use Rattle.c_tree.specs.declared.declarations.Initializer.TheVariants as initializer
use Rattle.c_tree.specs.declared.declarations.Local.{Local}
use Rattle.c_tree.specs.declared.expressions.Expression.{Expression}
use Rattle.c_tree.specs.declared.expressions.Expression as expression
use Rattle.c_tree.specs.declared.expressions.Path.{Path}
use Rattle.c_tree.specs.declared.expressions.Path as path
use Rattle.c_tree.specs.declared.file.External.{External}
use Rattle.c_tree.specs.declared.file.External.TheVariants as external
use Rattle.c_tree.specs.declared.statements.BlockItem.{BlockItem}
use Rattle.c_tree.specs.declared.statements.BlockItem as block_item
use Rattle.c_tree.specs.declared.statements.ForFirst.{ForFirst}
use Rattle.c_tree.specs.declared.statements.ForFirst.TheVariants as for_first
use Rattle.c_tree.specs.declared.statements.Simple.{Simple}
use Rattle.c_tree.specs.declared.statements.Simple.TheVariants as simple
use Rattle.c_tree.specs.declared.statements.Statement.{Statement}
use Rattle.c_tree.specs.declared.statements.Statement as statement
use Rattle.c_meaning.specs.Sound as typed
use Rattle.c_statement_laws.specs.Agreeing as typed_statements
use Rattle.c_program_laws.specs.Laws as typed_files
use Rattle.c_text_laws.specs.Bytes.{DeclaratorBytes, ExpressionBytes, ExternalBytes, FirstBytes, GroupRow, InitializerBytes, ItemBytes, ItemRow, LocalBytes, PathBytes, SimpleBytes, StatementBytes, StatementRow}

mutual
  path_bytes : (x : Path) → PathBytes x → typed.PathBytes x
  path_bytes (path.Object o) h = tt
  path_bytes (path.Element' o p _ (path.more_of-Expression e _)) h = bytes e h

  bytes : (e : Expression) → ExpressionBytes e → typed.AreBytes e
  bytes (expression.Integer p spelled) h = tt
  bytes (expression.Character p value) h = h
  bytes (expression.True p) h = tt
  bytes (expression.False p) h = tt
  bytes (expression.Read x) h = path_bytes x h
  bytes (expression.Parentheses' p _ (expression.more_of-Expression e _)) h = bytes e h
  bytes (expression.Unary' mark _ (expression.more_of-Expression e _)) h = bytes e h
  bytes (expression.Cast' p ty _ (expression.more_of-Expression e _)) h = bytes e h
  bytes (expression.Binary' _ (expression.more_of-Expression left _) mark _ (expression.more_of-Expression right _)) h = (bytes left h.0, bytes right h.1)
  bytes (expression.Conditional' _ (expression.more_of-Expression condition _) p _ (expression.more_of-Expression first _) _ (expression.more_of-Expression second _)) h =
      (bytes condition h.0, bytes first h.1, bytes second h.2)

all_bytes : (es : List Expression) → All ExpressionBytes es → typed_statements.AllBytes es
all_bytes [] h = tt
all_bytes (e ∷ es) h = (bytes e (All-head ExpressionBytes e es h), all_bytes es (All-tail ExpressionBytes e es h))

init_bytes : (i : Initializer) → InitializerBytes i → typed_statements.InitBytes i
init_bytes (initializer.Value e) h = bytes e h
init_bytes (initializer.Called call) h = all_bytes call.arguments h

declarator_bytes : (d : Declarator) → DeclaratorBytes d → typed_statements.DeclaratorBytes d
declarator_bytes (declarator.Plain x) h = tt
declarator_bytes (declarator.Initialized x i) h = init_bytes i h
declarator_bytes (declarator.Array x n) h = tt
declarator_bytes (declarator.InitializedArray x n es) h = all_bytes es h.1

local_bytes : (l : Local) → LocalBytes l → typed_statements.LocalBytes l
local_bytes l h = All-weaker DeclaratorBytes typed_statements.DeclaratorBytes declarator_bytes l.declarators h

simple_bytes : (s : Simple) → SimpleBytes s → typed_statements.SimpleBytes s
simple_bytes (simple.Assign x i) h = (path_bytes x h.0, init_bytes i h.1)
simple_bytes (simple.Update x mark e) h = (path_bytes x h.0, bytes e h.1)
simple_bytes (simple.StepAfter x mark) h = path_bytes x h
simple_bytes (simple.StepBefore mark x) h = path_bytes x h
simple_bytes (simple.Called call) h = all_bytes call.arguments h

first_bytes : (f : ForFirst) → FirstBytes f → typed_statements.FirstBytes f
first_bytes for_first.Nothing h = tt
first_bytes (for_first.Local l) h = local_bytes l h
first_bytes (for_first.Simple s) h = simple_bytes s h

option_bytes : (o : Option Expression) → IfSome o ExpressionBytes → typed_statements.OptionBytes o
option_bytes None h = tt
option_bytes (Some e) h = bytes e h

option_init_bytes : (o : Option Initializer) → IfSome o InitializerBytes → typed_statements.OptionInitBytes o
option_init_bytes None h = tt
option_init_bytes (Some i) h = init_bytes i h

step_bytes : (o : Option Simple) → IfSome o SimpleBytes → typed_statements.StepBytes o
step_bytes None h = tt
step_bytes (Some s) h = simple_bytes s h

mutual
  statement_bytes : (s : Statement) → StatementBytes s → typed_statements.StatementBytes s
  statement_bytes (statement.Compound' p _ items) h = items_bytes items h
  statement_bytes (statement.Empty p) h = tt
  statement_bytes (statement.Simple s) h = simple_bytes s h
  statement_bytes (statement.If' p c _ (statement.more_of-Statement s _)) h = (bytes c h.0, statement_bytes s h.1)
  statement_bytes (statement.IfElse' p c _ (statement.more_of-Statement s _) _ (statement.more_of-Statement t _)) h = (bytes c h.0, statement_bytes s h.1, statement_bytes t h.2)
  statement_bytes (statement.While' p c _ (statement.more_of-Statement s _)) h = (bytes c h.0, statement_bytes s h.1)
  statement_bytes (statement.Do' p _ (statement.more_of-Statement s _) c) h = (bytes c h.1, statement_bytes s h.0)
  statement_bytes (statement.For' p first c step _ (statement.more_of-Statement s _)) h = (first_bytes first h.0, option_bytes c h.1, step_bytes step h.2, statement_bytes s h.3)
  statement_bytes (statement.Switch' p e _ groups) h = (bytes e h.0, groups_bytes groups h.1)
  statement_bytes (statement.Break p) h = tt
  statement_bytes (statement.Continue p) h = tt
  statement_bytes (statement.Return p i) h = option_init_bytes i h
  statement_bytes (statement.Assert p e) h = bytes e h
  statement_bytes (statement.CproverAssert p e) h = bytes e h
  statement_bytes (statement.CproverAssume p e) h = bytes e h

  item_bytes : (x : BlockItem) → ItemBytes x → typed_statements.ItemBytes x
  item_bytes (block_item.Local l) h = local_bytes l h
  item_bytes (block_item.Statement s) h = statement_bytes s h

  items_bytes : {m : _} (row : statement.Row_of-BlockItem m) → ItemRow row → typed_statements.RowBytes row
  items_bytes statement.end_of-BlockItem h = tt
  items_bytes (statement.more_of-BlockItem x row) h = (item_bytes x h.0, items_bytes row h.1)

  groups_bytes : {m : _} (row : statement.Row_of-Group m) → GroupRow row → typed_statements.GroupsBytes row
  groups_bytes statement.end_of-Group h = tt
  groups_bytes (statement.more_of-Group p labels _ body row) h = (h.0, statements_bytes body h.2, groups_bytes row h.3)

  statements_bytes : {m : _} (row : statement.Row_of-Statement m) → StatementRow row → typed_statements.StmtsBytes row
  statements_bytes statement.end_of-Statement h = tt
  statements_bytes (statement.more_of-Statement x row) h = (statement_bytes x h.0, statements_bytes row h.1)

pub external_bytes : (x : External) → ExternalBytes x → typed_files.ExternalBytes x
external_bytes (external.Struct p tag members) h = tt
external_bytes (external.Mirror p tag x) h = tt
external_bytes (external.Bound p ty x) h = tt
external_bytes (external.Function head) h = tt
external_bytes (external.Definition head body) h = All-weaker ItemBytes typed_statements.ItemBytes item_bytes body.items h
external_bytes (external.Objects g) h = tt
