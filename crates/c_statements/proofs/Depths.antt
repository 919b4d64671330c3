-- A statement leaves as many scopes as there were.
use Rattle.std.proofs.Common.{◌≡◌, ℕ, suc, List, [], ◌∷◌, length, refl, ◌∙◌, arith}
use Rattle.std.specs.Prelude.{Bool}
use Rattle.c_tree.specs.declared.declarations.Declarator.{Declarator}
use Rattle.c_tree.specs.declared.statements.BlockItem.{BlockItem}
use Rattle.c_tree.specs.declared.statements.BlockItem as block_item
use Rattle.c_tree.specs.declared.statements.Group.{Group}
use Rattle.c_tree.specs.declared.statements.ForFirst.{ForFirst}
use Rattle.c_tree.specs.declared.statements.ForFirst.TheVariants as for_first
use Rattle.c_tree.specs.declared.statements.Statement.{Statement}
use Rattle.c_tree.specs.declared.statements.Statement as statement
use Rattle.joint_ir.specs.declared.ctype.IntType.{IntType}
use Rattle.joint_ir.specs.declared.program.PropKind.TheVariants as kind
use Rattle.c_words.specs.Types.{named}
use Rattle.c_names.specs.declared.scope.Entry.{Entry}
use Rattle.c_names.specs.declared.scope.Entry.TheVariants as entry
use Rattle.c_names.specs.Scope.{Scope, declare, leave}
use Rattle.c_statements.specs.Arrays.{declared_length}
use Rattle.c_statements.specs.Known.{Known, enter}
use Rattle.c_statements.specs.Statements.{is_some, declared_name, pending, local_entry, declarator_known, declarators_known, first_known, after_expression, own, at_body, known_after, known_after_item, known_after_row, known_after_groups, known_after_stmts, items_known, statements_known, cases_known}

abbrev depth : Known → ℕ
depth k = length k.scopes

declare_length : (env : List Scope) (n : List ℕ) (e : Entry) → length (declare env n e) ≡ length env
declare_length [] n e = refl
declare_length (s ∷ env) n e = refl

leave_length : (env : List Scope) (n : ℕ) → length env ≡ suc n → length (leave env) ≡ n
leave_length [] n h = cc
leave_length (s ∷ env) n h = omega (arith, h)

declarators_depth : (t : IntType) (c : Bool) (ds : List Declarator) (k : Known) → depth (declarators_known t c ds k) ≡ depth k
declarators_depth t c [] k = refl
declarators_depth t c (d ∷ ds) k =
    declarators_depth t c ds (declarator_known t c d k)
    ∙ declare_length (pending k (declared_name d)) (declared_name d).name (local_entry (length k.locals) t (declared_length d) c)
    ∙ declare_length k.scopes (declared_name d).name entry.Pending

pub first_depth : (f : ForFirst) (k : Known) → depth (first_known f k) ≡ depth k
first_depth for_first.Nothing k = refl
first_depth (for_first.Local l) k = declarators_depth (named l.type_name.integer) (is_some l.constant) l.declarators k
first_depth (for_first.Simple s) k = refl

mutual
  pub statement_depth : (s : Statement) (k : Known) → depth (known_after s k) ≡ depth k
  statement_depth (statement.Compound' p _ items) k = leave_length (known_after_row items (enter k)).scopes (depth k) (row_depth items (enter k))
  statement_depth (statement.Empty p) k = refl
  statement_depth (statement.Simple s) k = refl
  statement_depth (statement.If' p c _ (statement.more_of-Statement s _)) k = statement_depth s (after_expression c k)
  statement_depth (statement.IfElse' p c _ (statement.more_of-Statement s _) _ (statement.more_of-Statement t _)) k =
      statement_depth t (known_after s (after_expression c k)) ∙ statement_depth s (after_expression c k)
  statement_depth (statement.While' p c _ (statement.more_of-Statement s _)) k = statement_depth s (after_expression c (own kind.Unwind p k))
  statement_depth (statement.Do' p _ (statement.more_of-Statement s _) c) k = statement_depth s (own kind.Unwind p k)
  statement_depth (statement.For' p first c step _ (statement.more_of-Statement s _)) k =
      leave_length (known_after s (at_body p first c step k)).scopes (depth k) (statement_depth s (at_body p first c step k) ∙ first_depth first (own kind.Unwind p (enter k)))
  statement_depth (statement.Switch' p e _ groups) k = groups_depth groups (after_expression e k)
  statement_depth (statement.Break p) k = refl
  statement_depth (statement.Continue p) k = refl
  statement_depth (statement.Return p i) k = refl
  statement_depth (statement.Assert p e) k = refl
  statement_depth (statement.CproverAssert p e) k = refl
  statement_depth (statement.CproverAssume p e) k = refl

  groups_depth : {m : _} (row : statement.Row_of-Group m) (k : Known) → depth (known_after_groups row k) ≡ depth k
  groups_depth statement.end_of-Group k = refl
  groups_depth (statement.more_of-Group p labels _ body row) k = groups_depth row (known_after_stmts body k) ∙ stmts_depth body k

  stmts_depth : {m : _} (row : statement.Row_of-Statement m) (k : Known) → depth (known_after_stmts row k) ≡ depth k
  stmts_depth statement.end_of-Statement k = refl
  stmts_depth (statement.more_of-Statement x row) k = stmts_depth row (known_after x k) ∙ statement_depth x k

  pub item_depth : (x : BlockItem) (k : Known) → depth (known_after_item x k) ≡ depth k
  item_depth (block_item.Local l) k = declarators_depth (named l.type_name.integer) (is_some l.constant) l.declarators k
  item_depth (block_item.Statement s) k = statement_depth s k

  row_depth : {m : _} (row : statement.Row_of-BlockItem m) (k : Known) → depth (known_after_row row k) ≡ depth k
  row_depth statement.end_of-BlockItem k = refl
  row_depth (statement.more_of-BlockItem x row) k = row_depth row (known_after_item x k) ∙ item_depth x k

pub items_depth : (xs : List BlockItem) (k : Known) → depth (items_known xs k) ≡ depth k
items_depth [] k = refl
items_depth (x ∷ xs) k = items_depth xs (known_after_item x k) ∙ item_depth x k

pub statements_depth : (xs : List Statement) (k : Known) → depth (statements_known xs k) ≡ depth k
statements_depth [] k = refl
statements_depth (x ∷ xs) k = statements_depth xs (known_after x k) ∙ statement_depth x k

pub cases_depth : (gs : List Group) (k : Known) → depth (cases_known gs k) ≡ depth k
cases_depth [] k = refl
cases_depth (g ∷ gs) k = cases_depth gs (statements_known g.body k) ∙ statements_depth g.body k
