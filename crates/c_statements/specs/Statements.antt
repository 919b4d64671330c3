-- Statements: what they declare, their offences, the properties in them, and their typed form (C99 6.8).
use Rattle.std.specs.Prelude.{ℕ, List, [], ◌∷◌, ◌++◌, length, Option, Some, None, Bool, true, false, if◌then◌else◌}
use Rattle.src_text.specs.declared.refusal.Place.{Place}
use Rattle.src_text.specs.declared.kind.Kind.TheVariants.{CRedeclared, CReturn, CJump}
use Rattle.c_tree.specs.declared.names.Identifier.{Identifier}
use Rattle.c_tree.specs.declared.declarations.Declarator.{Declarator}
use Rattle.c_tree.specs.declared.declarations.Declarator.TheVariants as declarator
use Rattle.c_tree.specs.declared.declarations.Initializer.{Initializer}
use Rattle.c_tree.specs.declared.declarations.Local.{Local}
use Rattle.c_tree.specs.declared.expressions.Expression.{Expression}
use Rattle.c_tree.specs.declared.statements.BlockItem.{BlockItem}
use Rattle.c_tree.specs.declared.statements.BlockItem as block_item
use Rattle.c_tree.specs.declared.statements.Group.{Group}
use Rattle.c_tree.specs.declared.statements.ForFirst.{ForFirst}
use Rattle.c_tree.specs.declared.statements.ForFirst.TheVariants as for_first
use Rattle.c_tree.specs.declared.statements.Simple.{Simple}
use Rattle.c_tree.specs.declared.statements.Statement.{Statement}
use Rattle.c_tree.specs.declared.statements.Statement as statement
use Rattle.c_tree.specs.Starts.{simple_start}
use Rattle.joint_ir.specs.declared.ctype.IntType.{IntType}
use Rattle.joint_ir.specs.declared.expr.Slot.TheVariants.{Local as InLocals}
use Rattle.joint_ir.specs.declared.expr.TExpr.{TExpr}
use Rattle.joint_ir.specs.declared.program.PropId.{PropId}
use Rattle.joint_ir.specs.declared.program.PropKind.{PropKind}
use Rattle.joint_ir.specs.declared.program.PropKind.TheVariants as kind
use Rattle.joint_ir.specs.declared.program.Var.{Var}
use Rattle.joint_ir.specs.declared.stmt.SNode.{SNode, Block, Declare, If, Loop, Switch, Break, Continue, Return, Assert, Assume}
use Rattle.joint_ir.specs.declared.stmt.Group.{Group as TGroup, roll-Group}
use Rattle.joint_ir.specs.declared.stmt.Label.{Label as TLabel}
use Rattle.joint_ir.specs.declared.stmt.TInit.{TInit}
use Rattle.joint_ir.specs.declared.stmt.TInit.TheVariants as init
use Rattle.joint_ir.specs.declared.stmt.TLoop.{roll-TLoop}
use Rattle.joint_ir.specs.declared.stmt.TStmt.{TStmt}
use Rattle.offence_order.specs.declared.Offence.{Offence}
use Rattle.c_words.specs.declared.notes.Site.{Site}
use Rattle.offence_order.specs.Order.{at}
use Rattle.c_words.specs.Types.{named, promoted}
use Rattle.c_words.specs.Marks.{number_of}
use Rattle.c_names.specs.declared.scope.Entry.{Entry}
use Rattle.c_names.specs.declared.scope.Entry.TheVariants as entry
use Rattle.c_names.specs.Scope.{Scope, declare, declared_in}
use Rattle.c_expressions.specs.Expressions.{type_of, typed_of, offences_in, sites_in, type_or_int, converted_to}
use Rattle.c_statements.specs.declared.calls.Signature.{Signature}
use Rattle.c_statements.specs.declared.walk.Around.{Around}
use Rattle.c_statements.specs.Calls.{init_offences, init_sites, init_typed, args_offences, args_sites}
use Rattle.c_statements.specs.Arrays.{declared_length, length_offences, elements_typed}
use Rattle.c_statements.specs.Switches.{labels_typed, labels_offences}
use Rattle.c_statements.specs.Simple.{simple_offences, simple_sites, simple_typed}
use Rattle.c_statements.specs.Known.{Known, with_scopes, enter, leave_scope, more}

-- there is one
abbrev pub is_some : {A : Type 0} → Option A → Bool
is_some None = false
is_some (Some x) = true

-- a name may be declared once in a scope (C99 6.7p3)
abbrev pub again_offences : Place → Option Entry → List Offence
again_offences p None = []
again_offences p (Some e) = at p CRedeclared

-- the name that a declarator declares
abbrev pub declared_name : Declarator → Identifier
declared_name (declarator.Plain x) = x
declared_name (declarator.Initialized x i) = x
declared_name (declarator.Array x n) = x
declared_name (declarator.InitializedArray x n es) = x

-- what a value offends, if there is one
abbrev pub option_init_offences : List Signature → List Scope → Option Initializer → List Offence
option_init_offences fns env None = []
option_init_offences fns env (Some i) = init_offences fns env i

-- the properties of a value, if there is one
abbrev pub option_init_sites : List Scope → Option Initializer → List Site
option_init_sites env None = []
option_init_sites env (Some i) = init_sites env i

-- the value that is stored; without one the object's value is left open (C99 6.7.8p10)
abbrev pub option_init_typed : List Signature → List Scope → (base : ℕ) → IntType → Option Initializer → TInit
option_init_typed fns env base t None = init.Free
option_init_typed fns env base t (Some i) = init_typed fns env base t i

-- in its own initializer a name is declared and means nothing
abbrev pub pending : Known → Identifier → List Scope
pending k x = declare k.scopes x.name entry.Pending

-- an automatic variable
abbrev pub var_of : IntType → (length : ℕ) → (constant : Bool) → Identifier → Var
var_of t n constant x = record { name = x.name; ty = t; length = n; firsts = []; constant = constant }

-- what the name of the i-th local means
abbrev pub local_entry : ℕ → IntType → (length : ℕ) → (constant : Bool) → Entry
local_entry i t n constant = entry.Object (record { slot = InLocals (number_of i); ty = t; length = n; constant = constant })

-- with the object of a name
abbrev pub with_local : Known → IntType → (length : ℕ) → (constant : Bool) → Identifier → Known
with_local k t n constant x = record {
  fns = k.fns;
  scopes = declare k.scopes x.name (local_entry (length k.locals) t n constant);
  locals = k.locals ++ var_of t n constant x ∷ [];
  sites = k.sites;
}

-- what a declarator sets its object to
abbrev pub value_offences : List Signature → List Scope → Declarator → List Offence
value_offences fns env (declarator.Plain x) = []
value_offences fns env (declarator.Initialized x i) = init_offences fns env i
value_offences fns env (declarator.Array x n) = []
value_offences fns env (declarator.InitializedArray x n es) = args_offences env es

-- the properties of what a declarator's object is set to
abbrev pub value_sites : List Scope → Declarator → List Site
value_sites env (declarator.Plain x) = []
value_sites env (declarator.Initialized x i) = init_sites env i
value_sites env (declarator.Array x n) = []
value_sites env (declarator.InitializedArray x n es) = args_sites env es

-- what a declarator's object is set to; without an initializer its value is left open
abbrev pub value_typed : List Signature → List Scope → (base : ℕ) → IntType → Declarator → TInit
value_typed fns env base t (declarator.Plain x) = init.Free
value_typed fns env base t (declarator.Initialized x i) = init_typed fns env base t i
value_typed fns env base t (declarator.Array x n) = init.Free
value_typed fns env base t (declarator.InitializedArray x n es) = init.Values (elements_typed env base t es)

-- what is known behind a declarator: its properties and its variable
abbrev pub declarator_known : IntType → (constant : Bool) → Declarator → Known → Known
declarator_known t constant d k =
    with_local (more (with_scopes k (pending k (declared_name d))) (value_sites (pending k (declared_name d)) d)) t (declared_length d) constant (declared_name d)

-- what a declarator offends: its length, its name that is declared again, then its values
abbrev pub declarator_offences : Known → Declarator → List Offence
declarator_offences k d =
    length_offences k.scopes d
    ++ (again_offences (declared_name d).place (declared_in k.scopes (declared_name d).name)
    ++ value_offences k.fns (pending k (declared_name d)) d)

-- the declaration of the next local, with what it is set to
abbrev pub declarator_typed : IntType → Known → Declarator → TStmt
declarator_typed t k d = record {
  place = (declared_name d).place;
  node = Declare (number_of (length k.locals)) (value_typed k.fns (pending k (declared_name d)) (length k.sites) t d);
}

-- what is known behind declarators
abbrev pub declarators_known : IntType → (constant : Bool) → List Declarator → Known → Known
declarators_known t constant [] k = k
declarators_known t constant (d ∷ ds) k = declarators_known t constant ds (declarator_known t constant d k)

-- what declarators offend; each is in the scope of those before it (C99 6.2.1p7)
abbrev pub declarators_offences : IntType → (constant : Bool) → Known → List Declarator → List Offence
declarators_offences t constant k [] = []
declarators_offences t constant k (d ∷ ds) = declarator_offences k d ++ declarators_offences t constant (declarator_known t constant d k) ds

-- the declarations of declarators, in order
abbrev pub declarators_typed : IntType → (constant : Bool) → Known → List Declarator → List TStmt
declarators_typed t constant k [] = []
declarators_typed t constant k (d ∷ ds) = declarator_typed t k d ∷ declarators_typed t constant (declarator_known t constant d k) ds

-- what is known behind a declaration in a block
abbrev pub local_known : Local → Known → Known
local_known l k = declarators_known (named l.type_name.integer) (is_some l.constant) l.declarators k

-- what a declaration in a block offends
abbrev pub local_offences : Known → Local → List Offence
local_offences k l = declarators_offences (named l.type_name.integer) (is_some l.constant) k l.declarators

-- the typed declarations of a declaration in a block
abbrev pub local_typed : Known → Local → List TStmt
local_typed k l = declarators_typed (named l.type_name.integer) (is_some l.constant) k l.declarators

-- what is known behind the first part of a `for`
abbrev pub first_known : ForFirst → Known → Known
first_known for_first.Nothing k = k
first_known (for_first.Local l) k = local_known l k
first_known (for_first.Simple s) k = more k (simple_sites k.scopes s)

-- what the first part of a `for` offends
abbrev pub first_offences : Known → ForFirst → List Offence
first_offences k for_first.Nothing = []
first_offences k (for_first.Local l) = local_offences k l
first_offences k (for_first.Simple s) = simple_offences k.fns k.scopes s

-- an assignment, a step or a call as a statement at its place
abbrev pub simple_stmt : Known → Simple → TStmt
simple_stmt k s = record { place = simple_start s; node = simple_typed k.fns k.scopes (length k.sites) s }

-- the first part of a `for` as statements
abbrev pub first_typed : Known → ForFirst → List TStmt
first_typed k for_first.Nothing = []
first_typed k (for_first.Local l) = local_typed k l
first_typed k (for_first.Simple s) = simple_stmt k s ∷ []

-- what the condition of a `for` offends, if there is one
abbrev pub condition_offences : Known → Option Expression → List Offence
condition_offences k None = []
condition_offences k (Some e) = offences_in k.scopes e

-- the properties of the condition of a `for`, if there is one
abbrev pub condition_sites : Known → Option Expression → List Site
condition_sites k None = []
condition_sites k (Some e) = sites_in k.scopes e

-- the condition of a `for`; without one it always holds (C99 6.8.5.3p2)
abbrev pub condition_typed : Known → Option Expression → Option TExpr
condition_typed k None = None
condition_typed k (Some e) = Some (typed_of k.scopes (length k.sites) e)

-- what the last part of a `for` offends, if there is one
abbrev pub step_offences : Known → Option Simple → List Offence
step_offences k None = []
step_offences k (Some s) = simple_offences k.fns k.scopes s

-- the properties of the last part of a `for`, if there is one
abbrev pub step_sites : Known → Option Simple → List Site
step_sites k None = []
step_sites k (Some s) = simple_sites k.scopes s

-- the last part of a `for`, if there is one
abbrev pub step_typed : Known → Option Simple → Option TStmt
step_typed k None = None
step_typed k (Some s) = Some (simple_stmt k s)

-- a function with a result returns a value, and one without a result doesn't (C99 6.8.6.4p1)
abbrev pub wrong_return : Place → Option IntType → (given : Bool) → List Offence
wrong_return p None false = []
wrong_return p None true = at p CReturn
wrong_return p (Some t) false = at p CReturn
wrong_return p (Some t) true = []

-- what `return` offends by having a value or none
abbrev pub return_offences : Place → Option IntType → Option Initializer → List Offence
return_offences p r i = wrong_return p r (is_some i)

-- the value is converted to the function's result type (C99 6.8.6.4p3)
abbrev pub return_typed : Known → Option IntType → Option Initializer → SNode
return_typed k r None = Return None
return_typed k r (Some i) = Return (Some (init_typed k.fns k.scopes (length k.sites) (type_or_int r) i))

-- `break` and `continue` stand only where there is something to leave or to go on with (C99 6.8.6.2p1, 6.8.6.3p1)
abbrev pub jump_offences : Place → (allowed : Bool) → List Offence
jump_offences p allowed = if allowed then [] else at p CJump

-- one property of a kind at a place
abbrev pub site_at : PropKind → Place → List Site
site_at k p = (record { kind = k; place = p }) ∷ []

-- with a property of a statement's own, and with what an expression holds
abbrev pub own : PropKind → Place → Known → Known
own kind p k = more k (site_at kind p)

-- what is known behind an expression: its properties are counted
abbrev pub after_expression : Expression → Known → Known
after_expression e k = more k (sites_in k.scopes e)

-- the number that the next property gets
abbrev pub id_of : Known → PropId
id_of k = record { 0 = number_of (length k.sites) }

-- inside a loop both jumps may stand
abbrev pub in_a_loop : Around → Around
in_a_loop a = record { result = a.result; in_loop = true; may_break = true }

-- inside a `switch` a `break` may stand; `continue` only if a loop is around it
abbrev pub in_a_switch : Around → Around
in_a_switch a = record { result = a.result; in_loop = a.in_loop; may_break = true }

-- what is known at the condition, at the last part and at the body of a `for`
abbrev pub at_condition : Place → ForFirst → Known → Known
at_condition p first k = first_known first (own kind.Unwind p (enter k))

-- what is known at the last part of a `for`, whose text stands behind the condition
abbrev pub at_step : Place → ForFirst → Option Expression → Known → Known
at_step p first c k = more (at_condition p first k) (condition_sites (at_condition p first k) c)

-- what is known at the body of a `for`
abbrev pub at_body : Place → ForFirst → Option Expression → Option Simple → Known → Known
at_body p first c step k = more (at_step p first c k) (step_sites (at_step p first c k) step)

-- what is known after a statement
abbrev mutual
  pub known_after : Statement → Known → Known
  known_after (statement.Compound' p _ items) k = leave_scope (known_after_row items (enter k))
  known_after (statement.Empty p) k = k
  known_after (statement.Simple s) k = more k (simple_sites k.scopes s)
  known_after (statement.If' p c _ (statement.more_of-Statement s _)) k = known_after s (after_expression c k)
  known_after (statement.IfElse' p c _ (statement.more_of-Statement s _) _ (statement.more_of-Statement t _)) k = known_after t (known_after s (after_expression c k))
  known_after (statement.While' p c _ (statement.more_of-Statement s _)) k = known_after s (after_expression c (own kind.Unwind p k))
  known_after (statement.Do' p _ (statement.more_of-Statement s _) c) k = after_expression c (known_after s (own kind.Unwind p k))
  known_after (statement.For' p first c step _ (statement.more_of-Statement s _)) k = leave_scope (known_after s (at_body p first c step k))
  known_after (statement.Switch' p e _ groups) k = known_after_groups groups (after_expression e k)
  known_after (statement.Break p) k = k
  known_after (statement.Continue p) k = k
  known_after (statement.Return p i) k = more k (option_init_sites k.scopes i)
  known_after (statement.Assert p e) k = after_expression e (own kind.Assertion p k)
  known_after (statement.CproverAssert p e) k = after_expression e (own kind.Assertion p k)
  known_after (statement.CproverAssume p e) k = after_expression e k

  -- after the groups of a `switch`
  pub known_after_groups : {m : _} → statement.Row_of-Group m → Known → Known
  known_after_groups statement.end_of-Group k = k
  known_after_groups (statement.more_of-Group p labels _ body row) k = known_after_groups row (known_after_stmts body k)

  -- after statements
  pub known_after_stmts : {m : _} → statement.Row_of-Statement m → Known → Known
  known_after_stmts statement.end_of-Statement k = k
  known_after_stmts (statement.more_of-Statement x row) k = known_after_stmts row (known_after x k)

  -- after a declaration or a statement of a block
  pub known_after_item : BlockItem → Known → Known
  known_after_item (block_item.Local l) k = local_known l k
  known_after_item (block_item.Statement s) k = known_after s k

  -- after the items of a block
  pub known_after_row : {m : _} → statement.Row_of-BlockItem m → Known → Known
  known_after_row statement.end_of-BlockItem k = k
  known_after_row (statement.more_of-BlockItem x row) k = known_after_row row (known_after_item x k)

-- what a statement, and all that stands in it, offends, in the order of the text
abbrev mutual
  -- expressions come before the statements that they steer, but for the condition of a `do`
  pub offences_of : Around → Known → Statement → List Offence
  offences_of a k (statement.Compound' p _ items) = row_offences a (enter k) items
  offences_of a k (statement.Empty p) = []
  offences_of a k (statement.Simple s) = simple_offences k.fns k.scopes s
  offences_of a k (statement.If' p c _ (statement.more_of-Statement s _)) = offences_in k.scopes c ++ offences_of a (after_expression c k) s
  offences_of a k (statement.IfElse' p c _ (statement.more_of-Statement s _) _ (statement.more_of-Statement t _)) =
      offences_in k.scopes c ++ (offences_of a (after_expression c k) s ++ offences_of a (known_after s (after_expression c k)) t)
  offences_of a k (statement.While' p c _ (statement.more_of-Statement s _)) =
      offences_in k.scopes c ++ offences_of (in_a_loop a) (after_expression c (own kind.Unwind p k)) s
  offences_of a k (statement.Do' p _ (statement.more_of-Statement s _) c) =
      let k' = own kind.Unwind p k in
      offences_of (in_a_loop a) k' s ++ offences_in (known_after s k').scopes c
  offences_of a k (statement.For' p first c step _ (statement.more_of-Statement s _)) =
      first_offences (own kind.Unwind p (enter k)) first
      ++ (condition_offences (at_condition p first k) c ++ (step_offences (at_step p first c k) step ++ offences_of (in_a_loop a) (at_body p first c step k) s))
  offences_of a k (statement.Switch' p e _ groups) =
      offences_in k.scopes e ++ groups_offences (in_a_switch a) (after_expression e k) (promoted (type_of k.scopes e)) [] groups
  offences_of a k (statement.Break p) = jump_offences p a.may_break
  offences_of a k (statement.Continue p) = jump_offences p a.in_loop
  offences_of a k (statement.Return p i) = return_offences p a.result i ++ option_init_offences k.fns k.scopes i
  offences_of a k (statement.Assert p e) = offences_in k.scopes e
  offences_of a k (statement.CproverAssert p e) = offences_in k.scopes e
  offences_of a k (statement.CproverAssume p e) = offences_in k.scopes e

  -- the groups of a `switch`, where these labels stood before
  pub groups_offences : {m : _} → Around → Known → IntType → (seen : List TLabel) → statement.Row_of-Group m → List Offence
  groups_offences a k t seen statement.end_of-Group = []
  groups_offences a k t seen (statement.more_of-Group p labels _ body row) =
      labels_offences k.scopes t seen labels ++ (stmts_offences a k body ++ groups_offences a (known_after_stmts body k) t (seen ++ labels_typed t labels) row)

  -- statements, in order
  pub stmts_offences : {m : _} → Around → Known → statement.Row_of-Statement m → List Offence
  stmts_offences a k statement.end_of-Statement = []
  stmts_offences a k (statement.more_of-Statement x row) = offences_of a k x ++ stmts_offences a (known_after x k) row

  -- a declaration or a statement of a block
  pub item_offences : Around → Known → BlockItem → List Offence
  item_offences a k (block_item.Local l) = local_offences k l
  item_offences a k (block_item.Statement s) = offences_of a k s

  -- the items of a block, in order
  pub row_offences : {m : _} → Around → Known → statement.Row_of-BlockItem m → List Offence
  row_offences a k statement.end_of-BlockItem = []
  row_offences a k (statement.more_of-BlockItem x row) = item_offences a k x ++ row_offences a (known_after_item x k) row

-- `while` tests before each turn (C99 6.8.5.1)
abbrev pub while_typed : PropId → TExpr → TStmt → SNode
while_typed id c s = Loop (roll-TLoop (record { tests_first = true; heads = []; cond = Some c; step = None; body = s; unwind = id }))

-- labels of a `switch`, and the statements behind them
abbrev pub group_typed : List TLabel → List TStmt → TGroup
group_typed labels body = roll-Group (record { labels = labels; body = body })

-- `do` tests after each turn (C99 6.8.5.2)
abbrev pub do_typed : PropId → TExpr → TStmt → SNode
do_typed id c s = Loop (roll-TLoop (record { tests_first = false; heads = []; cond = Some c; step = None; body = s; unwind = id }))

-- `for` has its first part once, tests before each turn, and has its last part after each turn (C99 6.8.5.3)
abbrev pub for_typed : PropId → List TStmt → Option TExpr → Option TStmt → TStmt → SNode
for_typed id heads c step s = Loop (roll-TLoop (record { tests_first = true; heads = heads; cond = c; step = step; body = s; unwind = id }))

-- a statement at a place
abbrev pub stmt_at : Place → SNode → TStmt
stmt_at p n = record { place = p; node = n }

-- an assertion, whose property comes before those of its expression
abbrev pub assert_typed : Place → Known → Expression → TStmt
assert_typed p k e = stmt_at p (Assert (typed_of k.scopes (length (own kind.Assertion p k).sites) e) (id_of k))

-- the typed statement, where this is known before it
abbrev mutual
  pub stmt_typed : Around → Known → Statement → TStmt
  stmt_typed a k (statement.Compound' p _ items) = stmt_at p (Block (row_typed a (enter k) items))
  stmt_typed a k (statement.Empty p) = stmt_at p (Block [])
  stmt_typed a k (statement.Simple s) = simple_stmt k s
  stmt_typed a k (statement.If' p c _ (statement.more_of-Statement s _)) = stmt_at p (If (typed_of k.scopes (length k.sites) c) (stmt_typed a (after_expression c k) s) None)
  stmt_typed a k (statement.IfElse' p c _ (statement.more_of-Statement s _) _ (statement.more_of-Statement t _)) =
      stmt_at p (If (typed_of k.scopes (length k.sites) c) (stmt_typed a (after_expression c k) s) (Some (stmt_typed a (known_after s (after_expression c k)) t)))
  stmt_typed a k (statement.While' p c _ (statement.more_of-Statement s _)) =
      let k' = own kind.Unwind p k in
      stmt_at p (while_typed (id_of k) (typed_of k.scopes (length k'.sites) c) (stmt_typed (in_a_loop a) (after_expression c k') s))
  stmt_typed a k (statement.Do' p _ (statement.more_of-Statement s _) c) =
      let k' = own kind.Unwind p k in
      let k'' = known_after s k' in
      stmt_at p (do_typed (id_of k) (typed_of k''.scopes (length k''.sites) c) (stmt_typed (in_a_loop a) k' s))
  stmt_typed a k (statement.For' p first c step _ (statement.more_of-Statement s _)) =
      stmt_at p (for_typed (id_of k) (first_typed (own kind.Unwind p (enter k)) first) (condition_typed (at_condition p first k) c) (step_typed (at_step p first c k) step)
      (stmt_typed (in_a_loop a) (at_body p first c step k) s))
  stmt_typed a k (statement.Switch' p e _ groups) =
      let t = promoted (type_of k.scopes e) in
      stmt_at p (Switch (converted_to t (typed_of k.scopes (length k.sites) e)) (groups_typed (in_a_switch a) (after_expression e k) t groups))
  stmt_typed a k (statement.Break p) = stmt_at p Break
  stmt_typed a k (statement.Continue p) = stmt_at p Continue
  stmt_typed a k (statement.Return p i) = stmt_at p (return_typed k a.result i)
  stmt_typed a k (statement.Assert p e) = assert_typed p k e
  stmt_typed a k (statement.CproverAssert p e) = assert_typed p k e
  stmt_typed a k (statement.CproverAssume p e) = stmt_at p (Assume (typed_of k.scopes (length k.sites) e))

  -- the groups of a `switch` over an expression of this promoted type
  pub groups_typed : {m : _} → Around → Known → IntType → statement.Row_of-Group m → List TGroup
  groups_typed a k t statement.end_of-Group = []
  groups_typed a k t (statement.more_of-Group p labels _ body row) = group_typed (labels_typed t labels) (stmts_typed a k body) ∷ groups_typed a (known_after_stmts body k) t row

  -- statements, in order
  pub stmts_typed : {m : _} → Around → Known → statement.Row_of-Statement m → List TStmt
  stmts_typed a k statement.end_of-Statement = []
  stmts_typed a k (statement.more_of-Statement x row) = stmt_typed a k x ∷ stmts_typed a (known_after x k) row

  -- a declaration is one statement for each declarator
  pub item_typed : Around → Known → BlockItem → List TStmt
  item_typed a k (block_item.Local l) = local_typed k l
  item_typed a k (block_item.Statement s) = stmt_typed a k s ∷ []

  -- the items of a block, in order
  pub row_typed : {m : _} → Around → Known → statement.Row_of-BlockItem m → List TStmt
  row_typed a k statement.end_of-BlockItem = []
  row_typed a k (statement.more_of-BlockItem x row) = item_typed a k x ++ row_typed a (known_after_item x k) row

-- the same of lists
abbrev pub items_known : List BlockItem → Known → Known
items_known [] k = k
items_known (x ∷ xs) k = items_known xs (known_after_item x k)

-- what the items of a block offend, in order
abbrev pub items_offences : Around → Known → List BlockItem → List Offence
items_offences a k [] = []
items_offences a k (x ∷ xs) = item_offences a k x ++ items_offences a (known_after_item x k) xs

-- the typed statements of the items of a block
abbrev pub items_typed : Around → Known → List BlockItem → List TStmt
items_typed a k [] = []
items_typed a k (x ∷ xs) = item_typed a k x ++ items_typed a (known_after_item x k) xs

-- what is known behind statements
abbrev pub statements_known : List Statement → Known → Known
statements_known [] k = k
statements_known (x ∷ xs) k = statements_known xs (known_after x k)

-- what statements offend, in order
abbrev pub statements_offences : Around → Known → List Statement → List Offence
statements_offences a k [] = []
statements_offences a k (x ∷ xs) = offences_of a k x ++ statements_offences a (known_after x k) xs

-- the typed statements, in order
abbrev pub statements_typed : Around → Known → List Statement → List TStmt
statements_typed a k [] = []
statements_typed a k (x ∷ xs) = stmt_typed a k x ∷ statements_typed a (known_after x k) xs

-- what is known behind the groups of a `switch`
abbrev pub cases_known : List Group → Known → Known
cases_known [] k = k
cases_known (g ∷ gs) k = cases_known gs (statements_known g.body k)

-- what the groups of a `switch` offend; a label may not stand twice among those seen (C99 6.8.4.2p3)
abbrev pub cases_offences : Around → Known → IntType → (seen : List TLabel) → List Group → List Offence
cases_offences a k t seen [] = []
cases_offences a k t seen (g ∷ gs) =
    labels_offences k.scopes t seen g.labels ++ (statements_offences a k g.body ++ cases_offences a (statements_known g.body k) t (seen ++ labels_typed t g.labels) gs)

-- the typed groups of a `switch`, in order
abbrev pub cases_typed : Around → Known → IntType → List Group → List TGroup
cases_typed a k t [] = []
cases_typed a k t (g ∷ gs) = group_typed (labels_typed t g.labels) (statements_typed a k g.body) ∷ cases_typed a (statements_known g.body k) t gs
