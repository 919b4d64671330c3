-- When signatures agree with a program.
use Rattle.std.specs.Prelude.{◌≡◌, ℕ, ◌+◌, ◌<◌, ◌≤◌, ◌^◌, ◌⊎◌, List, [], ◌∷◌, length, slice_get, true, All, IsTrue, IfSome, Option, None, Some, IsSome}
use Rattle.c_tree.specs.declared.declarations.Declarator.{Declarator}
use Rattle.c_tree.specs.declared.declarations.Declarator.TheVariants as declarator
use Rattle.c_tree.specs.declared.declarations.Initializer.{Initializer}
use Rattle.c_tree.specs.declared.declarations.Initializer.TheVariants as initializer
use Rattle.c_tree.specs.declared.expressions.Expression.{Expression}
use Rattle.c_tree.specs.declared.declarations.Local.{Local as ALocal}
use Rattle.c_tree.specs.declared.statements.BlockItem.{BlockItem}
use Rattle.c_tree.specs.declared.statements.BlockItem as block_item
use Rattle.c_tree.specs.declared.statements.ForFirst.{ForFirst}
use Rattle.c_tree.specs.declared.statements.ForFirst.TheVariants as for_first
use Rattle.c_tree.specs.declared.statements.Statement.{Statement}
use Rattle.c_tree.specs.declared.statements.Statement as statement
use Rattle.joint_ir.specs.declared.ctype.IntType.{IntType}
use Rattle.joint_ir.specs.declared.expr.Slot.TheVariants.{Local}
use Rattle.joint_ir.specs.declared.program.CProgram.{CProgram}
use Rattle.joint_ir.specs.declared.program.Function.{Function}
use Rattle.joint_ir.specs.declared.stmt.TStmt.{TStmt}
use Rattle.joint_ir.specs.Types.{IsType}
use Rattle.joint_ir.specs.WellFormed as well
use Rattle.joint_ir.specs.WellFormed.{declared_behind, is_bound, with_scope_locals}
use Rattle.joint_ir.specs.Steps.{slot_type}
use Rattle.c_tree.specs.declared.statements.Simple.{Simple}
use Rattle.c_tree.specs.declared.statements.Simple.TheVariants as simple
use Rattle.c_words.specs.declared.notes.Site.{Site}
use Rattle.c_names.specs.declared.scope.Entry.TheVariants as entry
use Rattle.c_names.specs.declared.scope.Target.{Target}
use Rattle.c_names.specs.Scope.{Scope, lookup}
use Rattle.c_statements.specs.declared.calls.Callee.{Callee}
use Rattle.c_statements.specs.declared.calls.Callee.TheVariants.{Unknown, NotFunction, SetInputs, NextFrame, Declared}
use Rattle.c_statements.specs.declared.calls.Signature.{Signature}
use Rattle.c_statements.specs.declared.walk.Around.{Around}
use Rattle.c_statements.specs.Known.{Known}
use Rattle.c_meaning.specs.Sound.{AreBytes, PathBytes, AreThere, AreProps}

-- a function of the program has the result and the parameters of a signature, and a body or a result
pub record Agrees (p : CProgram) (s : Signature) (fn : Function) : Type 0 where
  pub result : fn.result ≡ s.result
  pub count : fn.params ≡ length s.params
  pub params : (i : ℕ) (t : IntType) → slice_get s.params i ≡ Some t → (t ≡ slot_type p (Local (fn.first + i))) × IsType t
  pub body : IsSome fn.body ⊎ IsSome fn.result

-- each signature of a function that may be called agrees with the function of its number
abbrev pub Agree : CProgram → List Signature → Type 0
Agree p fns = (f : ℕ) (s : Signature) → slice_get fns f ≡ Some s → IsTrue s.callable → (fn : Function) × (slice_get p.functions f ≡ Some fn) × Agrees p s fn

-- each character in expressions is a byte
abbrev pub AllBytes : List Expression → Type 0
AllBytes [] = Unit {0}
AllBytes (e ∷ es) = AreBytes e × AllBytes es

-- the same in what an object is set to
abbrev pub InitBytes : Initializer → Type 0
InitBytes (initializer.Value e) = AreBytes e
InitBytes (initializer.Called call) = AllBytes call.arguments

-- a function that a call names has a signature
abbrev pub HasSignature : List Signature → Callee → Type 0
HasSignature fns Unknown = Unit {0}
HasSignature fns NotFunction = Unit {0}
HasSignature fns SetInputs = Unit {0}
HasSignature fns NextFrame = Unit {0}
HasSignature fns (Declared f) = (s : Signature) × (slice_get fns f ≡ Some s)

-- the same in an assignment, an update or a call
abbrev pub SimpleBytes : Simple → Type 0
SimpleBytes (simple.Assign x i) = PathBytes x × InitBytes i
SimpleBytes (simple.Update x mark e) = PathBytes x × AreBytes e
SimpleBytes (simple.StepAfter x mark) = PathBytes x
SimpleBytes (simple.StepBefore mark x) = PathBytes x
SimpleBytes (simple.Called call) = AllBytes call.arguments

-- each name that stands for a function, stands for one that has a signature
abbrev pub AreSigned : List Signature → List Scope → Type 0
AreSigned fns env = (name : List ℕ) (f : ℕ) → lookup env name ≡ Some (entry.Function f) → (s : Signature) × (slice_get fns f ≡ Some s)

-- `bound` can't be assigned to
abbrev pub BoundStays : List Scope → Type 0
BoundStays env = (name : List ℕ) (o : Target) → lookup env name ≡ Some (entry.Object o) → is_bound o.slot ≡ true → o.constant ≡ true

-- where a statement stands: its scopes, the functions that they know and the properties of the text fit the program
pub record IsSetting (c : well.Scope) (all : List Site) (fns : List Signature) (env : List Scope) : Type 0 where
  pub props : AreProps all c.program
  pub names : AreThere c env
  pub bound : BoundStays env
  pub agree : Agree c.program fns
  pub signed : AreSigned fns env

-- the same in a declarator
abbrev pub DeclaratorBytes : Declarator → Type 0
DeclaratorBytes (declarator.Plain x) = Unit {0}
DeclaratorBytes (declarator.Initialized x i) = InitBytes i
DeclaratorBytes (declarator.Array x n) = Unit {0}
DeclaratorBytes (declarator.InitializedArray x n es) = AllBytes es

-- what stands in a list stands at the same place of another
abbrev pub IsPrefix : {A : Type 0} → List A → List A → Type 0
IsPrefix xs ys = (i : ℕ) (x : _) → slice_get xs i ≡ Some x → slice_get ys i ≡ Some x

-- the scope behind the statements of a list
abbrev pub behind_items : well.Scope → List TStmt → well.Scope
behind_items c [] = c
behind_items c (s ∷ ss) = behind_items (with_scope_locals c (declared_behind s.node c.locals)) ss

-- what the tree of a statement has by its text: each character is a byte, and each group of a `switch` has a label
abbrev pub OptionBytes : Option Expression → Type 0
OptionBytes None = Unit {0}
OptionBytes (Some e) = AreBytes e

-- the same in what an object is set to, if it is set
abbrev pub OptionInitBytes : Option Initializer → Type 0
OptionInitBytes None = Unit {0}
OptionInitBytes (Some i) = InitBytes i

-- the same in the last part of a `for`, if there is one
abbrev pub StepBytes : Option Simple → Type 0
StepBytes None = Unit {0}
StepBytes (Some s) = SimpleBytes s

-- the same in a declaration in a block
abbrev pub LocalBytes : ALocal → Type 0
LocalBytes l = All DeclaratorBytes l.declarators

-- the same in the first part of a `for`
abbrev pub FirstBytes : ForFirst → Type 0
FirstBytes for_first.Nothing = Unit {0}
FirstBytes (for_first.Local l) = LocalBytes l
FirstBytes (for_first.Simple s) = SimpleBytes s

-- the same in a statement, and in all that stands in it
abbrev mutual
  pub StatementBytes : Statement → Type 0
  StatementBytes (statement.Compound' p _ items) = RowBytes items
  StatementBytes (statement.Empty p) = Unit {0}
  StatementBytes (statement.Simple s) = SimpleBytes s
  StatementBytes (statement.If' p c _ (statement.more_of-Statement s _)) = AreBytes c × StatementBytes s
  StatementBytes (statement.IfElse' p c _ (statement.more_of-Statement s _) _ (statement.more_of-Statement t _)) = AreBytes c × StatementBytes s × StatementBytes t
  StatementBytes (statement.While' p c _ (statement.more_of-Statement s _)) = AreBytes c × StatementBytes s
  StatementBytes (statement.Do' p _ (statement.more_of-Statement s _) c) = AreBytes c × StatementBytes s
  StatementBytes (statement.For' p first c step _ (statement.more_of-Statement s _)) = FirstBytes first × OptionBytes c × StepBytes step × StatementBytes s
  StatementBytes (statement.Switch' p e _ groups) = AreBytes e × GroupsBytes groups
  StatementBytes (statement.Break p) = Unit {0}
  StatementBytes (statement.Continue p) = Unit {0}
  StatementBytes (statement.Return p i) = OptionInitBytes i
  StatementBytes (statement.Assert p e) = AreBytes e
  StatementBytes (statement.CproverAssert p e) = AreBytes e
  StatementBytes (statement.CproverAssume p e) = AreBytes e

  -- in the statements of the groups of a `switch`, each of which has some label
  pub GroupsBytes : {m : _} → statement.Row_of-Group m → Type 0
  GroupsBytes statement.end_of-Group = Unit {0}
  GroupsBytes (statement.more_of-Group p labels _ body row) = (0 < length labels) × StmtsBytes body × GroupsBytes row

  -- in statements
  pub StmtsBytes : {m : _} → statement.Row_of-Statement m → Type 0
  StmtsBytes statement.end_of-Statement = Unit {0}
  StmtsBytes (statement.more_of-Statement x row) = StatementBytes x × StmtsBytes row

  -- in a declaration or a statement of a block
  pub ItemBytes : BlockItem → Type 0
  ItemBytes (block_item.Local l) = LocalBytes l
  ItemBytes (block_item.Statement s) = StatementBytes s

  -- in the items of a block
  pub RowBytes : {m : _} → statement.Row_of-BlockItem m → Type 0
  RowBytes statement.end_of-BlockItem = Unit {0}
  RowBytes (statement.more_of-BlockItem x row) = ItemBytes x × RowBytes row

-- where a statement stands: in a program, a scope and what is around it, with what is known before it
pub record IsPlace (p : CProgram) (all : List Site) (c : well.Scope) (a : Around) (k : Known) : Type 0 where
  pub program : c.program ≡ p
  pub setting : IsSetting c all k.fns k.scopes
  pub loops : a.in_loop ≡ c.in_loop
  pub breaks : a.may_break ≡ c.may_break
  pub function : (fn : Function) × (slice_get p.functions c.here ≡ Some fn) × (fn.result ≡ a.result)
  pub result : IfSome a.result IsType

-- places fit their numbers
pub record AreFew (p : CProgram) (all : List Site) : Type 0 where
  pub locals : length p.locals < 2 ^ 32
  pub sites : length all ≤ 2 ^ 32
