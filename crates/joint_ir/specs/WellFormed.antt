-- Which pairs are well-formed. This is what a typer and a binder give, and what a stepper and an unwinder need.
use Rattle.std.specs.Prelude.{◌≡◌, bytes_eq, ℕ, zero, suc, ◌+◌, ◌*◌, ◌^◌, ◌<◌, ◌≤◌, ◌⊎◌, Bool, true, false, IsTrue, ◌&&◌, if◌then◌else◌, nat_lt, eqb, List, [], ◌∷◌, ◌++◌, length, map, slice_get, count_by, Contains, All, IfSome}
use Rattle.std.specs.Prelude.{Option, Some, None, IsSome}
use Rattle.std.specs.Ordering.{int_eq}
use Rattle.word_eqs.specs.declared.term.TermId.{TermId}
use Rattle.word_eqs.specs.Graph.{Graph, width_in, is_no_var}
use Rattle.word_eqs.specs.Gates.{term_gates}
use Rattle.joint_ir.specs.declared.ctype.IntType.{IntType}
use Rattle.joint_ir.specs.declared.expr.BinaryOp.{BinaryOp}
use Rattle.joint_ir.specs.declared.expr.BinaryOp.TheVariants.{Add, Sub, Mul, Div, Rem, Shl, Shr, And, Or, Xor, Eq, Ne, Lt, Le, Gt, Ge}
use Rattle.joint_ir.specs.declared.expr.Slot.{Slot}
use Rattle.joint_ir.specs.declared.expr.Slot.TheVariants.{Global, Local, Member, BoundValue}
use Rattle.joint_ir.specs.declared.expr.TExpr.{TExpr}
use Rattle.joint_ir.specs.declared.expr.TNode.{TNode, Const, Read, Index', Unary', Binary', Logic', Choose', Convert', more_of-TExpr}
use Rattle.joint_ir.specs.declared.expr.UnaryOp.{UnaryOp}
use Rattle.joint_ir.specs.declared.expr.UnaryOp.TheVariants.{Plus, Minus, Flip, Not}
use Rattle.joint_ir.specs.declared.module.FlatModule.{FlatModule}
use Rattle.joint_ir.specs.declared.module.Role.TheVariants.{Input, Clock, Register, Wire}
use Rattle.joint_ir.specs.declared.module.Signal.{Signal}
use Rattle.joint_ir.specs.declared.module.Site.{Site}
use Rattle.joint_ir.specs.declared.pair.Link.{Link}
use Rattle.joint_ir.specs.declared.pair.Pair.{Pair}
use Rattle.joint_ir.specs.declared.program.CProgram.{CProgram}
use Rattle.joint_ir.specs.declared.program.Function.{Function}
use Rattle.joint_ir.specs.declared.program.Member.{Member as AMember}
use Rattle.joint_ir.specs.declared.program.Prop.{Prop}
use Rattle.joint_ir.specs.declared.program.PropId.{PropId}
use Rattle.joint_ir.specs.declared.program.PropKind.{PropKind}
use Rattle.joint_ir.specs.declared.program.PropKind.TheVariants as kind
use Rattle.joint_ir.specs.declared.program.Var.{Var}
use Rattle.joint_ir.specs.declared.stmt.Group.{Group, Group'}
use Rattle.joint_ir.specs.declared.stmt.Label.{Label}
use Rattle.joint_ir.specs.declared.stmt.Label.TheVariants.{Case, Default}
use Rattle.joint_ir.specs.declared.stmt.SNode.{SNode, Block', Declare, Store, Update, Call, If', Loop, Switch', Break, Continue, Return, Assert, Assume, SetInputs, NextFrame, Row_of-TStmt, end_of-TStmt, more_of-TStmt, Row_of-Group, end_of-Group, more_of-Group, Held-SNode-If-2, None', Some'}
use Rattle.joint_ir.specs.declared.stmt.TCall.{TCall}
use Rattle.joint_ir.specs.declared.stmt.TInit.{TInit}
use Rattle.joint_ir.specs.declared.stmt.TInit.TheVariants.{Free, Values, Called}
use Rattle.joint_ir.specs.declared.stmt.TLoop.{TLoop, TLoop'}
use Rattle.joint_ir.specs.declared.stmt.TStmt.{TStmt}
use Rattle.joint_ir.specs.declared.stmt.TTarget.{TTarget}
use Rattle.joint_ir.specs.declared.stmt.TUpdate.{TUpdate}
use Rattle.joint_ir.specs.Types.{int, IsType, InRange}
use Rattle.joint_ir.specs.States.{element_count}
use Rattle.joint_ir.specs.Views.{widths_of, site_widths, members_of}
use Rattle.joint_ir.specs.Steps.{slot_type}
use Rattle.joint_ir.specs.Statements.{is_recursion}
use Rattle.joint_ir.specs.Weights.{slot_length, sum_of}

-- the number of a kind, by which kinds are told apart
abbrev pub kind_number : PropKind → ℕ
kind_number kind.Assertion = 0
kind_number kind.Overflow = 1
kind_number kind.Division = 2
kind_number kind.Shift = 3
kind_number kind.Bounds = 4
kind_number kind.Unwind = 5
kind_number kind.Recursion = 6
kind_number kind.Frame = 7

-- there is a property of a kind
abbrev pub IsProp : CProgram → PropKind → PropId → Type 0
IsProp p k id = (x : Prop) × (slice_get p.props id.0 ≡ Some x) × (x.kind ≡ k)

-- there is a property of a kind exactly where one is wanted
abbrev pub HasProp : CProgram → PropKind → (wanted : Bool) → Option PropId → Type 0
HasProp p k true None = ⊥
HasProp p k true (Some id) = IsProp p k id
HasProp p k false o = o ≡ None

-- where a statement or an expression stands: its program, its function, the locals declared before it, and whether it is in
-- a loop, or in a loop or a switch
pub record Scope : Type 0 where
  pub program : CProgram
  pub here : ℕ
  pub locals : List ℕ
  pub in_loop : Bool
  pub may_break : Bool

-- the scope with these locals declared
abbrev pub with_scope_locals : Scope → List ℕ → Scope
with_scope_locals c xs = record { program = c.program; here = c.here; locals = xs; in_loop = c.in_loop; may_break = c.may_break }

-- the scope inside a loop, where `break` and `continue` may stand
abbrev pub in_a_loop : Scope → Scope
in_a_loop c = record { program = c.program; here = c.here; locals = c.locals; in_loop = true; may_break = true }

-- the scope inside a `switch`, where `break` may stand
abbrev pub in_a_switch : Scope → Scope
in_a_switch c = record { program = c.program; here = c.here; locals = c.locals; in_loop = c.in_loop; may_break = true }

-- an object is there, and is visible
abbrev pub IsVisible : Scope → Slot → Type 0
IsVisible c (Global i) = i < length c.program.globals
IsVisible c (Local i) = (i < length c.program.locals) × Contains c.locals i
IsVisible c (Member i) = (m : AMember) × (slice_get (members_of c.program.mirror) i ≡ Some m) × IsSome m.ty
IsVisible c BoundValue = Unit {0}

-- the object has elements
abbrev pub is_array : CProgram → Slot → Bool
is_array p slot = nat_lt 0 (slot_length p slot)

-- an object is used with an index exactly where it is an array
pub record IsObject (c : Scope) (slot : Slot) (indexed : Bool) : Type 0 where
  pub visible : IsVisible c slot
  pub shape : is_array c.program slot ≡ indexed

-- a type in which an operator may work: none is narrower than `int` (C99 6.3.1.1p2)
pub record IsPromoted (t : IntType) : Type 0 where
  pub type : IsType t
  pub wide : 32 ≤ t.bits

-- a unary operator: the type of its result, and its property exactly where it has one
abbrev pub FitsUnary : CProgram → UnaryOp → (t u : IntType) → Option PropId → Type 0
FitsUnary p Plus t u prop = IsPromoted t × (u ≡ t) × (prop ≡ None)
FitsUnary p Minus t u prop = IsPromoted t × (u ≡ t) × HasProp p kind.Overflow t.signed prop
FitsUnary p Flip t u prop = IsPromoted t × (u ≡ t) × (prop ≡ None)
FitsUnary p Not t u prop = (t ≡ int) × (prop ≡ None)

-- `+ - * / %`: all of one type; a division checks its divisor, and a signed operation its result
abbrev pub FitsArithmetic : CProgram → (divides : Bool) → (t u v : IntType) → (division other : Option PropId) → Type 0
FitsArithmetic p divides t u v d prop = IsPromoted t × (u ≡ t) × (v ≡ t) × HasProp p kind.Division divides d × HasProp p kind.Overflow t.signed prop

-- shifts: the type is that of the left operand, and the amount is checked
abbrev pub FitsShift : CProgram → (t u v : IntType) → (division other : Option PropId) → Type 0
FitsShift p t u v d prop = IsPromoted t × IsPromoted v × (u ≡ t) × (d ≡ None) × HasProp p kind.Shift true prop

-- `& | ^`: all of one type, and no check
abbrev pub FitsBits : (t u v : IntType) → (division other : Option PropId) → Type 0
FitsBits t u v d prop = IsPromoted t × (u ≡ t) × (v ≡ t) × (d ≡ None) × (prop ≡ None)

-- comparisons: operands of one type, the result an `int`, and no check
abbrev pub FitsComparison : (t u v : IntType) → (division other : Option PropId) → Type 0
FitsComparison t u v d prop = (t ≡ int) × IsPromoted u × (v ≡ u) × (d ≡ None) × (prop ≡ None)

-- an operator of a type over operands of types
abbrev pub FitsBinary : CProgram → BinaryOp → (t u v : IntType) → (division other : Option PropId) → Type 0
FitsBinary p Add t u v d prop = FitsArithmetic p false t u v d prop
FitsBinary p Sub t u v d prop = FitsArithmetic p false t u v d prop
FitsBinary p Mul t u v d prop = FitsArithmetic p false t u v d prop
FitsBinary p Div t u v d prop = FitsArithmetic p true t u v d prop
FitsBinary p Rem t u v d prop = FitsArithmetic p true t u v d prop
FitsBinary p Shl t u v d prop = FitsShift p t u v d prop
FitsBinary p Shr t u v d prop = FitsShift p t u v d prop
FitsBinary p And t u v d prop = FitsBits t u v d prop
FitsBinary p Or t u v d prop = FitsBits t u v d prop
FitsBinary p Xor t u v d prop = FitsBits t u v d prop
FitsBinary p Eq t u v d prop = FitsComparison t u v d prop
FitsBinary p Ne t u v d prop = FitsComparison t u v d prop
FitsBinary p Lt t u v d prop = FitsComparison t u v d prop
FitsBinary p Le t u v d prop = FitsComparison t u v d prop
FitsBinary p Gt t u v d prop = FitsComparison t u v d prop
FitsBinary p Ge t u v d prop = FitsComparison t u v d prop

-- a node of a type
abbrev pub FitsNode : Scope → IntType → TNode → Type 0
FitsNode c t (Const n) = IsPromoted t × InRange t n
FitsNode c t (Read slot) = IsObject c slot false × (t ≡ slot_type c.program slot)
FitsNode c t (Index' slot _ (more_of-TExpr u q a _) prop) =
    IsObject c slot true × (t ≡ slot_type c.program slot) × IsProp c.program kind.Bounds prop × FitsNode c u a
FitsNode c t (Unary' op _ (more_of-TExpr u q a _) prop) = FitsUnary c.program op t u prop × FitsNode c u a
FitsNode c t (Binary' op _ (more_of-TExpr u q a _) _ (more_of-TExpr v r b _) d prop) =
    FitsBinary c.program op t u v d prop × FitsNode c u a × FitsNode c v b
FitsNode c t (Logic' op _ (more_of-TExpr u q a _) _ (more_of-TExpr v r b _)) = (t ≡ int) × FitsNode c u a × FitsNode c v b
FitsNode c t (Choose' _ (more_of-TExpr u q x _) _ (more_of-TExpr v r a _) _ (more_of-TExpr w s b _)) =
    IsPromoted t × (v ≡ t) × (w ≡ t) × FitsNode c u x × FitsNode c v a × FitsNode c w b
FitsNode c t (Convert' _ (more_of-TExpr u q a _)) = IsType t × FitsNode c u a

-- an expression has its shape, and its parts have theirs
abbrev pub FitsExpr : Scope → TExpr → Type 0
FitsExpr c e = FitsNode c e.ty e.node

-- an expression of a type
abbrev pub FitsAs : Scope → IntType → TExpr → Type 0
FitsAs c t e = (e.ty ≡ t) × FitsExpr c e

-- an expression that may be left out
abbrev pub FitsOption : Scope → Option TExpr → Type 0
FitsOption c None = Unit {0}
FitsOption c (Some e) = FitsExpr c e

-- arguments for parameters, which stand in `locals` from a place on
abbrev pub FitsArgs : Scope → (local : ℕ) → List TExpr → Type 0
FitsArgs c x [] = Unit {0}
FitsArgs c x (e ∷ es) = FitsAs c (slot_type c.program (Local x)) e × FitsArgs c (x + 1) es

-- a call has one argument for each parameter; a function has a body or a result
abbrev pub FitsCallee : Scope → List TExpr → Function → Type 0
FitsCallee c args fn = (length args ≡ fn.params) × FitsArgs c fn.first args × (IsSome fn.body ⊎ IsSome fn.result)

-- a call: a function that there is, with an argument for each parameter, of its type
abbrev pub FitsCall : Scope → TCall → Type 0
FitsCall c call = (fn : Function) × (slice_get c.program.functions call.function ≡ Some fn) × FitsCallee c call.args fn

-- a call whose result is used: its function has one
abbrev pub FitsResult : Scope → TCall → Type 0
FitsResult c call = FitsCall c call × ((fn : Function) × (slice_get c.program.functions call.function ≡ Some fn) × IsSome fn.result)

-- what an object of a type that is no array is set to; `free` says whether it may be left open
abbrev pub FitsInit : Scope → (free : Bool) → IntType → TInit → Type 0
FitsInit c free t Free = IsTrue free
FitsInit c free t (Values es) = (e : TExpr) × (es ≡ e ∷ []) × FitsAs c t e
FitsInit c free t (Called call) = FitsResult c call

-- an index with its property
abbrev pub FitsIndex : Scope → Option TExpr → Option PropId → Type 0
FitsIndex c None prop = prop ≡ None
FitsIndex c (Some e) prop = FitsExpr c e × HasProp c.program kind.Bounds true prop

-- there is one
abbrev pub is_some : {A : Type 0} → Option A → Bool
is_some None = false
is_some (Some x) = true

-- the object is `bound`
abbrev pub is_bound : Slot → Bool
is_bound (Global i) = false
is_bound (Local i) = false
is_bound (Member i) = false
is_bound BoundValue = true

-- a target: an object other than `bound`, with an index exactly where it is an array, which is checked
pub record FitsTarget (c : Scope) (target : TTarget) : Type 0 where
  pub object : IsObject c target.slot (is_some target.index)
  pub stored : is_bound target.slot ≡ false
  pub index : FitsIndex c target.index target.bounds

-- the type of an update's right operand; that of a shift is promoted by itself
abbrev pub right_type : IntType → Option TExpr → IntType
right_type t None = t
right_type t (Some e) = e.ty

-- the operators of compound assignments (C99 6.5.16)
abbrev pub is_compound : BinaryOp → Bool
is_compound Add = true
is_compound Sub = true
is_compound Mul = true
is_compound Div = true
is_compound Rem = true
is_compound Shl = true
is_compound Shr = true
is_compound And = true
is_compound Or = true
is_compound Xor = true
is_compound Eq = false
is_compound Ne = false
is_compound Lt = false
is_compound Le = false
is_compound Gt = false
is_compound Ge = false

-- those of `++` and `--` (C99 6.5.2.4 and 6.5.3.1)
abbrev pub is_step : BinaryOp → Bool
is_step Add = true
is_step Sub = true
is_step _ = false

-- the operator of an update, which has a right operand or none
abbrev pub updates : BinaryOp → (right : Bool) → Bool
updates op true = is_compound op
updates op false = is_step op

-- `op=`, `++` and `--`: an operator that can stand there, with its properties
pub record FitsUpdate (c : Scope) (u : TUpdate) : Type 0 where
  pub updates : IsTrue (updates u.op (is_some u.right))
  pub operator : FitsBinary c.program u.op u.ty u.ty (right_type u.ty u.right) u.division u.other
  pub right : FitsOption c u.right

-- the values of an array's first elements
abbrev pub FitsElements : Scope → IntType → (length : ℕ) → TInit → Type 0
FitsElements c t n Free = Unit {0}
FitsElements c t n (Values es) = (length es ≤ n) × All (λ e. FitsAs c t e) es
FitsElements c t n (Called call) = ⊥

-- what an object may be set to: nothing, its elements, or a call's result
abbrev pub FitsObject : Scope → IntType → (length : ℕ) → TInit → Type 0
FitsObject c t zero init = FitsInit c true t init
FitsObject c t (suc n) init = FitsElements c t (suc n) init

-- a declaration of a local that there is, and what it is set to
abbrev pub FitsDeclare : Scope → ℕ → TInit → Type 0
FitsDeclare c x init = (v : Var) × (slice_get c.program.locals x ≡ Some v) × FitsObject c v.ty v.length init

-- a value where the function has a result, and none where it has none
abbrev pub FitsReturn : Scope → Option IntType → Option TInit → Type 0
FitsReturn c None init = init ≡ None
FitsReturn c (Some t) None = ⊥
FitsReturn c (Some t) (Some init) = FitsInit c false t init

-- what may stand as the last part of a `for`, or as its first if that declares nothing
abbrev pub is_simple : SNode → Bool
is_simple (Store target init) = true
is_simple (Update target u) = true
is_simple (Call call) = true
is_simple SetInputs = true
is_simple (NextFrame prop) = true
is_simple _ = false

-- the statement declares a local
abbrev pub is_declare : SNode → Bool
is_declare (Declare x init) = true
is_declare _ = false

-- the locals that are declared behind a statement of a list
abbrev pub declared_behind : SNode → List ℕ → List ℕ
declared_behind (Declare x init) xs = x ∷ xs
declared_behind _ xs = xs

-- the locals that are declared behind statements
abbrev pub behind_row : {m : _} → Row_of-TStmt m → List ℕ → List ℕ
behind_row end_of-TStmt xs = xs
behind_row (more_of-TStmt p a rest) xs = behind_row rest (declared_behind a xs)

-- all statements are declarations
abbrev pub all_declare : {m : _} → Row_of-TStmt m → Bool
all_declare end_of-TStmt = true
all_declare (more_of-TStmt p a rest) = is_declare a && all_declare rest

-- the first part of a `for`: nothing, declarations, or one simple statement (C99 6.8.5.3)
abbrev pub is_first_part : {m : _} → Row_of-TStmt m → Bool
is_first_part end_of-TStmt = true
is_first_part (more_of-TStmt p a end_of-TStmt) = if is_declare a then true else is_simple a
is_first_part (more_of-TStmt p a (more_of-TStmt q b rest)) = is_declare a && is_declare b && all_declare rest

-- there is no statement
abbrev pub is_no_row : {m : _} → Row_of-TStmt m → Bool
is_no_row end_of-TStmt = true
is_no_row (more_of-TStmt p a rest) = false

-- the statement is left out
abbrev pub is_left_out : Held-SNode-If-2 → Bool
is_left_out None' = true
is_left_out (Some' _ row) = false

-- a loop that tests first is a `while` or a `for`; a `do` has a condition, and no first and no last part (C99 6.8.5)
abbrev pub is_loop : {m : _} → (tests_first : Bool) → Row_of-TStmt m → Option TExpr → Held-SNode-If-2 → Bool
is_loop true heads cond step = is_first_part heads
is_loop false heads cond step = is_no_row heads && is_some cond && is_left_out step

-- labels of a switch over a type: values of the type
abbrev pub FitsLabel : IntType → Label → Type 0
FitsLabel t (Case n) = InRange t n
FitsLabel t Default = Unit {0}

-- both labels are `default`, or `case` with one number
abbrev pub same_label : Label → Label → Bool
same_label (Case m) (Case n) = int_eq m n
same_label Default Default = true
same_label _ _ = false

-- all labels of a switch
abbrev pub group_labels : Group → List Label
group_labels (Group' labels _ row) = labels

-- the labels of all groups
abbrev pub all_labels : {m : _} → Row_of-Group m → List Label
all_labels end_of-Group = []
all_labels (more_of-Group g rest) = group_labels g ++ all_labels rest

-- no label stands twice (C99 6.8.4.2)
abbrev pub AreDistinct : List Label → Type 0
AreDistinct labels = All (λ a. count_by (same_label a) labels ≡ 1) labels

-- a statement is well-formed where it stands: its expressions fit, jumps have something to leave, and its properties
-- exist
abbrev mutual
  pub FitsStmt : Scope → SNode → Type 0
  FitsStmt c (Block' _ row) = FitsRow c row
  FitsStmt c (Declare x init) = FitsDeclare c x init
  FitsStmt c (Store target init) = FitsTarget c target × FitsInit c false (slot_type c.program target.slot) init
  FitsStmt c (Update target u) = FitsTarget c target × FitsUpdate c u
  FitsStmt c (Call call) = FitsCall c call
  FitsStmt c (If' e _ (more_of-TStmt q a _) other) = FitsExpr c e × FitsStmt c a × FitsOther c other
  FitsStmt c (Loop loop) = FitsLoop c loop
  FitsStmt c (Switch' e _ groups) = FitsExpr c e × IsPromoted e.ty × FitsGroups (in_a_switch c) e.ty groups × AreDistinct (all_labels groups)
  FitsStmt c Break = IsTrue c.may_break
  FitsStmt c Continue = IsTrue c.in_loop
  FitsStmt c (Return init) = (fn : Function) × (slice_get c.program.functions c.here ≡ Some fn) × FitsReturn c fn.result init
  FitsStmt c (Assert e prop) = FitsExpr c e × IsProp c.program kind.Assertion prop
  FitsStmt c (Assume e) = FitsExpr c e
  FitsStmt c SetInputs = Unit {0}
  FitsStmt c (NextFrame prop) = IsProp c.program kind.Frame prop

  -- each statement of a list sees what is declared before it
  pub FitsRow : {m : _} → Scope → Row_of-TStmt m → Type 0
  FitsRow c end_of-TStmt = Unit {0}
  FitsRow c (more_of-TStmt p a rest) = FitsStmt c a × FitsRow (with_scope_locals c (declared_behind a c.locals)) rest

  -- the `else` part of an `if`, if there is one
  pub FitsOther : Scope → Held-SNode-If-2 → Type 0
  FitsOther c None' = Unit {0}
  FitsOther c (Some' _ (more_of-TStmt p a _)) = FitsStmt c a

  -- the last part of a `for`, if there is one, is a simple statement
  pub FitsStep : Scope → Held-SNode-If-2 → Type 0
  FitsStep c None' = Unit {0}
  FitsStep c (Some' _ (more_of-TStmt p a _)) = IsTrue (is_simple a) × FitsStmt c a

  -- the condition, the turn and the last part see what the first part declares
  pub FitsLoop : Scope → TLoop → Type 0
  FitsLoop c (TLoop' tests_first _ heads cond step _ (more_of-TStmt p body _) prop) =
      let inner = in_a_loop (with_scope_locals c (behind_row heads c.locals)) in
      FitsRow c heads × IsTrue (is_loop tests_first heads cond step) × FitsOption inner cond × FitsStep inner step × FitsStmt inner body × IsProp c.program kind.Unwind prop

  -- each group of a switch over an expression of this type
  pub FitsGroups : {m : _} → Scope → IntType → Row_of-Group m → Type 0
  FitsGroups c t end_of-Group = Unit {0}
  FitsGroups c t (more_of-Group g rest) = FitsGroup c t g × FitsGroups c t rest

  -- some label, constants of the type, and statements that fit
  pub FitsGroup : Scope → IntType → Group → Type 0
  FitsGroup c t (Group' labels _ row) = (0 < length labels) × All (FitsLabel t) labels × FitsRow c row

-- the places of `locals` that the statements declare, in order
abbrev mutual
  pub declared_in : SNode → List ℕ
  declared_in (Block' _ row) = declared_in_row row
  declared_in (Declare x init) = x ∷ []
  declared_in (Store target init) = []
  declared_in (Update target u) = []
  declared_in (Call call) = []
  declared_in (If' e _ (more_of-TStmt q a _) other) = declared_in a ++ declared_in_other other
  declared_in (Loop loop) = declared_in_loop loop
  declared_in (Switch' e _ groups) = declared_in_groups groups
  declared_in Break = []
  declared_in Continue = []
  declared_in (Return init) = []
  declared_in (Assert e prop) = []
  declared_in (Assume e) = []
  declared_in SetInputs = []
  declared_in (NextFrame prop) = []

  -- statements one after another
  pub declared_in_row : {m : _} → Row_of-TStmt m → List ℕ
  declared_in_row end_of-TStmt = []
  declared_in_row (more_of-TStmt p a rest) = declared_in a ++ declared_in_row rest

  -- the `else` part of an `if`, if there is one
  pub declared_in_other : Held-SNode-If-2 → List ℕ
  declared_in_other None' = []
  declared_in_other (Some' _ (more_of-TStmt p a _)) = declared_in a

  -- the first part of a loop, and its body; the last part declares nothing
  pub declared_in_loop : TLoop → List ℕ
  declared_in_loop (TLoop' tests_first _ heads cond step _ (more_of-TStmt p body _) prop) = declared_in_row heads ++ declared_in body

  -- the groups of a switch, in order
  pub declared_in_groups : {m : _} → Row_of-Group m → List ℕ
  declared_in_groups end_of-Group = []
  declared_in_groups (more_of-Group g rest) = declared_in_group g ++ declared_in_groups rest

  -- the statements behind labels
  pub declared_in_group : Group → List ℕ
  declared_in_group (Group' labels _ row) = declared_in_row row

-- the places from one on
abbrev pub places_from : (first n : ℕ) → List ℕ
places_from first zero = []
places_from first (suc n) = first ∷ places_from (suc first) n

-- the variables that a body declares stand in `locals` behind its function's parameters, one after another, in text order
abbrev pub AreTogether : Function → TStmt → Type 0
AreTogether fn body =
    let own = declared_in body.node in own ≡ places_from (fn.first + fn.params) (length own)

-- the locals that a function's body declares, its parameters first
abbrev pub declared_by_body : Function → Option TStmt → List ℕ
declared_by_body fn None = []
declared_by_body fn (Some body) = places_from fn.first fn.params ++ declared_in body.node

-- the places of `locals` that functions declare
abbrev pub declared_by : List Function → List ℕ
declared_by [] = []
declared_by (fn ∷ fns) = declared_by_body fn fn.body ++ declared_by fns

-- no parameter is an array
abbrev pub ArePlain : CProgram → (first n : ℕ) → Type 0
ArePlain p first n = All (λ x. slot_length p (Local x) ≡ 0) (places_from first n)

-- the scope in which a function's body begins: its parameters are declared
abbrev pub scope_of : CProgram → (function : ℕ) → Function → Scope
scope_of p f fn = record { program = p; here = f; locals = places_from fn.first fn.params; in_loop = false; may_break = false }

-- the `recursion` properties of a name
abbrev pub recursions : CProgram → List ℕ → ℕ
recursions p name = count_by (λ x. is_recursion x.kind && bytes_eq x.function name) p.props

-- the functions with a body and a name
abbrev pub bodies : CProgram → List ℕ → ℕ
bodies p name = count_by (λ fn. is_some fn.body && bytes_eq fn.name name) p.functions

-- a body: its statements fit, its locals stand together in text order, and it has a `recursion` property and its name alone
abbrev pub FitsBody : CProgram → ℕ → Function → Option TStmt → Type 0
FitsBody p f fn None = (fn.first ≡ 0) × (fn.params ≡ 0)
FitsBody p f fn (Some body) =
    (fn.first + fn.params ≤ length p.locals) × ArePlain p fn.first fn.params × FitsStmt (scope_of p f fn) body.node
    × AreTogether fn body × (recursions p fn.name ≡ 1) × (bodies p fn.name ≡ 1)

-- a function: the type of its result, and its body
pub record FitsFunction (p : CProgram) (f : ℕ) (fn : Function) : Type 0 where
  pub result : IfSome fn.result IsType
  pub body : FitsBody p f fn fn.body

-- an object: its type, its length, and first values within both
pub record FitsVar (x : Var) : Type 0 where
  pub type : IsType x.ty
  pub firsts : All (InRange x.ty) x.firsts
  pub few : length x.firsts ≤ element_count x.length

-- a member of the mirror: a type or a struct
pub record FitsMember (m : AMember) : Type 0 where
  pub type : IfSome m.ty IsType

-- a typed program: each of its parts fits, and `main` has a body and no parameter
pub record FitsProgram (p : CProgram) : Type 0 where
  pub functions : (f : ℕ) (fn : Function) → slice_get p.functions f ≡ Some fn → FitsFunction p f fn
  pub globals : All FitsVar p.globals
  pub locals : All FitsVar p.locals
  pub members : All FitsMember (members_of p.mirror)
  -- each local is declared once, as a parameter or by a statement
  pub declared : (x : ℕ) → x < length p.locals → count_by (eqb x) (declared_by p.functions) ≡ 1
  -- `main` has a body and no parameter
  pub main : (fn : Function) × (slice_get p.functions p.main ≡ Some fn) × IsSome fn.body × (fn.params ≡ 0)
  -- and places fit their numbers
  pub few_locals : length p.locals < 2 ^ 32
  pub few_globals : length p.globals < 2 ^ 32
  pub few_members : length (members_of p.mirror) < 2 ^ 32
  pub few_props : length p.props < 2 ^ 32
  pub few_functions : length p.functions < 2 ^ 32

-- a signal has 1 to 64 bits, and only a register has words
pub record FitsSignal (s : Signal) : Type 0 where
  pub some : 1 ≤ s.bits
  pub few : s.bits ≤ 64
  pub memory : (0 < s.words) → s.role ≡ Register
  pub clock : s.role ≡ Clock → s.bits ≡ 1

-- an unknown word has 1 to 64 bits
pub record FitsSite (s : Site) : Type 0 where
  pub some : 1 ≤ s.bits
  pub few : s.bits ≤ 64

-- terms of given widths
pub record AreTerms (g : Graph) (ids : List TermId) (widths : List ℕ) : Type 0 where
  pub there : All (λ (t : TermId). t.0 < length g.terms) ids
  pub sized : map (λ (t : TermId). width_in g t.0) ids ≡ widths

-- the first values are below 2^bits
abbrev pub FitFirsts : List (Option ℕ) → List ℕ → Type 0
FitFirsts [] [] = Unit {0}
FitFirsts [] (w ∷ widths) = ⊥
FitFirsts (first ∷ firsts) [] = ⊥
FitFirsts (first ∷ firsts) (w ∷ widths) = IfSome first (λ n. n < 2 ^ w) × FitFirsts firsts widths

-- terms, and the number of those that are no variable, are within a weight, with 8 times the bits of the sites
pub record IsWithin (g : Graph) (sites : List ℕ) (weight : ℕ) : Type 0 where
  pub gates : term_gates g + 8 * sum_of sites ≤ 8 * weight
  pub terms : count_by is_no_var g.terms + 8 * sum_of sites ≤ 8 * weight

-- a module: its signals, its terms over its variables, its first values, and its weights
pub record FitsModule (m : FlatModule) : Type 0 where
  pub signals : All FitsSignal m.signals
  pub settle_sites : All FitsSite m.settle_sites
  pub edge_sites : All FitsSite m.edge_sites
  pub firsts : FitFirsts m.firsts (widths_of Register m.signals)
  pub settle_vars : m.settle_terms.vars ≡ widths_of Register m.signals ++ widths_of Input m.signals ++ site_widths m.settle_sites
  pub settled : AreTerms m.settle_terms m.settled (widths_of Wire m.signals)
  pub edge_vars : m.edge_terms.vars ≡ widths_of Register m.signals ++ widths_of Input m.signals ++ widths_of Wire m.signals ++ site_widths m.edge_sites
  pub next : AreTerms m.edge_terms m.next (widths_of Register m.signals)
  pub settle_weight : IsWithin m.settle_terms (site_widths m.settle_sites) m.settle_weight
  pub edge_weight : IsWithin m.edge_terms (site_widths m.edge_sites) m.edge_weight
  pub few_signals : length m.signals < 2 ^ 32

-- a member and the signal that it mirrors: an array of a memory's length, and at least as many bits; `_Bool` has one
abbrev pub FitsMirror : AMember → Signal → Type 0
FitsMirror m s = (m.length ≡ s.words) × IfSome m.ty (λ t. s.bits ≤ t.bits)

-- a link: a member and a signal of one shape, the member no narrower
abbrev pub FitsLink : Pair → Link → Type 0
FitsLink p link =
    (m : AMember) × (s : Signal) × (slice_get (members_of p.program.mirror) link.member ≡ Some m) × (slice_get p.module.signals link.signal ≡ Some s)
    × IsSome m.ty × FitsMirror m s

-- the links of a member
abbrev pub links_of : Pair → (member : ℕ) → ℕ
links_of p i = count_by (λ link. eqb link.member i) p.binding.links

-- each member that is no struct has one link, and no signal has two
pub record FitsBinding (p : Pair) : Type 0 where
  pub links : All (FitsLink p) p.binding.links
  -- each member that is no struct has one link, and no two links name one signal
  pub members : (i : ℕ) (m : AMember) → slice_get (members_of p.program.mirror) i ≡ Some m → IsSome m.ty → links_of p i ≡ 1
  pub signals : All (λ link. count_by (λ other. eqb other.signal link.signal) p.binding.links ≡ 1) p.binding.links

-- a pair is well-formed: its program, its module and what binds them
pub record IsWellFormed (p : Pair) : Type 0 where
  pub program : FitsProgram p.program
  pub module_ : FitsModule p.module
  pub binding : FitsBinding p
