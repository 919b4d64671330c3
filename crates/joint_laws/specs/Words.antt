-- Words in which small programs are written. Each part stands on line 1.
use Rattle.std.specs.Prelude.{ℕ, false, pos, ℤ, List, [], ◌∷◌, Some, None}
use Rattle.src_text.specs.declared.refusal.Place.{Place}
use Rattle.joint_ir.specs.declared.bounds.Bounds.{Bounds}
use Rattle.joint_ir.specs.declared.ctype.IntType.{IntType}
use Rattle.joint_ir.specs.declared.event.Event.{Event}
use Rattle.joint_ir.specs.declared.event.Event.TheVariants.{Frame, Stored}
use Rattle.joint_ir.specs.declared.expr.BinaryOp.{BinaryOp}
use Rattle.joint_ir.specs.declared.expr.BinaryOp.TheVariants as binary
use Rattle.joint_ir.specs.declared.expr.Slot.{Slot}
use Rattle.joint_ir.specs.declared.expr.Slot.TheVariants.{Local, Member as InMirror}
use Rattle.joint_ir.specs.declared.expr.TExpr.{TExpr}
use Rattle.joint_ir.specs.declared.expr.TNode.{TNode, Const, Read, Binary, Convert}
use Rattle.joint_ir.specs.declared.module.FlatModule.{FlatModule}
use Rattle.joint_ir.specs.declared.module.Role.{Role}
use Rattle.joint_ir.specs.declared.module.Signal.{Signal}
use Rattle.joint_ir.specs.declared.pair.Link.{Link}
use Rattle.joint_ir.specs.declared.pair.Pair.{Pair}
use Rattle.joint_ir.specs.declared.program.Function.{Function}
use Rattle.joint_ir.specs.declared.program.Member.{Member}
use Rattle.joint_ir.specs.declared.program.Prop.{Prop}
use Rattle.joint_ir.specs.declared.program.PropId.{PropId}
use Rattle.joint_ir.specs.declared.program.PropKind.{PropKind}
use Rattle.joint_ir.specs.declared.program.PropKind.TheVariants as kind
use Rattle.joint_ir.specs.declared.program.Var.{Var}
use Rattle.joint_ir.specs.declared.stmt.SNode.{SNode, Block, Declare, Store, Update}
use Rattle.joint_ir.specs.declared.stmt.TInit.TheVariants.{Values}
use Rattle.joint_ir.specs.declared.stmt.TStmt.{TStmt}
use Rattle.joint_ir.specs.declared.stmt.TTarget.{TTarget}
use Rattle.joint_ir.specs.Effects.{Told}
use Rattle.joint_ir.specs.Types.{int}

-- line 1, column 1
abbrev pub here : Place
here = record { line = 1; column = 1 }

-- `unsigned char`
abbrev pub byte : IntType
byte = record { bits = 8; signed = false; truth = false }

-- `unsigned int`
abbrev pub unsigned_int : IntType
unsigned_int = record { bits = 32; signed = false; truth = false }

-- the property with a number
abbrev pub prop : ℕ → PropId
prop i = record { 0 = i }

-- an expression of a type
abbrev pub expr : IntType → TNode → TExpr
expr ty node = record { ty = ty; place = here; node = node }

-- a statement
abbrev pub stmt : SNode → TStmt
stmt node = record { place = here; node = node }

-- statements, in order
abbrev pub stmts : List SNode → List TStmt
stmts [] = []
stmts (s ∷ rest) = stmt s ∷ stmts rest

-- a constant of type `int`
abbrev pub number : ℕ → TExpr
number n = expr int (Const (pos n))

-- the value of a local of type `int`
abbrev pub local : ℕ → TExpr
local x = expr int (Read (Local x))

-- a member of 8 bits, as an `int`
abbrev pub member : ℕ → TExpr
member i = expr int (Convert (expr byte (Read (InMirror i))))

-- an operator of `int` with its property, if it has one
abbrev pub sum : TExpr → TExpr → PropId → TExpr
sum a b p = expr int (Binary binary.Add a b None (Some p))

-- a comparison, which is an `int`
abbrev pub compare : BinaryOp → TExpr → TExpr → TExpr
compare op a b = expr int (Binary op a b None None)

-- an object that is assigned as a whole
abbrev pub target : Slot → TTarget
target slot = record { place = here; slot = slot; index = None; bounds = None }

-- `int x = e;`
abbrev pub declared : (x : ℕ) → TExpr → SNode
declared x e = Declare x (Values (e ∷ []))

-- `x = e;`
abbrev pub stored : (x : ℕ) → TExpr → SNode
stored x e = Store (target (Local x)) (Values (e ∷ []))

-- `x++`
abbrev pub stepped : (x : ℕ) → PropId → SNode
stepped x p = Update (target (Local x)) (record { op = binary.Add; ty = int; right = None; division = None; other = Some p })

-- an object of a type: with the length 0 no array
abbrev pub var : IntType → (length : ℕ) → Var
var ty n = record { name = []; ty = ty; length = n; firsts = []; constant = false }

-- an object of type `int`
abbrev pub int_var : Var
int_var = var int 0

-- a function without body, and `main`
abbrev pub nondet : IntType → Function
nondet ty = record { name = []; result = Some ty; first = 0; params = 0; body = None }

-- `main` with a body
abbrev pub main_of : List SNode → Function
main_of body = record { name = []; result = Some int; first = 0; params = 0; body = Some (stmt (Block (stmts body))) }

-- a property of a kind
abbrev pub property : PropKind → Prop
property k = record { function = []; kind = k; number = 1; line = 1 }

-- the properties of `main`, the last of which is its own
abbrev pub properties : List PropKind → List Prop
properties [] = property kind.Recursion ∷ []
properties (k ∷ kinds) = property k ∷ properties kinds

-- a scalar signal of so many bits, or a memory of so many words
abbrev pub signal : Role → (bits words : ℕ) → Signal
signal role bits words = record { path = []; bits = bits; signed = false; low = 0; words = words; role = role }

-- a member of the mirror of type `unsigned char`: with the length 0 no array
abbrev pub a_member : (length : ℕ) → Member
a_member n = record { path = []; place = here; ty = Some byte; length = n }

-- a pair: the functions, of which the first is `main`, the locals, the members with the signals that they mirror, and the
-- properties
abbrev pub pair_of : List Function → List Var → List Member → List Link → List Prop → FlatModule → Pair
pair_of functions locals members links props m = record {
  program = record {
    functions = functions;
    globals = [];
    locals = locals;
    mirror = Some (record { name = []; place = here; members = members });
    props = props;
    main = 0;
  };
  «module» = m;
  binding = record { links = links };
}

-- bounds of so many turns of each loop and so many frames
abbrev pub bounds_of : (turns frames : ℕ) → Bounds
bounds_of turns frames = record { unwind = turns; limits = []; frames = frames; check_bound = false }

-- a store into the local x, as it is seen
abbrev pub set : (x : ℕ) → ℤ → Event
set x n = Stored 1 (Local x) None n

-- a frame that shows one word, of the signal 1
abbrev pub frame : (edges value : ℕ) → Event
frame k n = Frame k ((record { signal = 1; word = 0; value = n }) ∷ [])

-- these events are seen, and numbers of these widths are drawn
abbrev pub told : List Event → (widths : List ℕ) → Told
told events widths = record { events = events; widths = widths }
