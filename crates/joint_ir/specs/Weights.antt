-- What a pair weighs: a measure of the gates that its unwinding makes, by recursion on the trees, with the limits of loops
-- and the activations that stand.
use Rattle.std.specs.Prelude.{ℕ, zero, suc, ◌+◌, ◌-◌, ◌*◌, Bool, true, false, if◌then◌else◌, max, min, List, [], ◌∷◌, ◌++◌, length, sum_by, slice_get}
use Rattle.std.specs.Prelude.{Option, Some, None}
use Rattle.joint_ir.specs.declared.bounds.Bounds.{Bounds}
use Rattle.joint_ir.specs.declared.ctype.IntType.{IntType}
use Rattle.joint_ir.specs.declared.expr.BinaryOp.{BinaryOp}
use Rattle.joint_ir.specs.declared.expr.BinaryOp.TheVariants.{Add, Sub, Mul, Div, Rem, Shl, Shr, And, Or, Xor, Eq, Ne, Lt, Le, Gt, Ge}
use Rattle.joint_ir.specs.declared.expr.Slot.{Slot}
use Rattle.joint_ir.specs.declared.expr.Slot.TheVariants.{Global, Local, Member, BoundValue}
use Rattle.joint_ir.specs.declared.expr.TExpr.{TExpr}
use Rattle.joint_ir.specs.declared.expr.TNode.{TNode, Const, Read, Index', Unary', Binary', Logic', Choose', Convert', more_of-TExpr}
use Rattle.joint_ir.specs.declared.expr.UnaryOp.{UnaryOp}
use Rattle.joint_ir.specs.declared.expr.UnaryOp.TheVariants.{Plus, Minus, Flip, Not}
use Rattle.joint_ir.specs.declared.module.Role.{Role}
use Rattle.joint_ir.specs.declared.module.Role.TheVariants.{Input, Register}
use Rattle.joint_ir.specs.declared.module.Signal.{Signal}
use Rattle.joint_ir.specs.declared.pair.Pair.{Pair}
use Rattle.joint_ir.specs.declared.program.CProgram.{CProgram}
use Rattle.joint_ir.specs.declared.program.Function.{Function}
use Rattle.joint_ir.specs.declared.program.Member.{Member as AMember}
use Rattle.joint_ir.specs.declared.program.Var.{Var}
use Rattle.joint_ir.specs.declared.stmt.Group.{Group, Group'}
use Rattle.joint_ir.specs.declared.stmt.SNode.{SNode, Block', Declare, Store, Update, Call, If', Loop, Switch', Break, Continue, Return, Assert, Assume, SetInputs, NextFrame, Row_of-TStmt, end_of-TStmt, more_of-TStmt, Row_of-Group, end_of-Group, more_of-Group, Held-SNode-If-2, None', Some'}
use Rattle.joint_ir.specs.declared.stmt.TCall.{TCall}
use Rattle.joint_ir.specs.declared.stmt.TInit.{TInit}
use Rattle.joint_ir.specs.declared.stmt.TInit.TheVariants.{Free, Values, Called}
use Rattle.joint_ir.specs.declared.stmt.TLoop.{TLoop, TLoop'}
use Rattle.joint_ir.specs.declared.stmt.TStmt.{TStmt}
use Rattle.joint_ir.specs.declared.stmt.TTarget.{TTarget}
use Rattle.joint_ir.specs.declared.stmt.TUpdate.{TUpdate}
use Rattle.joint_ir.specs.States.{element_count}
use Rattle.joint_ir.specs.Views.{same_role, members_of}
use Rattle.joint_ir.specs.Steps.{Setting, limit_of, slot_type, result_of}
use Rattle.joint_ir.specs.Statements.{ACTIVATIONS, is_below_limit}
use Rattle.joint_ir.specs.Runs.{body_of}

-- the number of elements of an array, and 0 for what is no array
abbrev pub var_length : Option Var → ℕ
var_length None = 0
var_length (Some x) = x.length

-- the number of elements of a member that is an array, and 0 for another
abbrev pub member_length : Option AMember → ℕ
member_length None = 0
member_length (Some m) = m.length

-- the number of elements of an object that is an array, and 0 for another
abbrev pub slot_length : CProgram → Slot → ℕ
slot_length p (Global i) = var_length (slice_get p.globals i)
slot_length p (Local i) = var_length (slice_get p.locals i)
slot_length p (Member i) = member_length (slice_get (members_of p.mirror) i)
slot_length p BoundValue = 0

-- a unary operator of a type, v being the width of its operand
abbrev pub unary_weight : UnaryOp → IntType → (v : ℕ) → ℕ
unary_weight Plus t v = 0
unary_weight Minus t v = 10 * t.bits + 32
unary_weight Flip t v = 0
unary_weight Not t v = v + 8

-- a product of a type
abbrev pub product_weight : IntType → ℕ
product_weight t = if t.signed then 44 * (t.bits * t.bits) + 8 * t.bits + 32 else 11 * (t.bits * t.bits) + 32

-- a binary operator of a type, u and v being the widths of its operands
abbrev pub binary_weight : BinaryOp → IntType → (u v : ℕ) → ℕ
binary_weight Add t u v = 10 * t.bits + 32
binary_weight Sub t u v = 10 * t.bits + 32
binary_weight Mul t u v = product_weight t
binary_weight Div t u v = 16 * (t.bits * t.bits) + 96 * t.bits + 32
binary_weight Rem t u v = 16 * (t.bits * t.bits) + 96 * t.bits + 32
binary_weight Shl t u v = 84 * max t.bits v + 12 * v + 32
binary_weight Shr t u v = 84 * max t.bits v + 12 * v + 32
binary_weight And t u v = t.bits
binary_weight Or t u v = t.bits
binary_weight Xor t u v = 3 * t.bits
binary_weight Eq t u v = 4 * u
binary_weight Ne t u v = 4 * u
binary_weight Lt t u v = 10 * u
binary_weight Le t u v = 10 * u
binary_weight Gt t u v = 10 * u
binary_weight Ge t u v = 10 * u

-- an element read, and an element stored besides the store: n elements of w bits, and an index of v bits
abbrev pub read_weight : (n v w : ℕ) → ℕ
read_weight n v w = n * (v + 2 * w) + 20 * v + 32

-- an element stored, besides the store: n elements of w bits, and an index of v bits
abbrev pub write_weight : (n v w : ℕ) → ℕ
write_weight n v w = n * (v + 3 * w + 1) + 20 * v + 32

-- a conversion to `_Bool` of an operand of v bits
abbrev pub convert_weight : IntType → (v : ℕ) → ℕ
convert_weight t v = if t.truth then v else 0

-- a node of a type; each node counts 4 besides
abbrev pub node_weight : CProgram → IntType → TNode → ℕ
node_weight p t (Const n) = 4
node_weight p t (Read slot) = 4
node_weight p t (Index' slot _ (more_of-TExpr u q a _) prop) = node_weight p u a + read_weight (slot_length p slot) u.bits t.bits + 4
node_weight p t (Unary' op _ (more_of-TExpr u q a _) prop) = node_weight p u a + unary_weight op t u.bits + 4
node_weight p t (Binary' op _ (more_of-TExpr u q a _) _ (more_of-TExpr v r b _) d prop) =
    node_weight p u a + node_weight p v b + binary_weight op t u.bits v.bits + 4
node_weight p t (Logic' op _ (more_of-TExpr u q a _) _ (more_of-TExpr v r b _)) =
    node_weight p u a + node_weight p v b + (u.bits + v.bits + 8) + 4
node_weight p t (Choose' _ (more_of-TExpr u q c _) _ (more_of-TExpr v r a _) _ (more_of-TExpr w s b _)) =
    node_weight p u c + node_weight p v a + node_weight p w b + (3 * t.bits + u.bits + 8) + 4
node_weight p t (Convert' _ (more_of-TExpr u q a _)) = node_weight p u a + convert_weight t u.bits + 4

-- an expression
abbrev pub expr_weight : CProgram → TExpr → ℕ
expr_weight p e = node_weight p e.ty e.node

-- expressions, together
abbrev pub exprs_weight : CProgram → List TExpr → ℕ
exprs_weight p es = sum_by (expr_weight p) es

-- an expression that may be left out
abbrev pub option_weight : CProgram → Option TExpr → ℕ
option_weight p None = 0
option_weight p (Some e) = expr_weight p e

-- the width of an expression that may be left out, 0 where it is
abbrev pub option_bits : Option TExpr → ℕ
option_bits None = 0
option_bits (Some e) = e.ty.bits

-- a condition with its width
abbrev pub condition_weight : CProgram → Option TExpr → ℕ
condition_weight p None = 0
condition_weight p (Some e) = expr_weight p e + e.ty.bits

-- what a call of a function weighs besides its arguments
abbrev pub CallWeights : Type 0
CallWeights = (function : ℕ) → ℕ

-- a call: its arguments and its function
abbrev pub call_weight : CProgram → CallWeights → TCall → ℕ
call_weight p calls call = exprs_weight p call.args + calls call.function

-- what an object is set to
abbrev pub init_weight : CProgram → CallWeights → TInit → ℕ
init_weight p calls Free = 0
init_weight p calls (Values es) = exprs_weight p es
init_weight p calls (Called call) = call_weight p calls call

-- a store to an object of w bits
abbrev pub store_weight : (w : ℕ) → ℕ
store_weight w = 3 * w + 16

-- the index of a target of n elements of w bits, with what it adds to a store
abbrev pub index_weight : CProgram → (n w : ℕ) → Option TExpr → ℕ
index_weight p n w None = 0
index_weight p n w (Some e) = expr_weight p e + write_weight n e.ty.bits w

-- a store to a target, with its index
abbrev pub target_weight : CProgram → TTarget → ℕ
target_weight p target =
    let w = (slot_type p target.slot).bits in store_weight w + index_weight p (slot_length p target.slot) w target.index

-- the old value of an update, which is read through an index
abbrev pub old_weight : (n w : ℕ) → Option TExpr → ℕ
old_weight n w None = 0
old_weight n w (Some e) = read_weight n e.ty.bits w + 4

-- `op=`, `++` and `--`: the store, the old value and the operator
abbrev pub update_weight : CProgram → TTarget → TUpdate → ℕ
update_weight p target u =
    target_weight p target + old_weight (slot_length p target.slot) (slot_type p target.slot).bits target.index
    + (option_weight p u.right + binary_weight u.op u.ty u.ty.bits (option_bits u.right) + 4)

-- the elements of an object that is declared
abbrev pub elements_weight : Option Var → ℕ
elements_weight None = 0
elements_weight (Some x) = element_count x.length * (4 * x.ty.bits + 16)

-- a declaration: its elements and what they are set to
abbrev pub declare_weight : CProgram → CallWeights → Option Var → TInit → ℕ
declare_weight p calls var init = elements_weight var + init_weight p calls init

-- the width of a type, 0 where there is none
abbrev pub bits_or_zero : Option IntType → ℕ
bits_or_zero None = 0
bits_or_zero (Some t) = t.bits

-- a `return`: a store of the function's result
abbrev pub return_weight : Setting → CallWeights → Option TInit → ℕ
return_weight k calls None = 16
return_weight k calls (Some init) =
    store_weight (bits_or_zero (result_of (slice_get k.pair.program.functions k.here))) + init_weight k.pair.program calls init

-- the bits of the inputs other than the clock, of the registers, and of the members of the mirror
abbrev pub sum_of : List ℕ → ℕ
sum_of ns = sum_by (λ n. n) ns

-- the bits of a signal of a role, all words of a memory
abbrev pub role_bits : Role → Signal → ℕ
role_bits role s = if same_role role s.role then element_count s.words * s.bits else 0

-- the bits of the top's inputs but the clock
abbrev pub input_bits : Pair → ℕ
input_bits p = sum_by (role_bits Input) p.module.signals

-- the bits of all registers and memories
abbrev pub register_bits : Pair → ℕ
register_bits p = sum_by (role_bits Register) p.module.signals

-- the bits of a member, all elements of an array; a struct has none of its own
abbrev pub member_bits : AMember → ℕ
member_bits m = element_count m.length * bits_or_zero m.ty

-- the bits of all members of the mirror
abbrev pub mirror_bits : Pair → ℕ
mirror_bits p = sum_by member_bits (members_of p.program.mirror)

-- `set_inputs()`: a settling, the inputs and the mirror
abbrev pub drive_weight : Pair → ℕ
drive_weight p = p.module.settle_weight + 3 * input_bits p + 3 * mirror_bits p + 64

-- `next_timeframe()`: an edge, a settling, the registers, the inputs and the mirror
abbrev pub frame_weight : Pair → ℕ
frame_weight p =
    p.module.edge_weight + p.module.settle_weight + 3 * register_bits p + 4 * input_bits p + 3 * mirror_bits p + 256

-- n turns of a loop whose condition and turn weigh so much, and one test more
abbrev pub turns_weight : (n condition turn : ℕ) → ℕ
turns_weight n condition turn = n * (condition + turn + 16) + condition + 16

-- what a statement weighs, with all that stands in it
abbrev mutual
  pub weight : Setting → CallWeights → SNode → ℕ
  weight k calls (Block' _ row) = row_weight k calls row + 16
  weight k calls (Declare x init) = declare_weight k.pair.program calls (slice_get k.pair.program.locals x) init
  weight k calls (Store target init) = target_weight k.pair.program target + init_weight k.pair.program calls init
  weight k calls (Update target update) = update_weight k.pair.program target update
  weight k calls (Call call) = call_weight k.pair.program calls call
  weight k calls (If' e _ (more_of-TStmt q a _) other) =
      expr_weight k.pair.program e + e.ty.bits + 16 + weight k calls a + other_weight k calls other
  weight k calls (Loop loop) = loop_weight k calls loop
  weight k calls (Switch' e _ groups) = expr_weight k.pair.program e + groups_weight k calls e.ty.bits groups + 16
  weight k calls Break = 16
  weight k calls Continue = 16
  weight k calls (Return init) = return_weight k calls init
  weight k calls (Assert e prop) = expr_weight k.pair.program e + e.ty.bits + 16
  weight k calls (Assume e) = expr_weight k.pair.program e + e.ty.bits + 16
  weight k calls SetInputs = drive_weight k.pair
  weight k calls (NextFrame prop) = frame_weight k.pair

  -- statements one after another
  pub row_weight : {m : _} → Setting → CallWeights → Row_of-TStmt m → ℕ
  row_weight k calls end_of-TStmt = 0
  row_weight k calls (more_of-TStmt p a rest) = weight k calls a + row_weight k calls rest

  -- the `else` part of an `if`, or the last part of a `for`, if there is one
  pub other_weight : Setting → CallWeights → Held-SNode-If-2 → ℕ
  other_weight k calls None' = 0
  other_weight k calls (Some' _ (more_of-TStmt p a _)) = weight k calls a

  -- the first part of a loop, and as many turns as its limit allows
  pub loop_weight : Setting → CallWeights → TLoop → ℕ
  loop_weight k calls (TLoop' tests_first _ heads cond step _ (more_of-TStmt p body _) prop) =
      row_weight k calls heads
      + turns_weight (limit_of k.bounds prop) (condition_weight k.pair.program cond) (weight k calls body + other_weight k calls step)

  -- the groups of a switch over a type of w bits
  pub groups_weight : {m : _} → Setting → CallWeights → (w : ℕ) → Row_of-Group m → ℕ
  groups_weight k calls w end_of-Group = 0
  groups_weight k calls w (more_of-Group g rest) = group_weight k calls w g + groups_weight k calls w rest

  -- each label is compared with the number, then come the statements
  pub group_weight : Setting → CallWeights → (w : ℕ) → Group → ℕ
  group_weight k calls w (Group' labels _ row) = length labels * (4 * w + 16) + row_weight k calls row

-- the width of an object, 0 where there is none
abbrev pub var_bits : Option Var → ℕ
var_bits None = 0
var_bits (Some x) = x.ty.bits

-- the parameters of a function, which take their arguments by stores
abbrev pub params_weight : List Var → (first n : ℕ) → ℕ
params_weight locals first zero = 0
params_weight locals first (suc n) = store_weight (var_bits (slice_get locals first)) + params_weight locals (suc first) n

-- a function with a body: its entry, its parameters, its result and its body
abbrev pub body_weight : Pair → Bounds → (inner : CallWeights) → (function : ℕ) → Function → TStmt → ℕ
body_weight p b inner f fn body =
    32 + params_weight p.program.locals fn.first fn.params + 4 * bits_or_zero fn.result
    + weight (record { pair = p; bounds = b; here = f }) inner body.node

-- a function without body weighs its result; one that may not be entered weighs 16
abbrev pub entered_weight : Pair → Bounds → (may_enter : Bool) → (inner : CallWeights) → (function : ℕ) → Function → Option TStmt → ℕ
entered_weight p b may_enter inner f fn None = bits_or_zero fn.result + 16
entered_weight p b true inner f fn (Some body) = body_weight p b inner f fn body
entered_weight p b false inner f fn (Some body) = 16

-- a function that is called, by its number
abbrev pub function_weight : Pair → Bounds → (may_enter : Function → Bool) → (inner : CallWeights) → (function : ℕ) → Option Function → ℕ
function_weight p b may_enter inner f None = 0
function_weight p b may_enter inner f (Some fn) = entered_weight p b (may_enter fn) inner f fn fn.body

-- calls where `left` more activations may stand, and those of the functions in `standing` do
abbrev pub calls_weight : Pair → Bounds → (left : ℕ) → (standing : List ℕ) → CallWeights
calls_weight p b zero standing f = function_weight p b (λ fn. false) (λ g. 0) f (slice_get p.program.functions f)
calls_weight p b (suc left) standing f =
    function_weight p b (is_below_limit p b standing f) (calls_weight p b left (standing ++ f ∷ [])) f (slice_get p.program.functions f)

-- the body of `main`, one activation of which stands
abbrev pub main_weight : Pair → Bounds → Option TStmt → ℕ
main_weight p b None = 0
main_weight p b (Some body) =
    let k : Setting = record { pair = p; bounds = b; here = p.program.main } in
    weight k (calls_weight p b (ACTIVATIONS - 1) (p.program.main ∷ [])) body.node

-- the file-scope elements
abbrev pub globals_weight : List Var → ℕ
globals_weight vars = sum_by (λ x. 16 * element_count x.length) vars

-- the weight of a pair under bounds
abbrev pub weight_of : Pair → Bounds → ℕ
weight_of p b =
    64 + register_bits p + input_bits p + p.module.settle_weight + mirror_bits p + globals_weight p.program.globals
    + main_weight p b (body_of (slice_get p.program.functions p.program.main))

-- the greatest weight that is unwound is 2^24; a greater one is told as one more
abbrev pub capped : ℕ → ℕ
capped w = min w 16777217
