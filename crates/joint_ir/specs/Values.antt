-- The value of a typed expression, with the checks that it makes, operands first and from left to right (C99 6.5).
use Rattle.std.specs.Prelude.{ℕ, zero, suc, ◌^◌, Bool, true, false, not, if◌then◌else◌, nat_lt, bit_and, bit_or, bit_xor}
use Rattle.std.specs.Prelude.{ℤ, pos, negsuc, neg_ℤ, ◌+ℤ◌, ◌-ℤ◌, ◌*ℤ◌, int_div, int_rem, int_lt, int_le}
use Rattle.std.specs.Ordering.{int_eq}
use Rattle.std.specs.Prelude.{List, Option, Some, None, length, slice_index_or}
use Rattle.bits_core.specs.Word.{number, modulo, floor_div}
use Rattle.joint_ir.specs.declared.ctype.IntType.{IntType}
use Rattle.joint_ir.specs.declared.program.PropId.{PropId}
use Rattle.joint_ir.specs.declared.expr.Slot.{Slot}
use Rattle.joint_ir.specs.declared.expr.UnaryOp.{UnaryOp}
use Rattle.joint_ir.specs.declared.expr.UnaryOp.TheVariants.{Plus, Minus, Flip, Not}
use Rattle.joint_ir.specs.declared.expr.BinaryOp.{BinaryOp}
use Rattle.joint_ir.specs.declared.expr.BinaryOp.TheVariants.{Add, Sub, Mul, Div, Rem, Shl, Shr, And, Or, Xor, Eq, Ne, Lt, Le, Gt, Ge}
use Rattle.joint_ir.specs.declared.expr.LogicOp.{LogicOp}
use Rattle.joint_ir.specs.declared.expr.LogicOp.TheVariants as logic
use Rattle.joint_ir.specs.declared.expr.TExpr.{TExpr}
use Rattle.joint_ir.specs.declared.expr.TNode.{TNode, Const, Read, Index', Unary', Binary', Logic', Choose', Convert', more_of-TExpr}
use Rattle.joint_ir.specs.Types.{in_range, converted, truth_of}

-- a number, or the property that breaks
pub data Answer : Type 0 where
  Value : (n : ℤ) → Answer
  Fault : (p : PropId) → Answer

-- with a value go on; a check that breaks ends the evaluation
abbrev pub and_then : Answer → (ℤ → Answer) → Answer
and_then (Value n) go = go n
and_then (Fault p) go = Fault p

-- a check of a property, where one stands at the operator: it breaks where the test fails
abbrev pub checked : Option PropId → Bool → Answer → Answer
checked None test a = a
checked (Some p) true a = a
checked (Some p) false a = Fault p

-- the result of a comparison: 1 or 0, of type `int` (C99 6.5.8, 6.5.9)
abbrev pub bit_of : Bool → ℤ
bit_of true = pos 1
bit_of false = pos 0

-- the number compares equal to 0
abbrev pub is_zero : ℤ → Bool
is_zero (pos zero) = true
is_zero (pos (suc n)) = false
is_zero (negsuc n) = false

-- a result in a type: a check that it is in range, and then modulo 2^bits
abbrev pub result_in : IntType → Option PropId → ℤ → Answer
result_in t p n = checked p (in_range t n) (Value (converted t n))

-- an operation on the bits of two numbers of a type
abbrev pub bitwise : (ℕ → ℕ → ℕ) → IntType → ℤ → ℤ → ℤ
bitwise op t x y = number t.signed t.bits (op (modulo t.bits x) (modulo t.bits y))

-- x times 2^y, for an amount that isn't below 0
abbrev pub shifted_left : ℤ → ℤ → ℤ
shifted_left x (pos y) = x *ℤ pos (2 ^ y)
shifted_left x (negsuc y) = pos 0

-- x divided by 2^y and rounded down
abbrev pub shifted_right : ℤ → ℤ → ℤ
shifted_right x (pos y) = floor_div x (2 ^ y)
shifted_right x (negsuc y) = pos 0

-- an amount that a number of a type may be shifted by
abbrev pub is_amount : IntType → ℤ → Bool
is_amount t (pos y) = nat_lt y t.bits
is_amount t (negsuc y) = false

-- whether x may be shifted left by y: with a sign, x isn't below 0 and nothing is lost
abbrev pub may_shift_left : IntType → ℤ → ℤ → Bool
may_shift_left t x y =
    if is_amount t y then (if t.signed then (if int_lt x (pos 0) then false else in_range t (shifted_left x y)) else true)
    else false

-- a unary operator on its promoted operand (C99 6.5.3.3)
abbrev pub unary_value : UnaryOp → IntType → Option PropId → ℤ → Answer
unary_value Plus t p x = Value x
unary_value Minus t p x = result_in t p (neg_ℤ x)
unary_value Flip t p x = Value (converted t (neg_ℤ x -ℤ pos 1))
unary_value Not t p x = Value (bit_of (is_zero x))

-- an operator of a type; d is its `division` property, p its `overflow` or `shift` property
abbrev pub binary_value : BinaryOp → IntType → Option PropId → Option PropId → ℤ → ℤ → Answer
binary_value Add t d p x y = result_in t p (x +ℤ y)
binary_value Sub t d p x y = result_in t p (x -ℤ y)
binary_value Mul t d p x y = result_in t p (x *ℤ y)
binary_value Div t d p x y = checked d (not (is_zero y)) (result_in t p (int_div x y))
binary_value Rem t d p x y = checked d (not (is_zero y)) (checked p (in_range t (int_div x y)) (Value (int_rem x y)))
binary_value Shl t d p x y = checked p (may_shift_left t x y) (Value (converted t (shifted_left x y)))
binary_value Shr t d p x y = checked p (is_amount t y) (Value (shifted_right x y))
binary_value And t d p x y = Value (bitwise bit_and t x y)
binary_value Or t d p x y = Value (bitwise bit_or t x y)
binary_value Xor t d p x y = Value (bitwise bit_xor t x y)
binary_value Eq t d p x y = Value (bit_of (int_eq x y))
binary_value Ne t d p x y = Value (bit_of (not (int_eq x y)))
binary_value Lt t d p x y = Value (bit_of (int_lt x y))
binary_value Le t d p x y = Value (bit_of (int_le x y))
binary_value Gt t d p x y = Value (bit_of (int_lt y x))
binary_value Ge t d p x y = Value (bit_of (int_le y x))

-- what the left operand of `&&` or `||` decides; `right` is the right operand's answer
abbrev pub logic_value : LogicOp → ℤ → Answer → Answer
logic_value logic.And x right = if is_zero x then Value (pos 0) else and_then right (λ y. Value (truth_of y))
logic_value logic.Or x right = if is_zero x then and_then right (λ y. Value (truth_of y)) else Value (pos 1)

-- the elements of each object; one that is no array has one
abbrev pub Rows : Type 0
Rows = Slot → List ℤ

-- the first element, which is that of an object that is no array
abbrev pub first_of : List ℤ → ℤ
first_of row = slice_index_or row 0 (pos 0)

-- the element at an index, which is within the array
abbrev pub element_at : List ℤ → PropId → ℤ → Answer
element_at row p (pos i) = if nat_lt i (length row) then Value (slice_index_or row i (pos 0)) else Fault p
element_at row p (negsuc i) = Fault p

-- the value of a node of a type
abbrev pub node_value : Rows → IntType → TNode → Answer
node_value rows t (Const n) = Value n
node_value rows t (Read slot) = Value (first_of (rows slot))
node_value rows t (Index' slot _ (more_of-TExpr u q a _) p) = and_then (node_value rows u a) (element_at (rows slot) p)
node_value rows t (Unary' op _ (more_of-TExpr u q a _) p) = and_then (node_value rows u a) (unary_value op t p)
node_value rows t (Binary' op _ (more_of-TExpr u q a _) _ (more_of-TExpr v r b _) d p) =
    and_then (node_value rows u a) (λ x. and_then (node_value rows v b) (binary_value op t d p x))
node_value rows t (Logic' op _ (more_of-TExpr u q a _) _ (more_of-TExpr v r b _)) =
    and_then (node_value rows u a) (λ x. logic_value op x (node_value rows v b))
node_value rows t (Choose' _ (more_of-TExpr u q c _) _ (more_of-TExpr v r a _) _ (more_of-TExpr w s b _)) =
    and_then (node_value rows u c) (λ x. if is_zero x then node_value rows w b else node_value rows v a)
node_value rows t (Convert' _ (more_of-TExpr u q a _)) = and_then (node_value rows u a) (λ x. Value (converted t x))

-- the value of an expression
abbrev pub value_of : Rows → TExpr → Answer
value_of rows e = node_value rows e.ty e.node
