-- The table of operators (IEEE 1364-2005, 5.1, with Table 5-22 for lengths and 5.5.1 for signs): how the operands of each
-- get a width and a sign, and what it gives of their numbers.
use Rattle.std.specs.Prelude.{ℕ, zero, suc, ◌+◌, ◌-◌, ◌*◌, ◌^◌, max, Bool, true, false, ◌&&◌, ◌||◌, nat_lt}
use Rattle.bits_core.specs.Word.{bit}
use Rattle.bits_core.specs.Ops.{value1, value2}
use Rattle.bits_core.specs.declared.op.Op1.TheVariants as one
use Rattle.bits_core.specs.declared.op.Op2.TheVariants as two
use Rattle.v_tree.specs.declared.expr.BinaryOp.{BinaryOp}
use Rattle.v_tree.specs.declared.expr.BinaryOp.TheVariants as binary
use Rattle.v_tree.specs.declared.expr.UnaryOp.{UnaryOp}
use Rattle.v_tree.specs.declared.expr.UnaryOp.TheVariants as unary

-- how the operands of a binary operator get their width and sign
pub data Form : Type 0 where
  -- both from the context
  InContext : Form
  -- both from the context; by 0 the result is unknown
  Dividing : Form
  -- the greater of their lengths, signed if both are
  Comparing : Form
  -- each by itself
  Logical : Form
  -- the left one from the context, the amount by itself
  Shifting : Form

-- how the operands of each binary operator get their width and sign (Table 5-22, 5.5.1)
abbrev pub form_of : BinaryOp → Form
form_of binary.LogicalOr = Logical
form_of binary.LogicalAnd = Logical
form_of binary.BitOr = InContext
form_of binary.BitXor = InContext
form_of binary.BitXnor = InContext
form_of binary.BitAnd = InContext
form_of binary.Equal = Comparing
form_of binary.NotEqual = Comparing
form_of binary.Less = Comparing
form_of binary.LessEqual = Comparing
form_of binary.Greater = Comparing
form_of binary.GreaterEqual = Comparing
form_of binary.ShiftLeft = Shifting
form_of binary.ShiftRight = Shifting
form_of binary.ArithmeticShiftLeft = Shifting
form_of binary.ArithmeticShiftRight = Shifting
form_of binary.Add = InContext
form_of binary.Subtract = InContext
form_of binary.Multiply = InContext
form_of binary.Divide = Dividing
form_of binary.Remainder = Dividing

-- the length that an operator gives, by those of its operands (Table 5-22)
abbrev pub length_by : Form → ℕ → ℕ → ℕ
length_by InContext a b = max a b
length_by Dividing a b = max a b
length_by Comparing a b = 1
length_by Logical a b = 1
length_by Shifting a b = a

-- whether the result is signed, by the signs of the operands (5.5.1)
abbrev pub signed_by : Form → Bool → Bool → Bool
signed_by InContext a b = a && b
signed_by Dividing a b = a && b
signed_by Comparing a b = false
signed_by Logical a b = false
signed_by Shifting a b = a

-- a number is true unless it is 0 (5.1.9)
abbrev pub truth : ℕ → Bool
truth n = nat_lt 0 n

-- 1 for 0, and 0 for 1
abbrev pub turned : ℕ → ℕ
turned n = 1 - n

-- whether a number of w bits is less than another, both signed or neither: 1 or 0 (5.1.7)
abbrev pub less : Bool → ℕ → ℕ → ℕ → ℕ
less true w a b = value2 two.LtS w a b
less false w a b = value2 two.LtU w a b

-- the quotient, cut towards zero where the numbers are signed (5.1.5)
abbrev pub quotient : Bool → ℕ → ℕ → ℕ → ℕ
quotient true w a b = value2 two.DivS w a b
quotient false w a b = value2 two.DivU w a b

-- the remainder, with the sign of the first operand (5.1.5)
abbrev pub remainder : Bool → ℕ → ℕ → ℕ → ℕ
remainder true w a b = value2 two.RemS w a b
remainder false w a b = value2 two.RemU w a b

-- a shift to the right, that keeps the sign where the number is signed (5.1.12)
abbrev pub shifted_right : Bool → ℕ → ℕ → ℕ → ℕ
shifted_right true w a b = value2 two.ShrS w a b
shifted_right false w a b = value2 two.ShrU w a b

-- what a binary operator gives at a width and a sign: those of the context, or of the operands where they are compared;
-- a division by 0 is left to its form
abbrev pub binary_value : BinaryOp → ℕ → Bool → ℕ → ℕ → ℕ
binary_value binary.LogicalOr w s a b = bit (truth a || truth b)
binary_value binary.LogicalAnd w s a b = bit (truth a && truth b)
binary_value binary.BitOr w s a b = value2 two.Or w a b
binary_value binary.BitXor w s a b = value2 two.Xor w a b
binary_value binary.BitXnor w s a b = value1 one.Not w (value2 two.Xor w a b)
binary_value binary.BitAnd w s a b = value2 two.And w a b
binary_value binary.Equal w s a b = value2 two.Eq w a b
binary_value binary.NotEqual w s a b = turned (value2 two.Eq w a b)
binary_value binary.Less w s a b = less s w a b
binary_value binary.LessEqual w s a b = turned (less s w b a)
binary_value binary.Greater w s a b = less s w b a
binary_value binary.GreaterEqual w s a b = turned (less s w a b)
binary_value binary.ShiftLeft w s a b = value2 two.Shl w a b
binary_value binary.ShiftRight w s a b = value2 two.ShrU w a b
binary_value binary.ArithmeticShiftLeft w s a b = value2 two.Shl w a b
binary_value binary.ArithmeticShiftRight w s a b = shifted_right s w a b
binary_value binary.Add w s a b = value2 two.Add w a b
binary_value binary.Subtract w s a b = value2 two.Sub w a b
binary_value binary.Multiply w s a b = value2 two.Mul w a b
binary_value binary.Divide w s a b = quotient s w a b
binary_value binary.Remainder w s a b = remainder s w a b

-- whether an operand stands by itself and the result has one bit: `!` and the reductions
abbrev pub is_reduction : UnaryOp → Bool
is_reduction unary.Plus = false
is_reduction unary.Minus = false
is_reduction unary.BitNot = false
is_reduction unary.LogicalNot = true
is_reduction unary.ReduceAnd = true
is_reduction unary.ReduceNand = true
is_reduction unary.ReduceOr = true
is_reduction unary.ReduceNor = true
is_reduction unary.ReduceXor = true
is_reduction unary.ReduceXnor = true

-- what a unary operator gives of a number of so many bits
abbrev pub unary_value : UnaryOp → ℕ → ℕ → ℕ
unary_value unary.Plus w a = a
unary_value unary.Minus w a = value1 one.Neg w a
unary_value unary.BitNot w a = value1 one.Not w a
unary_value unary.LogicalNot w a = turned (value1 one.RedOr w a)
unary_value unary.ReduceAnd w a = value1 one.RedAnd w a
unary_value unary.ReduceNand w a = turned (value1 one.RedAnd w a)
unary_value unary.ReduceOr w a = value1 one.RedOr w a
unary_value unary.ReduceNor w a = turned (value1 one.RedOr w a)
unary_value unary.ReduceXor w a = value1 one.RedXor w a
unary_value unary.ReduceXnor w a = turned (value1 one.RedXor w a)

-- so many copies of a number of l bits side by side (5.1.14)
abbrev pub repeated : ℕ → ℕ → ℕ → ℕ
repeated zero l n = 0
repeated (suc c) l n = n * 2 ^ (c * l) + repeated c l n
