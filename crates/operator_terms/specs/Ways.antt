-- How an operator is made of the operations on words: one of them, perhaps with its operands the other way round, and
-- perhaps with each bit of the result turned.
use Rattle.std.specs.Prelude.{ℕ, ◌-◌, ◌^◌, Bool, true, false}
use Rattle.bits_core.specs.Ops.{width1, value1, width2, value2}
use Rattle.bits_core.specs.declared.op.Op2.{Op2}
use Rattle.bits_core.specs.declared.op.Op2.TheVariants as two
use Rattle.v_tree.specs.declared.expr.UnaryOp.{UnaryOp}
use Rattle.v_tree.specs.declared.expr.UnaryOp.TheVariants as unary
use Rattle.flat_tree.specs.Operators.{Form, InContext, Dividing, Comparing, Logical, Shifting}
use Rattle.operator_terms.specs.declared.flags.UnaryWay.{UnaryWay}
use Rattle.operator_terms.specs.declared.pairs.Way.{Way}

-- a number of w bits, with each bit turned if so told
abbrev pub turned_if : Bool → ℕ → ℕ → ℕ
turned_if true w n = 2 ^ w - 1 - n
turned_if false w n = n

-- the value of an operation on two words of w bits, which change places if so told
abbrev pub ordered : Bool → Op2 → ℕ → ℕ → ℕ → ℕ
ordered true op w a b = value2 op w b a
ordered false op w a b = value2 op w a b

-- the value of a way of making a binary operator, with operands of w bits
abbrev pub way_value : Way → ℕ → ℕ → ℕ → ℕ
way_value x w a b = turned_if x.turned (width2 x.op w) (ordered x.swapped x.op w a b)

-- the value of a way of making a unary operator, with an operand of w bits
abbrev pub unary_way_value : UnaryWay → ℕ → ℕ → ℕ
unary_way_value x w a = turned_if x.turned (width1 x.op w) (value1 x.op w a)

-- whether both operands have one width
abbrev pub is_paired : Form → Bool
is_paired InContext = true
is_paired Dividing = true
is_paired Comparing = true
is_paired Logical = false
is_paired Shifting = false

-- the width of the result, by that of the operands
abbrev pub paired_width : Form → ℕ → ℕ
paired_width InContext w = w
paired_width Dividing w = w
paired_width Comparing w = 1
paired_width Logical w = 1
paired_width Shifting w = w

-- whether a shift copies the sign bit
abbrev pub looks : Op2 → Bool
looks two.ShrS = true
looks op = false

-- whether an operation is a shift
abbrev pub is_shift : Op2 → Bool
is_shift two.Shl = true
is_shift two.ShrU = true
is_shift two.ShrS = true
is_shift op = false

-- all unary operators but `+`, which gives its operand
abbrev pub is_made : UnaryOp → Bool
is_made unary.Plus = false
is_made op = true
