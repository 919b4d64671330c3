-- What operators give on constants (IEEE 1364-2005, 5.1).
use Rattle.std.specs.Prelude.{ℕ, ◌^◌, Option, Some, None, Bool, true, false, nat_lt, ◌&&◌, ◌||◌, if◌then◌else◌}
use Rattle.bits_core.specs.Word.{Word, word}
use Rattle.bits_core.specs.Ops.{word1, word2}
use Rattle.bits_core.specs.declared.op.Op1.TheVariants as one
use Rattle.bits_core.specs.declared.op.Op2.TheVariants as two
use Rattle.v_tree.specs.declared.expr.BinaryOp.{BinaryOp}
use Rattle.v_tree.specs.declared.expr.BinaryOp.TheVariants as binary
use Rattle.v_tree.specs.declared.expr.UnaryOp.{UnaryOp}
use Rattle.v_tree.specs.declared.expr.UnaryOp.TheVariants as unary
use Rattle.elab_names.specs.declared.context.Context.{Context}
use Rattle.elab_names.specs.declared.constant.Worth.{Worth}
use Rattle.elab_names.specs.declared.constant.Worth.TheVariants.{Value, Open, NotConstant}
use Rattle.elab_names.specs.declared.operator.Form.{Form}
use Rattle.elab_names.specs.declared.operator.Form.TheVariants as form
use Rattle.elab_names.specs.Constants.{is_zero, is_true, flag, both, worth_then}

-- which operands stand for themselves, and how long the others are (table 5-22)
abbrev pub form_of : BinaryOp → Form
form_of binary.LogicalOr = form.Logical
form_of binary.LogicalAnd = form.Logical
form_of binary.BitOr = form.Arithmetic
form_of binary.BitXor = form.Arithmetic
form_of binary.BitXnor = form.Arithmetic
form_of binary.BitAnd = form.Arithmetic
form_of binary.Equal = form.Comparison
form_of binary.NotEqual = form.Comparison
form_of binary.Less = form.Comparison
form_of binary.LessEqual = form.Comparison
form_of binary.Greater = form.Comparison
form_of binary.GreaterEqual = form.Comparison
form_of binary.ShiftLeft = form.Shift
form_of binary.ShiftRight = form.Shift
form_of binary.ArithmeticShiftLeft = form.Shift
form_of binary.ArithmeticShiftRight = form.Shift
form_of binary.Add = form.Arithmetic
form_of binary.Subtract = form.Arithmetic
form_of binary.Multiply = form.Arithmetic
form_of binary.Divide = form.Arithmetic
form_of binary.Remainder = form.Arithmetic

-- `/` and `%`
abbrev pub is_division : BinaryOp → Bool
is_division binary.Divide = true
is_division binary.Remainder = true
is_division op = false

-- each bit flipped
abbrev pub flipped : Word → Word
flipped w = word1 one.Not w

-- operands of one width, read with or without sign
abbrev pub arithmetic : BinaryOp → Bool → Word → Word → Word
arithmetic binary.BitOr s a b = word2 two.Or a b
arithmetic binary.BitXor s a b = word2 two.Xor a b
arithmetic binary.BitXnor s a b = flipped (word2 two.Xor a b)
arithmetic binary.BitAnd s a b = word2 two.And a b
arithmetic binary.Add s a b = word2 two.Add a b
arithmetic binary.Subtract s a b = word2 two.Sub a b
arithmetic binary.Multiply s a b = word2 two.Mul a b
arithmetic binary.Divide s a b = if s then word2 two.DivS a b else word2 two.DivU a b
arithmetic binary.Remainder s a b = if s then word2 two.RemS a b else word2 two.RemU a b
arithmetic op s a b = a

-- whether the first is smaller, both read with or without sign
abbrev pub less : Bool → Word → Word → Word
less s a b = if s then word2 two.LtS a b else word2 two.LtU a b

-- one bit that says how two words compare (IEEE 1364-2005, 5.1.7, 5.1.8)
abbrev pub comparison : BinaryOp → Bool → Word → Word → Word
comparison binary.Equal s a b = word2 two.Eq a b
comparison binary.NotEqual s a b = flipped (word2 two.Eq a b)
comparison binary.Less s a b = less s a b
comparison binary.LessEqual s a b = flipped (less s b a)
comparison binary.Greater s a b = less s b a
comparison binary.GreaterEqual s a b = flipped (less s a b)
comparison op s a b = a

-- an amount at the width of what is shifted; one that is too great for that shifts all bits out
abbrev pub amount : ℕ → ℕ → Word
amount w n = if nat_lt n (2 ^ w) then word w n else flipped (word w 0)

-- a word shifted by n places: `>>>` fills with the sign where there is one, the others fill with 0 (IEEE 1364-2005,
-- 5.1.12)
abbrev pub shifted : BinaryOp → Bool → Word → ℕ → Word
shifted binary.ShiftLeft s a n = word2 two.Shl a (amount a.width n)
shifted binary.ArithmeticShiftLeft s a n = word2 two.Shl a (amount a.width n)
shifted binary.ShiftRight s a n = word2 two.ShrU a (amount a.width n)
shifted binary.ArithmeticShiftRight s a n = if s then word2 two.ShrS a (amount a.width n) else word2 two.ShrU a (amount a.width n)
shifted op s a n = a

-- an operator that gives one bit of its operand: `!` and the reductions
abbrev pub is_reduction : UnaryOp → Bool
is_reduction unary.Plus = false
is_reduction unary.Minus = false
is_reduction unary.BitNot = false
is_reduction op = true

-- `+`, `-` and `~` on a word
abbrev pub unary_word : UnaryOp → Word → Word
unary_word unary.Minus a = word1 one.Neg a
unary_word unary.BitNot a = flipped a
unary_word op a = a

-- one bit of all of an operand
abbrev pub reduced : UnaryOp → Word → Word
reduced unary.LogicalNot a = flag (is_zero a)
reduced unary.ReduceAnd a = word1 one.RedAnd a
reduced unary.ReduceNand a = flipped (word1 one.RedAnd a)
reduced unary.ReduceOr a = word1 one.RedOr a
reduced unary.ReduceNor a = flipped (word1 one.RedOr a)
reduced unary.ReduceXor a = word1 one.RedXor a
reduced unary.ReduceXnor a = flipped (word1 one.RedXor a)
reduced op a = a

-- a division by 0 isn't constant, whatever is divided
abbrev pub divided : BinaryOp → Bool → Worth → Worth → Worth
divided op s a (Value n) = if is_zero n then NotConstant else worth_then a (λ m. Value (arithmetic op s m n))
divided op s NotConstant Open = NotConstant
divided op s Open Open = Open
divided op s (Value m) Open = Open
divided op s a NotConstant = NotConstant

-- an operator of arithmetic or bit by bit on values that may not be known
abbrev pub arithmetic_worth : BinaryOp → Bool → Worth → Worth → Worth
arithmetic_worth op s a b = if is_division op then divided op s a b else both a b (λ m n. Value (arithmetic op s m n))

-- a comparison of values that may not be known
abbrev pub comparison_worth : BinaryOp → Bool → Worth → Worth → Worth
comparison_worth op s a b = both a b (λ m n. Value (comparison op s m n))

-- `||` and `&&` on truth values (IEEE 1364-2005, 5.1.9)
abbrev pub logical : BinaryOp → Bool → Bool → Bool
logical binary.LogicalOr a b = a || b
logical op a b = a && b

-- `||` and `&&` on values that may not be known; both operands count
abbrev pub logical_worth : BinaryOp → Worth → Worth → Worth
logical_worth op a b = both a b (λ m n. Value (flag (logical op (is_true m) (is_true n))))

-- a shift of values that may not be known; the amount is read without sign
abbrev pub shifted_worth : BinaryOp → Bool → Worth → Worth → Worth
shifted_worth op s a b = both a b (λ m n. Value (shifted op s m n.value))

-- `+`, `-` and `~` on a value that may not be known
abbrev pub unary_worth : UnaryOp → Worth → Worth
unary_worth op a = worth_then a (λ m. Value (unary_word op m))

-- `!` and the reductions on a value that may not be known
abbrev pub reduced_worth : UnaryOp → Worth → Worth
reduced_worth op a = worth_then a (λ m. Value (reduced op m))

-- the branch that a condition chooses; the other one counts too
abbrev pub branch : Word → Word → Word → Word
branch c m n = if is_true c then m else n

-- `?:` on values that may not be known; both branches count (IEEE 1364-2005, 5.1.13)
abbrev pub chosen : Worth → Worth → Worth → Worth
chosen NotConstant a b = NotConstant
chosen Open a b = both a b (λ m n. Open)
chosen (Value c) a b = both a b (λ m n. Value (branch c m n))

-- the sign of a context, and none without one
abbrev pub sign_of : Option Context → Bool
sign_of None = false
sign_of (Some x) = x.signed
