-- One table of operators.
use Rattle.std.proofs.Common.{◌≡◌, ℕ, Bool, true, false, refl}
use Rattle.v_tree.specs.declared.expr.BinaryOp.TheVariants as binary
use Rattle.v_tree.specs.declared.expr.UnaryOp.TheVariants as unary
use Rattle.elab_laws.specs.Operators.{ArithmeticAgrees, ComparisonAgrees, UnaryAgrees, ReductionsAgree}

pub arithmetic_agrees : ArithmeticAgrees
arithmetic_agrees binary.LogicalOr s a b h = cc
arithmetic_agrees binary.LogicalAnd s a b h = cc
arithmetic_agrees binary.BitOr s a b h = refl
arithmetic_agrees binary.BitXor s a b h = refl
arithmetic_agrees binary.BitXnor s a b h = refl
arithmetic_agrees binary.BitAnd s a b h = refl
arithmetic_agrees binary.Equal s a b h = cc
arithmetic_agrees binary.NotEqual s a b h = cc
arithmetic_agrees binary.Less s a b h = cc
arithmetic_agrees binary.LessEqual s a b h = cc
arithmetic_agrees binary.Greater s a b h = cc
arithmetic_agrees binary.GreaterEqual s a b h = cc
arithmetic_agrees binary.ShiftLeft s a b h = cc
arithmetic_agrees binary.ShiftRight s a b h = cc
arithmetic_agrees binary.ArithmeticShiftLeft s a b h = cc
arithmetic_agrees binary.ArithmeticShiftRight s a b h = cc
arithmetic_agrees binary.Add s a b h = refl
arithmetic_agrees binary.Subtract s a b h = refl
arithmetic_agrees binary.Multiply s a b h = refl
arithmetic_agrees binary.Divide true a b h = refl
arithmetic_agrees binary.Divide false a b h = refl
arithmetic_agrees binary.Remainder true a b h = refl
arithmetic_agrees binary.Remainder false a b h = refl

pub comparison_agrees : ComparisonAgrees
comparison_agrees binary.LogicalOr s w x y h = cc
comparison_agrees binary.LogicalAnd s w x y h = cc
comparison_agrees binary.BitOr s w x y h = cc
comparison_agrees binary.BitXor s w x y h = cc
comparison_agrees binary.BitXnor s w x y h = cc
comparison_agrees binary.BitAnd s w x y h = cc
comparison_agrees binary.Equal s w x y h = refl
comparison_agrees binary.NotEqual s w x y h = refl
comparison_agrees binary.Less true w x y h = refl
comparison_agrees binary.Less false w x y h = refl
comparison_agrees binary.LessEqual true w x y h = refl
comparison_agrees binary.LessEqual false w x y h = refl
comparison_agrees binary.Greater true w x y h = refl
comparison_agrees binary.Greater false w x y h = refl
comparison_agrees binary.GreaterEqual true w x y h = refl
comparison_agrees binary.GreaterEqual false w x y h = refl
comparison_agrees binary.ShiftLeft s w x y h = cc
comparison_agrees binary.ShiftRight s w x y h = cc
comparison_agrees binary.ArithmeticShiftLeft s w x y h = cc
comparison_agrees binary.ArithmeticShiftRight s w x y h = cc
comparison_agrees binary.Add s w x y h = cc
comparison_agrees binary.Subtract s w x y h = cc
comparison_agrees binary.Multiply s w x y h = cc
comparison_agrees binary.Divide s w x y h = cc
comparison_agrees binary.Remainder s w x y h = cc

pub unary_agrees : UnaryAgrees
unary_agrees unary.Plus a h = refl
unary_agrees unary.Minus a h = refl
unary_agrees unary.BitNot a h = refl
unary_agrees unary.LogicalNot a h = cc
unary_agrees unary.ReduceAnd a h = cc
unary_agrees unary.ReduceNand a h = cc
unary_agrees unary.ReduceOr a h = cc
unary_agrees unary.ReduceNor a h = cc
unary_agrees unary.ReduceXor a h = cc
unary_agrees unary.ReduceXnor a h = cc

pub reductions_agree : ReductionsAgree
reductions_agree unary.Plus = refl
reductions_agree unary.Minus = refl
reductions_agree unary.BitNot = refl
reductions_agree unary.LogicalNot = refl
reductions_agree unary.ReduceAnd = refl
reductions_agree unary.ReduceNand = refl
reductions_agree unary.ReduceOr = refl
reductions_agree unary.ReduceNor = refl
reductions_agree unary.ReduceXor = refl
reductions_agree unary.ReduceXnor = refl
