-- Constants and flat expressions have one table of operators: what an operator gives of words is what the table of the
-- flat tree gives of their numbers (IEEE 1364-2005, 5.1).
use Rattle.std.specs.Prelude.{◌≡◌, ℕ, Bool, false}
use Rattle.bits_core.specs.Word.{Word, word}
use Rattle.v_tree.specs.declared.expr.BinaryOp.{BinaryOp}
use Rattle.v_tree.specs.declared.expr.UnaryOp.{UnaryOp}
use Rattle.flat_tree.specs.Operators.{binary_value, unary_value}
use Rattle.elab_names.specs.declared.operator.Form.TheVariants as form
use Rattle.elab_names.specs.Operators.{form_of, is_reduction, arithmetic, comparison, unary_word}
use Rattle.flat_tree.specs.Operators as flat

-- operands at the width of the whole
abbrev pub ArithmeticAgrees : Type 0
ArithmeticAgrees = (op : BinaryOp) (s : Bool) (a b : Word) → form_of op ≡ form.Arithmetic → arithmetic op s a b ≡ word a.width (binary_value op a.width s a.value b.value)

-- operands at their common width
abbrev pub ComparisonAgrees : Type 0
ComparisonAgrees = (op : BinaryOp) (s : Bool) (w x y : ℕ) → form_of op ≡ form.Comparison → comparison op s (word w x) (word w y) ≡ word 1 (binary_value op w s x y)

-- one operand, at the width of the whole or by itself
abbrev pub UnaryAgrees : Type 0
UnaryAgrees = (op : UnaryOp) (a : Word) → is_reduction op ≡ false → unary_word op a ≡ word a.width (unary_value op a.width a.value)

-- both trees take the same unary operators for those that give one bit
abbrev pub ReductionsAgree : Type 0
ReductionsAgree = (op : UnaryOp) → is_reduction op ≡ flat.is_reduction op
