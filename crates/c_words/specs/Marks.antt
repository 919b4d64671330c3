-- What operators are, and the properties that they have (C99 6.5).
use Rattle.std.specs.Prelude.{ℕ, ◌%◌, List, [], ◌∷◌, Option, Some, None, Bool, true, false}
use Rattle.src_text.specs.declared.refusal.Place.{Place}
use Rattle.c_tree.specs.declared.expressions.UnaryOperator.{UnaryOperator}
use Rattle.c_tree.specs.declared.expressions.UnaryOperator.TheVariants as u
use Rattle.c_tree.specs.declared.expressions.AssignmentOperator.{AssignmentOperator}
use Rattle.c_tree.specs.declared.expressions.AssignmentOperator.TheVariants as a
use Rattle.c_tree.specs.declared.expressions.BinaryOperator.{BinaryOperator}
use Rattle.c_tree.specs.declared.expressions.BinaryOperator.TheVariants as b
use Rattle.joint_ir.specs.declared.expr.UnaryOp.{UnaryOp}
use Rattle.joint_ir.specs.declared.expr.UnaryOp.TheVariants as tu
use Rattle.joint_ir.specs.declared.expr.BinaryOp.{BinaryOp}
use Rattle.joint_ir.specs.declared.expr.BinaryOp.TheVariants as tb
use Rattle.joint_ir.specs.declared.expr.LogicOp.TheVariants as tl
use Rattle.joint_ir.specs.declared.program.PropId.{PropId}
use Rattle.joint_ir.specs.declared.program.PropKind.{PropKind}
use Rattle.joint_ir.specs.declared.program.PropKind.TheVariants as kind
use Rattle.c_words.specs.declared.marks.Meaning.{Meaning}
use Rattle.c_words.specs.declared.marks.Meaning.TheVariants.{Logic, Arithmetic, Comparison, Shift}
use Rattle.c_words.specs.declared.notes.Notes.{Notes}
use Rattle.c_words.specs.declared.notes.Site.{Site}
use Rattle.c_words.specs.Notes.{noted}

-- the operation that a unary operator of the text stands for
abbrev pub unary_op : UnaryOperator → UnaryOp
unary_op u.Plus = tu.Plus
unary_op u.Minus = tu.Minus
unary_op u.Not = tu.Not
unary_op u.Complement = tu.Flip

-- what a binary operator of the text is: arithmetic, a shift, a comparison or logic
abbrev pub meaning_of : BinaryOperator → Meaning
meaning_of b.Multiply = Arithmetic tb.Mul
meaning_of b.Divide = Arithmetic tb.Div
meaning_of b.Remainder = Arithmetic tb.Rem
meaning_of b.Add = Arithmetic tb.Add
meaning_of b.Subtract = Arithmetic tb.Sub
meaning_of b.ShiftLeft = Shift tb.Shl
meaning_of b.ShiftRight = Shift tb.Shr
meaning_of b.Less = Comparison tb.Lt
meaning_of b.LessEqual = Comparison tb.Le
meaning_of b.Greater = Comparison tb.Gt
meaning_of b.GreaterEqual = Comparison tb.Ge
meaning_of b.Equal = Comparison tb.Eq
meaning_of b.NotEqual = Comparison tb.Ne
meaning_of b.And = Arithmetic tb.And
meaning_of b.Xor = Arithmetic tb.Xor
meaning_of b.Or = Arithmetic tb.Or
meaning_of b.LogicalAnd = Logic tl.And
meaning_of b.LogicalOr = Logic tl.Or

-- the operators of compound assignments (C99 6.5.16.2)
abbrev pub update_op : AssignmentOperator → BinaryOp
update_op a.Multiply = tb.Mul
update_op a.Divide = tb.Div
update_op a.Remainder = tb.Rem
update_op a.Add = tb.Add
update_op a.Subtract = tb.Sub
update_op a.ShiftLeft = tb.Shl
update_op a.ShiftRight = tb.Shr
update_op a.And = tb.And
update_op a.Xor = tb.Xor
update_op a.Or = tb.Or

-- signed arithmetic can overflow; unsigned can't (C99 6.2.5p9, 6.5p5)
abbrev pub overflow_if : Bool → Option PropKind
overflow_if true = Some kind.Overflow
overflow_if false = None

-- the first property of an operator
abbrev pub division_kind : BinaryOp → Option PropKind
division_kind tb.Add = None
division_kind tb.Sub = None
division_kind tb.Mul = None
division_kind tb.Div = Some kind.Division
division_kind tb.Rem = Some kind.Division
division_kind tb.Shl = None
division_kind tb.Shr = None
division_kind tb.And = None
division_kind tb.Or = None
division_kind tb.Xor = None
division_kind tb.Eq = None
division_kind tb.Ne = None
division_kind tb.Lt = None
division_kind tb.Le = None
division_kind tb.Gt = None
division_kind tb.Ge = None

-- its second, where it works in a type that has a sign or not
abbrev pub other_kind : BinaryOp → (signed : Bool) → Option PropKind
other_kind tb.Add s = overflow_if s
other_kind tb.Sub s = overflow_if s
other_kind tb.Mul s = overflow_if s
other_kind tb.Div s = overflow_if s
other_kind tb.Rem s = overflow_if s
other_kind tb.Shl s = Some kind.Shift
other_kind tb.Shr s = Some kind.Shift
other_kind tb.And s = None
other_kind tb.Or s = None
other_kind tb.Xor s = None
other_kind tb.Eq s = None
other_kind tb.Ne s = None
other_kind tb.Lt s = None
other_kind tb.Le s = None
other_kind tb.Gt s = None
other_kind tb.Ge s = None

-- the property of a unary operator: only `-` at a signed type has one
abbrev pub unary_kind : UnaryOp → (signed : Bool) → Option PropKind
unary_kind tu.Plus s = None
unary_kind tu.Minus s = overflow_if s
unary_kind tu.Not s = None
unary_kind tu.Flip s = None

-- the property of a kind at a place, if there is one
abbrev pub sites_of : Option PropKind → Place → List Site
sites_of None p = []
sites_of (Some k) p = (record { kind = k; place = p }) ∷ []

-- the number of a place in a list, in 32 bits
abbrev pub number_of : ℕ → ℕ
number_of n = n % 4294967296

-- the number of the first of these properties in the list, where `base` stand before it
abbrev pub prop_at : ℕ → List Site → Option PropId
prop_at base [] = None
prop_at base (s ∷ sites) = Some (record { 0 = number_of base })

-- with the property of a kind at a place, if there is one
abbrev pub noted_prop : Notes → Option PropKind → Place → Notes
noted_prop n k p = noted n [] (sites_of k p)
