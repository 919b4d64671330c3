use Rattle.std.proofs.Common.{Bool, ◌≡◌, ◌*◌, ◌∙◌, ◌<◌, ◌≤◌, ◌^◌, true, false, refl, sym, ap, subst, arith}
use Rattle.std.specs.Prelude.{ℤ, int_lt, bit_and, bit_or, bit_xor}
use Rattle.std.specs.Ordering.{int_eq}
use Rattle.bits_core.specs.declared.op.Op2.TheVariants as op2
use Rattle.bits_core.specs.Ops.{value2}
use Rattle.bits_core.specs.Word.{bit}
use Rattle.word_eqs.specs.Meaning.{Values}
use Rattle.word_eqs.specs.Gates.{gates2}
use Rattle.joint_ir.specs.declared.expr.BinaryOp.{BinaryOp}
use Rattle.joint_ir.specs.declared.expr.BinaryOp.TheVariants.{And, Or, Xor, Eq, Ne, Lt, Le, Gt, Ge}
use Rattle.joint_ir.specs.declared.ctype.IntType.{IntType}
use Rattle.joint_ir.specs.Types.{int}
use Rattle.joint_ir.specs.Values.{Value, binary_value, bit_of}
use Rattle.joint_ir.specs.Weights.{binary_weight}
use Rattle.joint_ir.specs.WellFormed.{IsPromoted, FitsBinary, FitsBits, FitsComparison}
use Rattle.sized_terms.specs.Sized.{bits}
use Rattle.checked_terms.specs.Checked.{IsChecked, plain, comparison_of}
use Rattle.c_operator_terms.specs.Operators.{less_op_of}
use Rattle.c_operator_terms.proofs.Operations.{finish, bits_kind, compare_kind, eq_is, le_is, less_value, less_gates}
use Rattle.c_operator_terms.proofs.binary.Goals as goal

pub returns-in_ok-t-in-And : goal.returns-in_ok-t-in-And
returns-in_ok-t-in-And c =
    let f : FitsBits c.args.ty c.args.left c.args.right c.args.division c.args.other = subst (λ (o : BinaryOp). FitsBinary c.requires.fits.program o c.args.ty c.args.left c.args.right c.args.division c.args.other) c.in-And.is c.requires.fits.fits in
    finish c.args.terms.now c.bitwise.new.terms c.args.op And c.args.ty c.args.left c.args.right c.args.division c.args.other c.args.a c.args.b c.in_ok-t-in-And.t c.plain.result c.in-And.is c.plain.ensures
    (bits_kind c.args.terms.now c.bitwise.new.terms c.args.ty c.args.left c.args.right op2.And (8 * binary_weight And c.args.ty c.args.left.bits c.args.right.bits) c.args.a c.args.b c.in_ok-t-in-And.t bit_and
    f.1 f.2 (omega arith) (λ x y. refl) c.in_ok-t-in-And.ensures)

pub returns-in_ok-t-in-Or : goal.returns-in_ok-t-in-Or
returns-in_ok-t-in-Or c =
    let f : FitsBits c.args.ty c.args.left c.args.right c.args.division c.args.other = subst (λ (o : BinaryOp). FitsBinary c.requires.fits.program o c.args.ty c.args.left c.args.right c.args.division c.args.other) c.in-Or.is c.requires.fits.fits in
    finish c.args.terms.now c.bitwise-in-Or.new.terms c.args.op Or c.args.ty c.args.left c.args.right c.args.division c.args.other c.args.a c.args.b c.in_ok-t-in-Or.t c.plain-in-Or.result c.in-Or.is c.plain-in-Or.ensures
    (bits_kind c.args.terms.now c.bitwise-in-Or.new.terms c.args.ty c.args.left c.args.right op2.Or (8 * binary_weight Or c.args.ty c.args.left.bits c.args.right.bits) c.args.a c.args.b c.in_ok-t-in-Or.t bit_or
    f.1 f.2 (omega arith) (λ x y. refl) c.in_ok-t-in-Or.ensures)

pub returns-in_ok-t-in-Xor : goal.returns-in_ok-t-in-Xor
returns-in_ok-t-in-Xor c =
    let f : FitsBits c.args.ty c.args.left c.args.right c.args.division c.args.other = subst (λ (o : BinaryOp). FitsBinary c.requires.fits.program o c.args.ty c.args.left c.args.right c.args.division c.args.other) c.in-Xor.is c.requires.fits.fits in
    finish c.args.terms.now c.bitwise-in-Xor.new.terms c.args.op Xor c.args.ty c.args.left c.args.right c.args.division c.args.other c.args.a c.args.b c.in_ok-t-in-Xor.t c.plain-in-Xor.result c.in-Xor.is c.plain-in-Xor.ensures
    (bits_kind c.args.terms.now c.bitwise-in-Xor.new.terms c.args.ty c.args.left c.args.right op2.Xor (8 * binary_weight Xor c.args.ty c.args.left.bits c.args.right.bits) c.args.a c.args.b c.in_ok-t-in-Xor.t bit_xor
    f.1 f.2 (omega arith) (λ x y. refl) c.in_ok-t-in-Xor.ensures)

pub returns-in_ok-t-in-Eq : goal.returns-in_ok-t-in-Eq
returns-in_ok-t-in-Eq c =
    let f0 : FitsComparison c.args.ty c.args.left c.args.right c.args.division c.args.other = subst (λ (o : BinaryOp). FitsBinary c.requires.fits.program o c.args.ty c.args.left c.args.right c.args.division c.args.other) c.in-Eq.is c.requires.fits.fits in
    let f : (c.args.ty ≡ int) × IsPromoted c.args.left × (c.args.right ≡ c.args.left) = (f0.0, f0.1, f0.2) in
    finish c.args.terms.now c.compare.new.terms c.args.op Eq c.args.ty c.args.left c.args.right c.args.division c.args.other c.args.a c.args.b c.in_ok-t-in-Eq.t c.plain-in-Eq.result c.in-Eq.is c.plain-in-Eq.ensures
    (compare_kind c.args.terms.now c.compare.new.terms c.args.ty c.args.left c.args.right op2.Eq false (8 * binary_weight Eq c.args.ty c.args.left.bits c.args.right.bits) c.args.a c.args.b c.in_ok-t-in-Eq.t int_eq (binary_value Eq c.args.ty c.args.division c.args.other)
    f.0 f.2 c.requires.width_a c.requires.width_b (λ x y p q. ap bit (eq_is c.args.left.signed c.args.left.bits x y p q)) (λ x y. refl) (omega arith) c.in_ok-t-in-Eq.ensures)

pub returns-in_ok-t-in-Ne : goal.returns-in_ok-t-in-Ne
returns-in_ok-t-in-Ne c =
    let f0 : FitsComparison c.args.ty c.args.left c.args.right c.args.division c.args.other = subst (λ (o : BinaryOp). FitsBinary c.requires.fits.program o c.args.ty c.args.left c.args.right c.args.division c.args.other) c.in-Ne.is c.requires.fits.fits in
    let f : (c.args.ty ≡ int) × IsPromoted c.args.left × (c.args.right ≡ c.args.left) = (f0.0, f0.1, f0.2) in
    finish c.args.terms.now c.compare-in-Ne.new.terms c.args.op Ne c.args.ty c.args.left c.args.right c.args.division c.args.other c.args.a c.args.b c.in_ok-t-in-Ne.t c.plain-in-Ne.result c.in-Ne.is c.plain-in-Ne.ensures
    (compare_kind c.args.terms.now c.compare-in-Ne.new.terms c.args.ty c.args.left c.args.right op2.Eq true (8 * binary_weight Ne c.args.ty c.args.left.bits c.args.right.bits) c.args.a c.args.b c.in_ok-t-in-Ne.t int_eq (binary_value Ne c.args.ty c.args.division c.args.other)
    f.0 f.2 c.requires.width_a c.requires.width_b (λ x y p q. ap bit (eq_is c.args.left.signed c.args.left.bits x y p q)) (λ x y. refl) (omega arith) c.in_ok-t-in-Ne.ensures)

pub returns-in_ok-t-in-Lt : goal.returns-in_ok-t-in-Lt
returns-in_ok-t-in-Lt c =
    let f0 : FitsComparison c.args.ty c.args.left c.args.right c.args.division c.args.other = subst (λ (o : BinaryOp). FitsBinary c.requires.fits.program o c.args.ty c.args.left c.args.right c.args.division c.args.other) c.in-Lt.is c.requires.fits.fits in
    let f : (c.args.ty ≡ int) × IsPromoted c.args.left × (c.args.right ≡ c.args.left) = (f0.0, f0.1, f0.2) in
    let g = less_gates c.args.left.signed c.args.left.bits in
    let w : c.args.right.bits ≡ c.args.left.bits = ap (λ (t : IntType). t.bits) f.2 in
    finish c.args.terms.now c.compare-in-Lt.new.terms c.args.op Lt c.args.ty c.args.left c.args.right c.args.division c.args.other c.args.a c.args.b c.in_ok-t-in-Lt.t c.plain-in-Lt.result c.in-Lt.is c.plain-in-Lt.ensures
    (compare_kind c.args.terms.now c.compare-in-Lt.new.terms c.args.ty c.args.left c.args.right (less_op_of c.args.left.signed) false (8 * binary_weight Lt c.args.ty c.args.left.bits c.args.right.bits) c.args.a c.args.b c.in_ok-t-in-Lt.t int_lt (binary_value Lt c.args.ty c.args.division c.args.other)
    f.0 f.2 c.requires.width_a c.requires.width_b (λ x y p q. less_value c.args.left.signed c.args.left.bits x y) (λ x y. refl) (omega arith) (subst (λ s. (test : Values → Bool) → ((v : Values) → bits v c.args.a < 2 ^ c.args.a.width → bits v c.args.b < 2 ^ c.args.b.width → value2 s c.args.a.width (bits v c.args.a) (bits v c.args.b) ≡ bit (test v)) → IsChecked c.args.terms.now c.compare-in-Lt.new.terms int (gates2 s c.args.a.width) 3 (plain c.in_ok-t-in-Lt.t) (λ v. Value (bit_of (comparison_of false (test v))))) c.less_op.ensures c.in_ok-t-in-Lt.ensures))

pub returns-in_ok-t-in-Le : goal.returns-in_ok-t-in-Le
returns-in_ok-t-in-Le c =
    let f0 : FitsComparison c.args.ty c.args.left c.args.right c.args.division c.args.other = subst (λ (o : BinaryOp). FitsBinary c.requires.fits.program o c.args.ty c.args.left c.args.right c.args.division c.args.other) c.in-Le.is c.requires.fits.fits in
    let f : (c.args.ty ≡ int) × IsPromoted c.args.left × (c.args.right ≡ c.args.left) = (f0.0, f0.1, f0.2) in
    let g = less_gates c.args.right.signed c.args.right.bits in
    let w : c.args.right.bits ≡ c.args.left.bits = ap (λ (t : IntType). t.bits) f.2 in
    finish c.args.terms.now c.compare-in-Le.new.terms c.args.op Le c.args.ty c.args.left c.args.right c.args.division c.args.other c.args.a c.args.b c.in_ok-t-in-Le.t c.plain-in-Le.result c.in-Le.is c.plain-in-Le.ensures
    (compare_kind c.args.terms.now c.compare-in-Le.new.terms c.args.ty c.args.right c.args.left (less_op_of c.args.right.signed) true (8 * binary_weight Le c.args.ty c.args.left.bits c.args.right.bits) c.args.b c.args.a c.in_ok-t-in-Le.t int_lt (λ y x. binary_value Le c.args.ty c.args.division c.args.other x y)
    f.0 (sym f.2) c.requires.width_b c.requires.width_a (λ x y p q. less_value c.args.right.signed c.args.right.bits x y) (λ y x. ap (λ b. Value (bit_of b)) (sym (le_is x y))) (omega arith) (subst (λ s. (test : Values → Bool) → ((v : Values) → bits v c.args.b < 2 ^ c.args.b.width → bits v c.args.a < 2 ^ c.args.a.width → value2 s c.args.b.width (bits v c.args.b) (bits v c.args.a) ≡ bit (test v)) → IsChecked c.args.terms.now c.compare-in-Le.new.terms int (gates2 s c.args.b.width) 3 (plain c.in_ok-t-in-Le.t) (λ v. Value (bit_of (comparison_of true (test v))))) (c.less_op-in-Le.ensures ∙ ap (λ (t : IntType). less_op_of t.signed) (sym f.2)) c.in_ok-t-in-Le.ensures))

pub returns-in_ok-t-in-Gt : goal.returns-in_ok-t-in-Gt
returns-in_ok-t-in-Gt c =
    let f0 : FitsComparison c.args.ty c.args.left c.args.right c.args.division c.args.other = subst (λ (o : BinaryOp). FitsBinary c.requires.fits.program o c.args.ty c.args.left c.args.right c.args.division c.args.other) c.in-Gt.is c.requires.fits.fits in
    let f : (c.args.ty ≡ int) × IsPromoted c.args.left × (c.args.right ≡ c.args.left) = (f0.0, f0.1, f0.2) in
    let g = less_gates c.args.right.signed c.args.right.bits in
    let w : c.args.right.bits ≡ c.args.left.bits = ap (λ (t : IntType). t.bits) f.2 in
    finish c.args.terms.now c.compare-in-Gt.new.terms c.args.op Gt c.args.ty c.args.left c.args.right c.args.division c.args.other c.args.a c.args.b c.in_ok-t-in-Gt.t c.plain-in-Gt.result c.in-Gt.is c.plain-in-Gt.ensures
    (compare_kind c.args.terms.now c.compare-in-Gt.new.terms c.args.ty c.args.right c.args.left (less_op_of c.args.right.signed) false (8 * binary_weight Gt c.args.ty c.args.left.bits c.args.right.bits) c.args.b c.args.a c.in_ok-t-in-Gt.t int_lt (λ y x. binary_value Gt c.args.ty c.args.division c.args.other x y)
    f.0 (sym f.2) c.requires.width_b c.requires.width_a (λ x y p q. less_value c.args.right.signed c.args.right.bits x y) (λ y x. refl) (omega arith) (subst (λ s. (test : Values → Bool) → ((v : Values) → bits v c.args.b < 2 ^ c.args.b.width → bits v c.args.a < 2 ^ c.args.a.width → value2 s c.args.b.width (bits v c.args.b) (bits v c.args.a) ≡ bit (test v)) → IsChecked c.args.terms.now c.compare-in-Gt.new.terms int (gates2 s c.args.b.width) 3 (plain c.in_ok-t-in-Gt.t) (λ v. Value (bit_of (comparison_of false (test v))))) (c.less_op-in-Gt.ensures ∙ ap (λ (t : IntType). less_op_of t.signed) (sym f.2)) c.in_ok-t-in-Gt.ensures))

pub returns-in_ok-t-in-Ge : goal.returns-in_ok-t-in-Ge
returns-in_ok-t-in-Ge c =
    let f0 : FitsComparison c.args.ty c.args.left c.args.right c.args.division c.args.other = subst (λ (o : BinaryOp). FitsBinary c.requires.fits.program o c.args.ty c.args.left c.args.right c.args.division c.args.other) c.in-Ge.is c.requires.fits.fits in
    let f : (c.args.ty ≡ int) × IsPromoted c.args.left × (c.args.right ≡ c.args.left) = (f0.0, f0.1, f0.2) in
    let g = less_gates c.args.left.signed c.args.left.bits in
    let w : c.args.right.bits ≡ c.args.left.bits = ap (λ (t : IntType). t.bits) f.2 in
    finish c.args.terms.now c.compare-in-Ge.new.terms c.args.op Ge c.args.ty c.args.left c.args.right c.args.division c.args.other c.args.a c.args.b c.in_ok-t-in-Ge.t c.plain-in-Ge.result c.in-Ge.is c.plain-in-Ge.ensures
    (compare_kind c.args.terms.now c.compare-in-Ge.new.terms c.args.ty c.args.left c.args.right (less_op_of c.args.left.signed) true (8 * binary_weight Ge c.args.ty c.args.left.bits c.args.right.bits) c.args.a c.args.b c.in_ok-t-in-Ge.t int_lt (binary_value Ge c.args.ty c.args.division c.args.other)
    f.0 f.2 c.requires.width_a c.requires.width_b (λ x y p q. less_value c.args.left.signed c.args.left.bits x y) (λ x y. ap (λ b. Value (bit_of b)) (sym (le_is y x))) (omega arith) (subst (λ s. (test : Values → Bool) → ((v : Values) → bits v c.args.a < 2 ^ c.args.a.width → bits v c.args.b < 2 ^ c.args.b.width → value2 s c.args.a.width (bits v c.args.a) (bits v c.args.b) ≡ bit (test v)) → IsChecked c.args.terms.now c.compare-in-Ge.new.terms int (gates2 s c.args.a.width) 3 (plain c.in_ok-t-in-Ge.t) (λ v. Value (bit_of (comparison_of true (test v))))) c.less_op-in-Ge.ensures c.in_ok-t-in-Ge.ensures))
