-- What each kind of operator needs and gives.
use Rattle.std.proofs.Common.{◌≡◌, ℕ, ◌+◌, ◌*◌, ◌<◌, ◌≤◌, ◌^◌, Bool, true, false, Option, Some, None, refl, sym, ap, ◌∙◌, subst, arith}
use Rattle.std.specs.Prelude.{ℤ, pos, negsuc, nat_eq, not, int_lt, int_le, IsSome, bit_and, bit_or, bit_xor}
use Rattle.std.specs.Ordering.{int_eq}
use Rattle.std.proofs.lemmas.Bool.Decides.{nat_tests, Decides-int_eq}
use Rattle.bits_core.specs.declared.op.Op2.{Op2}
use Rattle.bits_core.specs.declared.op.Op2.TheVariants as op2
use Rattle.bits_core.specs.Word.{number, modulo, bit}
use Rattle.bits_core.specs.Ops.{less, value2, width2}
use Rattle.word_eqs.specs.Gates.{gates2}
use Rattle.word_eqs.specs.Graph.{Graph, IsGraph}
use Rattle.word_eqs.specs.Meaning.{Values, Respects}
use Rattle.joint_ir.specs.declared.ctype.IntType.{IntType}
use Rattle.joint_ir.specs.declared.expr.BinaryOp.{BinaryOp}
use Rattle.joint_ir.specs.declared.expr.BinaryOp.TheVariants.{Add, Sub, Mul, Div, Rem, Shl, Shr, And, Or, Xor, Eq, Ne, Lt, Le, Gt, Ge}
use Rattle.joint_ir.specs.declared.expr.UnaryOp.TheVariants.{Plus, Minus, Flip, Not}
use Rattle.joint_ir.specs.declared.program.CProgram.{CProgram}
use Rattle.joint_ir.specs.declared.program.PropId.{PropId}
use Rattle.joint_ir.specs.declared.program.PropKind.{PropKind}
use Rattle.joint_ir.specs.Types.{int, converted, IsType, Truth, Byte, Half, Single, Double}
use Rattle.joint_ir.specs.Values.{Answer, Value, unary_value, binary_value, bit_of, is_zero, bitwise}
use Rattle.joint_ir.specs.Weights.{unary_weight, binary_weight}
use Rattle.joint_ir.specs.WellFormed.{IsPromoted, HasProp}
use Rattle.sized_terms.specs.declared.SizedTerm.{SizedTerm}
use Rattle.sized_terms.specs.Sized.{Has, bits}
use Rattle.sized_terms.proofs.Made.{builds_none}
use Rattle.checked_terms.specs.declared.Checked.{Checked}
use Rattle.checked_terms.specs.Checked.{stands, IsChecked, IsPlain, plain, comparison_of}
use Rattle.checked_terms.proofs.Fits.{same_test, eq_true, true_eq}
use Rattle.checked_terms.proofs.Works.{checked_as, modulo_number}
use Rattle.c_operator_terms.specs.Operators.{less_op_of}

-- a promoted type is none of `_Bool`, and has 32 or 64 bits
pub promoted : (t : IntType) → IsPromoted t → IsPlain t
promoted t h = on t h.type h.wide
  where
    on : (t : IntType) → IsType t → 32 ≤ t.bits → IsPlain t
    on _ Truth w = absurd (omega arith)
    on _ (Byte s) w = absurd (omega arith)
    on _ (Half s) w = absurd (omega arith)
    on _ (Single s) w = record { some = omega arith; few = omega arith; truth = refl }
    on _ (Double s) w = record { some = omega arith; few = omega arith; truth = refl }

-- a property that isn't wanted isn't there, and one that is is there
pub no_prop : (p : CProgram) (k : PropKind) (b : Bool) (o : Option PropId) → HasProp p k b o → b ≡ false → o ≡ None
no_prop p k true o h e = cc
no_prop p k false o h e = h

pub some_prop : (p : CProgram) (k : PropKind) (o : Option PropId) → HasProp p k true o → IsSome o
some_prop p k None h = absurd h
some_prop p k (Some x) h = refl

-- terms that are there already
pub plus_made : (g : Graph) (t u : IntType) (a : SizedTerm) → IsGraph g → Has g a → a.width ≡ u.bits → u ≡ t → IsChecked g g t 0 5 (plain a) (λ v. Value (stands u v a))
plus_made g t u a is h e same = record {
  made = 0;
  builds = let b = builds_none g is in record { grown = b.grown; kept = b.kept; proper = is; cost = omega arith; count = omega arith };
  has = h;
  width = e ∙ ap (λ (t : IntType). t.bits) same;
  division = tt;
  other = tt;
  gives = λ v r. ap (λ (w : IntType). Value (number w.signed w.bits (bits v a))) (sym same);
  few = omega arith;
}

-- equal numbers have equal bits
pub eq_is : (s : Bool) (w x y : ℕ) → x < 2 ^ w → y < 2 ^ w → nat_eq x y ≡ int_eq (number s w x) (number s w y)
eq_is s w x y lx ly = same_test _ _
    (λ q. (Decides-int_eq (number s w x) (number s w y)).1 (ap (number s w) (eq_true x y q)))
    (λ q. true_eq x y (sym (modulo_number s w x lx) ∙ ap (modulo w) ((Decides-int_eq (number s w x) (number s w y)).0 q) ∙ modulo_number s w y ly))

pub le_is : (x y : ℤ) → int_le x y ≡ not (int_lt y x)
le_is (pos a) (pos b) = grind (arith, nat_tests)
le_is (pos a) (negsuc b) = refl
le_is (negsuc a) (pos b) = refl
le_is (negsuc a) (negsuc b) = grind (arith, nat_tests)

pub less_value : (s : Bool) (w x y : ℕ) → value2 (less_op_of s) w x y ≡ bit (int_lt (number s w x) (number s w y))
less_value true w x y = refl
less_value false w x y = refl

pub less_width : (s : Bool) (w : ℕ) → width2 (less_op_of s) w ≡ 1
less_width true w = refl
less_width false w = refl

pub less_gates : (s : Bool) (w : ℕ) → gates2 (less_op_of s) w ≡ 10 * w
less_gates true w = refl
less_gates false w = refl

-- an operator by its kind, and a result by what it is
pub finish : (g h : Graph) (op kind : BinaryOp) (t u w : IntType) (d p : Option PropId) (a b x : SizedTerm) (r : Checked) → op ≡ kind → r ≡ plain x →
    IsChecked g h t (8 * binary_weight kind t u.bits w.bits) 11 (plain x) (λ v. binary_value kind t d p (stands u v a) (stands w v b)) →
    IsChecked g h t (8 * binary_weight op t u.bits w.bits) 11 r (λ v. binary_value op t d p (stands u v a) (stands w v b))
finish g h op kind t u w d p a b x r e is P =
    subst (λ o. IsChecked g h t (8 * binary_weight o t u.bits w.bits) 11 r (λ v. binary_value o t d p (stands u v a) (stands w v b))) (sym e)
    (subst (λ c. IsChecked g h t (8 * binary_weight kind t u.bits w.bits) 11 c (λ v. binary_value kind t d p (stands u v a) (stands w v b))) (sym is) P)

pub bits_kind : (g h : Graph) (t u w : IntType) (op : Op2) (gates : ℕ) (a b x : SizedTerm) (f : ℕ → ℕ → ℕ) → u ≡ t → w ≡ t → gates2 op t.bits ≤ gates → ((x y : ℕ) → value2 op t.bits x y ≡ f x y) →
    ((f : ℕ → ℕ → ℕ) → ((x y : ℕ) → value2 op t.bits x y ≡ f x y) → IsChecked g h t (gates2 op t.bits) 1 (plain x) (λ v. Value (bitwise f t (stands t v a) (stands t v b)))) →
    IsChecked g h t gates 11 (plain x) (λ v. Value (bitwise f t (stands u v a) (stands w v b)))
bits_kind g h t u w op gates a b x f eu ew le same P =
    checked_as g h t (gates2 op t.bits) gates 1 11 (plain x) _ _ (P f same) le (omega arith)
    (λ v r. ap (λ (k : IntType). Value (bitwise f t (stands k v a) (stands t v b))) (sym eu) ∙ ap (λ (k : IntType). Value (bitwise f t (stands u v a) (stands k v b))) (sym ew))

pub compare_kind : (g h : Graph) (t u w : IntType) (op : Op2) (negated : Bool) (gates : ℕ) (a b x : SizedTerm) (test : ℤ → ℤ → Bool) (answer : ℤ → ℤ → Answer) → t ≡ int → w ≡ u → a.width ≡ u.bits → b.width ≡ w.bits →
    ((x y : ℕ) → x < 2 ^ u.bits → y < 2 ^ u.bits → value2 op u.bits x y ≡ bit (test (number u.signed u.bits x) (number u.signed u.bits y))) →
    ((x y : ℤ) → Value (bit_of (comparison_of negated (test x y))) ≡ answer x y) → gates2 op u.bits ≤ gates →
    ((test : Values → Bool) → ((v : Values) → bits v a < 2 ^ a.width → bits v b < 2 ^ b.width → value2 op a.width (bits v a) (bits v b) ≡ bit (test v)) →
    IsChecked g h int (gates2 op a.width) 3 (plain x) (λ v. Value (bit_of (comparison_of negated (test v))))) →
    IsChecked g h t gates 11 (plain x) (λ v. answer (stands u v a) (stands w v b))
compare_kind g h t u w op negated gates a b x test answer et ew ea eb value is le P =
    let eb' : b.width ≡ u.bits = eb ∙ ap (λ (k : IntType). k.bits) ew in
    let one = P (λ v. test (stands u v a) (stands u v b)) (λ v lx ly.
    ap (λ k. value2 op k (bits v a) (bits v b)) ea ∙ value (bits v a) (bits v b) (subst (λ k. bits v a < 2 ^ k) ea lx) (subst (λ k. bits v b < 2 ^ k) eb' ly)) in
    let l : gates2 op a.width ≤ gates = subst (λ k. gates2 op k ≤ gates) (sym ea) le in
    subst (λ k. IsChecked g h k gates 11 (plain x) (λ v. answer (stands u v a) (stands w v b))) (sym et)
    (checked_as g h int (gates2 op a.width) gates 3 11 (plain x) _ _ one l (omega arith)
    (λ v r. is (stands u v a) (stands u v b) ∙ ap (λ (k : IntType). answer (stands u v a) (stands k v b)) (sym ew)))
