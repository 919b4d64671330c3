-- Operands at the widths and signs of their contexts.
use Rattle.std.proofs.Common.{◌≡◌, ℕ, ◌+◌, ◌<◌, ◌≤◌, Bool, true, false, refl, sym, ap, ◌∙◌, subst, arith}
use Rattle.std.specs.Prelude.{max, ◌&&◌}
use Rattle.bits_core.specs.Word.{IsWidth}
use Rattle.flat_tree.specs.Measures.{left_width, right_width}
use Rattle.flat_tree.specs.Operators.{Form, InContext, Dividing, Comparing, Logical, Shifting}
use Rattle.flat_values.specs.declared.lengths.LengthSign.{LengthSign}
use Rattle.operand_contexts.specs.Contexts.{IsContext, left_sign, right_sign}

max_width : (a b : ℕ) → IsWidth a → IsWidth b → IsWidth (max a b)
max_width a b p q = let x = p.0 in let y = p.1 in let z = q.1 in (omega arith, omega arith)

left_is : (f : Form) (w m n : ℕ) → IsWidth w → IsWidth m → IsWidth n → IsWidth (left_width f w m n)
left_is InContext w m n p q r = p
left_is Dividing w m n p q r = p
left_is Comparing w m n p q r = max_width m n q r
left_is Logical w m n p q r = q
left_is Shifting w m n p q r = p

right_is : (f : Form) (w m n : ℕ) → IsWidth w → IsWidth m → IsWidth n → IsWidth (right_width f w m n)
right_is InContext w m n p q r = p
right_is Dividing w m n p q r = p
right_is Comparing w m n p q r = max_width m n q r
right_is Logical w m n p q r = r
right_is Shifting w m n p q r = r

pub left_stands : (e f : Form) (w j k m n : ℕ) (s a b c d : Bool) (x : LengthSign) → e ≡ f → j ≡ m → k ≡ n → a ≡ c → b ≡ d → x.length ≡ left_width e w j k → x.signed ≡ left_sign e s a b → IsWidth w → IsWidth j → IsWidth k → IsContext (left_width f w m n) (left_sign f s c d) x
left_stands e f w j k m n s a b c d x ef ej ek ea eb l t p q r = record {
  length = l ∙ ap (λ z. left_width z w j k) ef ∙ ap (λ z. left_width f w z k) ej ∙ ap (left_width f w m) ek;
  signed = t ∙ ap (λ z. left_sign z s a b) ef ∙ ap (λ z. left_sign f s z b) ea ∙ ap (left_sign f s c) eb;
  width = subst IsWidth (sym l) (left_is e w j k p q r);
}

pub right_stands : (e f : Form) (w j k m n : ℕ) (s a b c d : Bool) (x : LengthSign) → e ≡ f → j ≡ m → k ≡ n → a ≡ c → b ≡ d → x.length ≡ right_width e w j k → x.signed ≡ right_sign e s a b → IsWidth w → IsWidth j → IsWidth k → IsContext (right_width f w m n) (right_sign f s c d) x
right_stands e f w j k m n s a b c d x ef ej ek ea eb l t p q r = record {
  length = l ∙ ap (λ z. right_width z w j k) ef ∙ ap (λ z. right_width f w z k) ej ∙ ap (right_width f w m) ek;
  signed = t ∙ ap (λ z. right_sign z s a b) ef ∙ ap (λ z. right_sign f s z b) ea ∙ ap (right_sign f s c) eb;
  width = subst IsWidth (sym l) (right_is e w j k p q r);
}
