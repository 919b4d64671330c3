-- The width and the sign at which the operands of a binary operator stand, and the value of the whole by theirs
-- (IEEE 1364-2005, Table 5-22 and 5.5.2).
use Rattle.std.specs.Prelude.{◌≡◌, ℕ, Bool, true, false, ◌&&◌, if◌then◌else◌}
use Rattle.bits_core.specs.Word.{IsWidth, resized, at_zero}
use Rattle.flat_values.specs.declared.lengths.LengthSign.{LengthSign}
use Rattle.v_tree.specs.declared.expr.UnaryOp.{UnaryOp}
use Rattle.flat_tree.specs.Operators.{Form, InContext, Dividing, Comparing, Logical, Shifting, is_reduction, unary_value}
use Rattle.operand_contexts.specs.declared.stand.Operands.{Operands}
use Rattle.operand_contexts.specs.declared.stand.Operands.TheVariants as operands

-- the form that is meant
abbrev pub form_as : Operands → Form
form_as operands.InContext = InContext
form_as operands.Dividing = Dividing
form_as operands.Comparing = Comparing
form_as operands.Logical = Logical
form_as operands.Shifting = Shifting

-- a width and a sign
pub record IsContext (w : ℕ) (s : Bool) (x : LengthSign) : Type 0 where
  pub length : x.length ≡ w
  pub signed : x.signed ≡ s
  pub width : IsWidth x.length

-- whether the operator has a site
abbrev pub has_site : Form → Bool
has_site InContext = false
has_site Dividing = true
has_site Comparing = false
has_site Logical = false
has_site Shifting = false

-- the sign at which the left operand stands, by that of the whole and those of the operands
abbrev pub left_sign : Form → Bool → Bool → Bool → Bool
left_sign InContext s a b = s
left_sign Dividing s a b = s
left_sign Comparing s a b = a && b
left_sign Logical s a b = a
left_sign Shifting s a b = s

-- the same for the right operand
abbrev pub right_sign : Form → Bool → Bool → Bool → Bool
right_sign InContext s a b = s
right_sign Dividing s a b = s
right_sign Comparing s a b = a && b
right_sign Logical s a b = b
right_sign Shifting s a b = b

-- the widths of operands fit the form at a width
abbrev pub FitForm : Form → ℕ → ℕ → ℕ → Type 0
FitForm InContext w x y = (x ≡ w) × (y ≡ w)
FitForm Dividing w x y = (x ≡ w) × (y ≡ w)
FitForm Comparing w x y = y ≡ x
FitForm Logical w x y = Unit {0}
FitForm Shifting w x y = x ≡ w

-- the value at a width and a sign, of operands that have one: a flag is extended by the sign
abbrev pub combined : Form → (ℕ → Bool → ℕ → ℕ → ℕ) → ℕ → Bool → ℕ → Bool → ℕ → ℕ → ℕ
combined InContext f m t w s x y = f w s x y
combined Dividing f m t w s x y = f w s x y
combined Comparing f m t w s x y = resized w s 1 (f m t x y)
combined Logical f m t w s x y = resized w s 1 (f 1 false x y)
combined Shifting f m t w s x y = f w s x y

-- the value of a unary operator at a width and a sign, of an operand of m bits
abbrev pub unary_combined : UnaryOp → ℕ → ℕ → Bool → ℕ → ℕ
unary_combined op m w s x = if is_reduction op then resized w s 1 (unary_value op m x) else unary_value op m x
