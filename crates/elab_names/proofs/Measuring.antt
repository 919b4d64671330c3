-- What is measured, at the values that code makes.
use Rattle.std.proofs.Common.{◌≡◌, Option, refl, ap, ◌∙◌}
use Rattle.v_tree.specs.declared.expr.BinaryOp.{BinaryOp}
use Rattle.v_tree.specs.declared.expr.UnaryOp.{UnaryOp}
use Rattle.elab_names.specs.declared.context.Context.{Context}
use Rattle.elab_names.specs.declared.constant.Standing.{Standing}
use Rattle.elab_names.specs.declared.constant.Worth.{Worth}
use Rattle.elab_names.specs.declared.measure.Measured.{Measured}
use Rattle.elab_names.specs.declared.measure.Measured as in_measured
use Rattle.elab_names.specs.declared.measure.Measured.TheVariants as a
use Rattle.elab_names.specs.Operators.{arithmetic_worth, comparison_worth, shifted_worth, unary_worth, chosen, sign_of}
use Rattle.elab_names.specs.Measured.{common_context, bit_standing, compared, greater, signed_if_both, length_of, signed_of, worth_in}

pub length_unary : (op : UnaryOp) (p : Measured) → length_of (a.Unary op p) ≡ length_of p
unfolding in_measured.TheBlock.hidden-the_row-Measured-0 denote.Hole.Carrier.hidden
length_unary op p = refl

pub length_arithmetic : (op : BinaryOp) (p q : Measured) → length_of (a.Arithmetic op p q) ≡ greater (length_of p) (length_of q)
unfolding in_measured.TheBlock.hidden-the_row-Measured-0 denote.Hole.Carrier.hidden
length_arithmetic op p q = refl

pub length_shift : (op : BinaryOp) (p : Measured) (w : Worth) → length_of (a.Shift op p w) ≡ length_of p
unfolding in_measured.TheBlock.hidden-the_row-Measured-0 denote.Hole.Carrier.hidden
length_shift op p w = refl

pub length_conditional : (w : Worth) (p q : Measured) → length_of (a.Conditional w p q) ≡ greater (length_of p) (length_of q)
unfolding in_measured.TheBlock.hidden-the_row-Measured-0 denote.Hole.Carrier.hidden
length_conditional w p q = refl

pub signed_unary : (op : UnaryOp) (p : Measured) → signed_of (a.Unary op p) ≡ signed_of p
unfolding in_measured.TheBlock.hidden-the_row-Measured-0 denote.Hole.Carrier.hidden
signed_unary op p = refl

pub signed_arithmetic : (op : BinaryOp) (p q : Measured) → signed_of (a.Arithmetic op p q) ≡ signed_if_both (signed_of p) (signed_of q)
unfolding in_measured.TheBlock.hidden-the_row-Measured-0 denote.Hole.Carrier.hidden
signed_arithmetic op p q = refl

pub signed_shift : (op : BinaryOp) (p : Measured) (w : Worth) → signed_of (a.Shift op p w) ≡ signed_of p
unfolding in_measured.TheBlock.hidden-the_row-Measured-0 denote.Hole.Carrier.hidden
signed_shift op p w = refl

pub signed_conditional : (w : Worth) (p q : Measured) → signed_of (a.Conditional w p q) ≡ signed_if_both (signed_of p) (signed_of q)
unfolding in_measured.TheBlock.hidden-the_row-Measured-0 denote.Hole.Carrier.hidden
signed_conditional w p q = refl

pub worth_unary : (x : Option Context) (op : UnaryOp) (p : Measured) → worth_in x (a.Unary op p) ≡ unary_worth op (worth_in x p)
unfolding in_measured.TheBlock.hidden-the_row-Measured-0 denote.Hole.Carrier.hidden
worth_unary x op p = refl

pub worth_arithmetic : (x : Option Context) (op : BinaryOp) (p q : Measured) → worth_in x (a.Arithmetic op p q) ≡ arithmetic_worth op (sign_of x) (worth_in x p) (worth_in x q)
unfolding in_measured.TheBlock.hidden-the_row-Measured-0 denote.Hole.Carrier.hidden
worth_arithmetic x op p q = refl

pub worth_shift : (x : Option Context) (op : BinaryOp) (p : Measured) (w : Worth) → worth_in x (a.Shift op p w) ≡ shifted_worth op (sign_of x) (worth_in x p) w
unfolding in_measured.TheBlock.hidden-the_row-Measured-0 denote.Hole.Carrier.hidden
worth_shift x op p w = refl

pub worth_conditional : (x : Option Context) (w : Worth) (p q : Measured) → worth_in x (a.Conditional w p q) ≡ chosen w (worth_in x p) (worth_in x q)
unfolding in_measured.TheBlock.hidden-the_row-Measured-0 denote.Hole.Carrier.hidden
worth_conditional x w p q = refl

pub compared_is : (op : BinaryOp) (p q : Measured) (ctx : Option Context) (x y w : Worth) (r : Standing) → ctx ≡ common_context p q → x ≡ worth_in ctx p → y ≡ worth_in ctx q →
    w ≡ comparison_worth op (sign_of ctx) x y → r ≡ bit_standing w → r ≡ compared op p q
compared_is op p q ctx x y w r hc hx hy hw hr =
    hr
    ∙ ap bit_standing (hw ∙ ap (λ v. comparison_worth op (sign_of ctx) v y) hx ∙ ap (λ v. comparison_worth op (sign_of ctx) (worth_in ctx p) v) hy)
    ∙ ap (λ c. bit_standing (comparison_worth op (sign_of c) (worth_in c p) (worth_in c q))) hc
