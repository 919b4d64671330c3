-- What an expression gives and needs, by its node: `got` and the like are its parts, as the code reads them.
use Rattle.std.proofs.Common.{◌≡◌, sym, ap, ◌∙◌, subst}
use Rattle.std.specs.Prelude.{ℤ, Option, if◌then◌else◌}
use Rattle.std.proofs.lemmas.Int.{to_z-of_z}
use mir.Val.{SFits, to_z, of_z}
use mir.Syntax.{w128}
use denote.Hole.Carrier.{hidden}
use Rattle.joint_ir.specs.declared.expr.BinaryOp.{BinaryOp}
use Rattle.joint_ir.specs.declared.expr.LogicOp.{LogicOp}
use Rattle.joint_ir.specs.declared.expr.Slot.{Slot}
use Rattle.joint_ir.specs.declared.expr.TExpr.{TExpr}
use Rattle.joint_ir.specs.declared.expr.TNode.{TNode, Index, Unary, Binary, Logic, Choose, Convert}
use Rattle.joint_ir.specs.declared.expr.TNode.TheBlock.{hidden-the_row-TExpr-0}
use Rattle.joint_ir.specs.declared.expr.UnaryOp.{UnaryOp}
use Rattle.joint_ir.specs.declared.program.PropId.{PropId}
use Rattle.joint_ir.specs.Types.{converted}
use Rattle.joint_ir.specs.Values.{Answer, Value, Fault, Rows, and_then, is_zero, unary_value, binary_value, logic_value, element_at, node_value, value_of}
use Rattle.joint_ir.specs.WellFormed.{FitsNode}
use Rattle.joint_value.specs.Answers.{HasWidth, IsSmall, CanOperate}
use Rattle.joint_value.specs.Evaluable.{IsEvaluable}
use Rattle.joint_value.proofs.Numbers.{width_of, small_of}
use Rattle.joint_value.proofs.Ranges.{can_operate, expr_type, value_in_range}

small : (rows : Rows) (e : TExpr) (x : ℤ) → IsEvaluable rows e → Value x ≡ value_of rows e → IsSmall x
small rows e x h is = small_of e.ty x (expr_type h.scope rows h.held e h.fits) (value_in_range rows e x h is)

module _ {rows : Rows} {e : TExpr} (h : IsEvaluable rows e) where
  node_fits : (node : TNode) → e.node ≡ node → FitsNode h.scope e.ty node
  node_fits node is = subst (FitsNode h.scope e.ty) is h.fits

  -- an element of an array
  is_index : (slot : Slot) (a got : TExpr) (p : PropId) → e.node ≡ Index slot a p → got ≡ a → e.node ≡ Index slot got p
  is_index slot a got p is is_a = is ∙ ap (λ x. Index slot x p) (sym is_a)

  pub value-index : (slot : Slot) (a got : TExpr) (p : PropId) → e.node ≡ Index slot a p → got ≡ a →
      value_of rows e ≡ and_then (value_of rows got) (element_at (rows slot) p)
  unfolding hidden-the_row-TExpr-0 hidden
  value-index slot a got p is is_a = ap (node_value rows e.ty) (is_index slot a got p is is_a)

  pub parts-index : (slot : Slot) (a got : TExpr) (p : PropId) → e.node ≡ Index slot a p → got ≡ a → IsEvaluable rows got
  unfolding hidden-the_row-TExpr-0 hidden
  parts-index slot a got p is is_a = record { scope = h.scope; fits = (node_fits _ (is_index slot a got p is is_a)).3; held = h.held }

  -- a unary operator
  is_unary : (op : UnaryOp) (a got : TExpr) (p : Option PropId) → e.node ≡ Unary op a p → got ≡ a → e.node ≡ Unary op got p
  is_unary op a got p is is_a = is ∙ ap (λ x. Unary op x p) (sym is_a)

  pub value-unary : (op : UnaryOp) (a got : TExpr) (p : Option PropId) → e.node ≡ Unary op a p → got ≡ a →
      value_of rows e ≡ and_then (value_of rows got) (unary_value op e.ty p)
  unfolding hidden-the_row-TExpr-0 hidden
  value-unary op a got p is is_a = ap (node_value rows e.ty) (is_unary op a got p is is_a)

  pub parts-unary : (op : UnaryOp) (a got : TExpr) (p : Option PropId) → e.node ≡ Unary op a p → got ≡ a → IsEvaluable rows got
  unfolding hidden-the_row-TExpr-0 hidden
  parts-unary op a got p is is_a = record { scope = h.scope; fits = (node_fits _ (is_unary op a got p is is_a)).1; held = h.held }

  pub small-unary : (op : UnaryOp) (a got : TExpr) (p : Option PropId) (x : ℤ) → e.node ≡ Unary op a p → got ≡ a → Value x ≡ value_of rows got → IsSmall x
  small-unary op a got p x is is_a gave = small rows got x (parts-unary op a got p is is_a) gave

  -- the type of any expression
  pub width : HasWidth e.ty
  width = width_of e.ty (expr_type h.scope rows h.held e h.fits)

  -- a binary operator
  is_binary : (op : BinaryOp) (a got b more : TExpr) (d p : Option PropId) → e.node ≡ Binary op a b d p → got ≡ a → more ≡ b → e.node ≡ Binary op got more d p
  is_binary op a got b more d p is is_a is_b = is ∙ ap (λ x. Binary op x b d p) (sym is_a) ∙ ap (λ y. Binary op got y d p) (sym is_b)

  pub value-binary : (op : BinaryOp) (a got b more : TExpr) (d p : Option PropId) → e.node ≡ Binary op a b d p → got ≡ a → more ≡ b →
      value_of rows e ≡ and_then (value_of rows got) (λ x. and_then (value_of rows more) (binary_value op e.ty d p x))
  unfolding hidden-the_row-TExpr-0 hidden
  value-binary op a got b more d p is is_a is_b = ap (node_value rows e.ty) (is_binary op a got b more d p is is_a is_b)

  pub left-binary : (op : BinaryOp) (a got b : TExpr) (d p : Option PropId) → e.node ≡ Binary op a b d p → got ≡ a → IsEvaluable rows got
  unfolding hidden-the_row-TExpr-0 hidden
  left-binary op a got b d p is is_a =
      record { scope = h.scope; fits = (node_fits _ (is ∙ ap (λ x. Binary op x b d p) (sym is_a))).1; held = h.held }

  pub right-binary : (op : BinaryOp) (a b more : TExpr) (d p : Option PropId) → e.node ≡ Binary op a b d p → more ≡ b → IsEvaluable rows more
  unfolding hidden-the_row-TExpr-0 hidden
  right-binary op a b more d p is is_b =
      record { scope = h.scope; fits = (node_fits _ (is ∙ ap (λ y. Binary op a y d p) (sym is_b))).2; held = h.held }

  pub left-small : (op : BinaryOp) (a got b : TExpr) (d p : Option PropId) (x : ℤ) → e.node ≡ Binary op a b d p → got ≡ a →
      Value x ≡ value_of rows got → IsSmall x
  left-small op a got b d p x is is_a gave = small rows got x (left-binary op a got b d p is is_a) gave

  pub right-small : (op : BinaryOp) (a b more : TExpr) (d p : Option PropId) (y : ℤ) → e.node ≡ Binary op a b d p → more ≡ b →
      Value y ≡ value_of rows more → IsSmall y
  right-small op a b more d p y is is_b gave = small rows more y (right-binary op a b more d p is is_b) gave

  pub can-binary : (op : BinaryOp) (a got b more : TExpr) (d p : Option PropId) (x y : ℤ) → e.node ≡ Binary op a b d p → got ≡ a → more ≡ b →
      Value x ≡ value_of rows got → Value y ≡ value_of rows more → CanOperate op e.ty d p x y
  unfolding hidden-the_row-TExpr-0 hidden
  can-binary op a got b more d p x y is is_a is_b gave gives =
      can_operate h.scope.program op e.ty got.ty more.ty d p x y (node_fits _ (is_binary op a got b more d p is is_a is_b)).0
      (value_in_range rows got x (left-binary op a got b d p is is_a) gave)
      (value_in_range rows more y (right-binary op a b more d p is is_b) gives)

  -- `&&` and `||`
  is_logic : (op : LogicOp) (a got b more : TExpr) → e.node ≡ Logic op a b → got ≡ a → more ≡ b → e.node ≡ Logic op got more
  is_logic op a got b more is is_a is_b = is ∙ ap (λ x. Logic op x b) (sym is_a) ∙ ap (λ y. Logic op got y) (sym is_b)

  pub value-logic : (op : LogicOp) (a got b more : TExpr) → e.node ≡ Logic op a b → got ≡ a → more ≡ b →
      value_of rows e ≡ and_then (value_of rows got) (λ x. logic_value op x (value_of rows more))
  unfolding hidden-the_row-TExpr-0 hidden
  value-logic op a got b more is is_a is_b = ap (node_value rows e.ty) (is_logic op a got b more is is_a is_b)

  pub left-logic : (op : LogicOp) (a got b : TExpr) → e.node ≡ Logic op a b → got ≡ a → IsEvaluable rows got
  unfolding hidden-the_row-TExpr-0 hidden
  left-logic op a got b is is_a = record { scope = h.scope; fits = (node_fits _ (is ∙ ap (λ x. Logic op x b) (sym is_a))).1; held = h.held }

  pub right-logic : (op : LogicOp) (a b more : TExpr) → e.node ≡ Logic op a b → more ≡ b → IsEvaluable rows more
  unfolding hidden-the_row-TExpr-0 hidden
  right-logic op a b more is is_b = record { scope = h.scope; fits = (node_fits _ (is ∙ ap (λ y. Logic op a y) (sym is_b))).2; held = h.held }

  -- a choice
  is_choose : (c test a got b more : TExpr) → e.node ≡ Choose c a b → test ≡ c → got ≡ a → more ≡ b → e.node ≡ Choose test got more
  is_choose c test a got b more is is_c is_a is_b =
      is ∙ ap (λ x. Choose x a b) (sym is_c) ∙ ap (λ x. Choose test x b) (sym is_a) ∙ ap (λ y. Choose test got y) (sym is_b)

  pub value-choose : (c test a got b more : TExpr) → e.node ≡ Choose c a b → test ≡ c → got ≡ a → more ≡ b →
      value_of rows e ≡ and_then (value_of rows test) (λ x. if is_zero x then value_of rows more else value_of rows got)
  unfolding hidden-the_row-TExpr-0 hidden
  value-choose c test a got b more is is_c is_a is_b = ap (node_value rows e.ty) (is_choose c test a got b more is is_c is_a is_b)

  pub test-choose : (c test a b : TExpr) → e.node ≡ Choose c a b → test ≡ c → IsEvaluable rows test
  unfolding hidden-the_row-TExpr-0 hidden
  test-choose c test a b is is_c = record { scope = h.scope; fits = (node_fits _ (is ∙ ap (λ x. Choose x a b) (sym is_c))).3; held = h.held }

  pub first-choose : (c a got b : TExpr) → e.node ≡ Choose c a b → got ≡ a → IsEvaluable rows got
  unfolding hidden-the_row-TExpr-0 hidden
  first-choose c a got b is is_a = record { scope = h.scope; fits = (node_fits _ (is ∙ ap (λ x. Choose c x b) (sym is_a))).4; held = h.held }

  pub second-choose : (c a b more : TExpr) → e.node ≡ Choose c a b → more ≡ b → IsEvaluable rows more
  unfolding hidden-the_row-TExpr-0 hidden
  second-choose c a b more is is_b = record { scope = h.scope; fits = (node_fits _ (is ∙ ap (λ y. Choose c a y) (sym is_b))).5; held = h.held }

  -- a conversion
  is_convert : (a got : TExpr) → e.node ≡ Convert a → got ≡ a → e.node ≡ Convert got
  is_convert a got is is_a = is ∙ ap Convert (sym is_a)

  pub value-convert : (a got : TExpr) → e.node ≡ Convert a → got ≡ a → value_of rows e ≡ and_then (value_of rows got) (λ x. Value (converted e.ty x))
  unfolding hidden-the_row-TExpr-0 hidden
  value-convert a got is is_a = ap (node_value rows e.ty) (is_convert a got is is_a)

  pub parts-convert : (a got : TExpr) → e.node ≡ Convert a → got ≡ a → IsEvaluable rows got
  unfolding hidden-the_row-TExpr-0 hidden
  parts-convert a got is is_a = record { scope = h.scope; fits = (node_fits _ (is_convert a got is is_a)).1; held = h.held }

-- an answer after that of an operand
pub fault_at : (p : PropId) (a e : Answer) (go : ℤ → Answer) → Fault p ≡ a → e ≡ and_then a go → Fault p ≡ e
fault_at p a e go is whole = ap (λ (w : Answer). and_then w go) is ∙ sym whole

pub value_at : (x : ℤ) (a e r : Answer) (go : ℤ → Answer) → Value x ≡ a → e ≡ and_then a go → r ≡ go x → r ≡ e
value_at x a e r go is whole gives = gives ∙ ap (λ (w : Answer). and_then w go) is ∙ sym whole

pub after : (x : ℤ) (a e : Answer) (go : ℤ → Answer) → Value x ≡ a → e ≡ and_then a go → e ≡ go x
after x a e go is whole = whole ∙ ap (λ (w : Answer). and_then w go) (sym is)

-- a number that the code moves in 128 bits
pub moved : (P : ℤ → Type 0) (x : ℤ) → SFits w128 x → P x → P (to_z w128 (of_z w128 x))
moved P x f h = subst P (sym (to_z-of_z w128 x f)) h
