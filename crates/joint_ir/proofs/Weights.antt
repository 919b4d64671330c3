-- What expressions weigh, case by case, and sums that stop.
use Rattle.std.proofs.Common.{◌≡◌, ℕ, suc, ◌+◌, ◌-◌, ◌*◌, ◌<◌, List, sym, ap, ◌∙◌, arith}
use Rattle.std.specs.Prelude.{Option, slice_get}
use Rattle.joint_ir.specs.declared.program.Var.{Var}
use denote.Hole.Carrier.{hidden}
use Rattle.joint_ir.specs.declared.expr.BinaryOp.{BinaryOp}
use Rattle.joint_ir.specs.declared.expr.LogicOp.{LogicOp}
use Rattle.joint_ir.specs.declared.expr.Slot.{Slot}
use Rattle.joint_ir.specs.declared.expr.TExpr.{TExpr}
use Rattle.joint_ir.specs.declared.expr.TNode.{Index, Unary, Binary, Logic, Choose, Convert}
use Rattle.joint_ir.specs.declared.expr.TNode.TheBlock.{hidden-the_row-TExpr-0}
use Rattle.joint_ir.specs.declared.expr.UnaryOp.{UnaryOp}
use Rattle.joint_ir.specs.declared.program.CProgram.{CProgram}
use Rattle.joint_ir.specs.declared.program.PropId.{PropId}
use Rattle.joint_ir.specs.Weights.{capped, node_weight, expr_weight, slot_length, read_weight, unary_weight, binary_weight, convert_weight, params_weight, store_weight, var_bits}

-- sums that stop
pub cap_one : (u own x o e r : ℕ) → x ≡ capped u → o ≡ own → r ≡ capped (x + o + 4) → e ≡ u + own + 4 → r ≡ capped e
cap_one u own x o e r hx ho hr he = omega arith

pub cap_two : (u v own x y o e r : ℕ) → x ≡ capped u → y ≡ capped v → o ≡ own → r ≡ capped (x + y + o + 4) → e ≡ u + v + own + 4 → r ≡ capped e
cap_two u v own x y o e r hx hy ho hr he = omega arith

pub cap_three : (u v w own x y z o e r : ℕ) → x ≡ capped u → y ≡ capped v → z ≡ capped w → o ≡ own → r ≡ capped (x + y + z + o + 4) → e ≡ u + v + w + own + 4 → r ≡ capped e
cap_three u v w own x y z o e r hx hy hz ho hr he = omega arith

module _ (p : CProgram) (e : TExpr) where
  pub weight-index : (slot : Slot) (a got : TExpr) (prop : PropId) → e.node ≡ Index slot a prop → got ≡ a →
      expr_weight p e ≡ expr_weight p got + read_weight (slot_length p slot) got.ty.bits e.ty.bits + 4
  unfolding hidden-the_row-TExpr-0 hidden
  weight-index slot a got prop is is_a = ap (node_weight p e.ty) (is ∙ ap (λ x. Index slot x prop) (sym is_a))

  pub weight-unary : (op : UnaryOp) (a got : TExpr) (prop : Option PropId) → e.node ≡ Unary op a prop → got ≡ a →
      expr_weight p e ≡ expr_weight p got + unary_weight op e.ty got.ty.bits + 4
  unfolding hidden-the_row-TExpr-0 hidden
  weight-unary op a got prop is is_a = ap (node_weight p e.ty) (is ∙ ap (λ x. Unary op x prop) (sym is_a))

  pub weight-binary : (op : BinaryOp) (a got b more : TExpr) (d prop : Option PropId) → e.node ≡ Binary op a b d prop → got ≡ a → more ≡ b →
      expr_weight p e ≡ expr_weight p got + expr_weight p more + binary_weight op e.ty got.ty.bits more.ty.bits + 4
  unfolding hidden-the_row-TExpr-0 hidden
  weight-binary op a got b more d prop is is_a is_b =
      ap (node_weight p e.ty) (is ∙ ap (λ x. Binary op x b d prop) (sym is_a) ∙ ap (λ y. Binary op got y d prop) (sym is_b))

  pub weight-logic : (op : LogicOp) (a got b more : TExpr) → e.node ≡ Logic op a b → got ≡ a → more ≡ b →
      expr_weight p e ≡ expr_weight p got + expr_weight p more + (got.ty.bits + more.ty.bits + 8) + 4
  unfolding hidden-the_row-TExpr-0 hidden
  weight-logic op a got b more is is_a is_b =
      ap (node_weight p e.ty) (is ∙ ap (λ x. Logic op x b) (sym is_a) ∙ ap (λ y. Logic op got y) (sym is_b))

  pub weight-choose : (c if_ a got b more : TExpr) → e.node ≡ Choose c a b → if_ ≡ c → got ≡ a → more ≡ b →
      expr_weight p e ≡ expr_weight p if_ + expr_weight p got + expr_weight p more + (3 * e.ty.bits + if_.ty.bits + 8) + 4
  unfolding hidden-the_row-TExpr-0 hidden
  weight-choose c if_ a got b more is is_c is_a is_b =
      ap (node_weight p e.ty) (is ∙ ap (λ x. Choose x a b) (sym is_c) ∙ ap (λ x. Choose if_ x b) (sym is_a) ∙ ap (λ y. Choose if_ got y) (sym is_b))

  pub weight-convert : (a got : TExpr) → e.node ≡ Convert a → got ≡ a →
      expr_weight p e ≡ expr_weight p got + convert_weight e.ty got.ty.bits + 4
  unfolding hidden-the_row-TExpr-0 hidden
  weight-convert a got is is_a = ap (node_weight p e.ty) (is ∙ ap Convert (sym is_a))

param_step : (locals : List Var) (a n a' n' : ℕ) → n ≡ suc n' → a' ≡ suc a →
    params_weight locals a n ≡ store_weight (var_bits (slice_get locals a)) + params_weight locals a' n'
param_step locals a n a' n' en ea =
    ap (params_weight locals a) en ∙ ap (λ x. store_weight (var_bits (slice_get locals a)) + params_weight locals x n') (sym ea)

pub params_more : (locals : List Var) (first count k whole total s total' : ℕ) → k < count →
    capped whole ≡ capped (total + params_weight locals (first + k) (count - k)) → s ≡ store_weight (var_bits (slice_get locals (first + k))) →
    total' ≡ capped (total + s) → capped whole ≡ capped (total' + params_weight locals (first + (k + 1)) (count - (k + 1)))
params_more locals first count k whole total s total' lt h hs ht =
    let en : count - k ≡ suc (count - (k + 1)) = omega arith in
    let ea : first + (k + 1) ≡ suc (first + k) = omega arith in
    let step = param_step locals (first + k) (count - k) (first + (k + 1)) (count - (k + 1)) en ea in
    omega arith
