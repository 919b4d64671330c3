use Rattle.std.proofs.Common.{rules, arith, refl, ◌∙◌, ap, ℤ}
use Rattle.joint_ir.specs.Values.{Value}
use Rattle.joint_value.specs.Answers.{IsSmall, CanOperate}
use Rattle.std.proofs.lemmas.Grind.{common_steps}
use Rattle.std.proofs.lemmas.Int.{to_z-of_z}
use Rattle.std.proofs.lemmas.Result.{err_from_is_err_and}
use mir.Val.{SFits, to_z, of_z}
use mir.Syntax.{w128}
use Rattle.joint_ir.specs.declared.expr.TNode.{the_lemmas}
use Rattle.joint_value.proofs.Nodes.{value-index, parts-index, value-unary, parts-unary, small-unary, width, value-binary, left-binary, right-binary, left-small, right-small, can-binary, value-logic, left-logic, right-logic, value-choose, test-choose, first-choose, second-choose, value-convert, parts-convert, fault_at, value_at, after, moved}
use Rattle.joint_value.proofs.exprs.+value.Goals as goal

pub value-value-requires : goal.value-value-requires
value-value-requires t c = (
  grind (the_lemmas, arith, common_steps),
  parts-index c.requires _ _ _ _ c.in-Index.is c.get.ensures,
)

pub value-returns-in_err-i-in-Index : goal.value-returns-in_err-i-in-Index
value-returns-in_err-i-in-Index t c =
    let p = err_from_is_err_and c.from_residual.result c.from_residual.ensures.1 in
    rw (p.1, p.2) (fault_at _ _ _ _ c.in_err-i-in-Index.ensures (value-index c.requires _ _ _ _ c.in-Index.is c.get.ensures))

pub value-returns-in_ok-i-in-Index : goal.value-returns-in_ok-i-in-Index
value-returns-in_ok-i-in-Index t c =
    let f : SFits w128 c.in_ok-i-in-Index.i = search rules in
    let h = simp to_z-of_z at c.element-in-Index.ensures in
    value_at _ _ _ _ _ c.in_ok-i-in-Index.ensures (value-index c.requires _ _ _ _ c.in-Index.is c.get.ensures) h

pub value-value-requires-in-Unary : goal.value-value-requires-in-Unary
value-value-requires-in-Unary t c = (
  grind (the_lemmas, arith, common_steps),
  parts-unary c.requires _ _ _ _ c.in-Unary.is c.get-in-Unary.ensures,
)

pub value-returns-in_err-x-in-Unary : goal.value-returns-in_err-x-in-Unary
value-returns-in_err-x-in-Unary t c =
    let p = err_from_is_err_and c.from_residual-in_err-x-in-Unary.result c.from_residual-in_err-x-in-Unary.ensures.1 in
    rw (p.1, p.2) (fault_at _ _ _ _ c.in_err-x-in-Unary.ensures (value-unary c.requires _ _ _ _ c.in-Unary.is c.get-in-Unary.ensures))

pub value-unary-requires-clause-ty : goal.value-unary-requires-clause-ty
value-unary-requires-clause-ty t c =
    width c.requires

pub value-unary-requires-clause-x : goal.value-unary-requires-clause-x
value-unary-requires-clause-x t c =
    let f : SFits w128 c.in_ok-x-in-Unary.x = search rules in
    moved IsSmall _ f (small-unary c.requires _ _ _ _ _ c.in-Unary.is c.get-in-Unary.ensures c.in_ok-x-in-Unary.ensures)

pub value-returns-in_ok-x-in-Unary : goal.value-returns-in_ok-x-in-Unary
value-returns-in_ok-x-in-Unary t c =
    let f : SFits w128 c.in_ok-x-in-Unary.x = search rules in
    let h = simp to_z-of_z at c.unary.ensures in
    value_at _ _ _ _ _ c.in_ok-x-in-Unary.ensures (value-unary c.requires _ _ _ _ c.in-Unary.is c.get-in-Unary.ensures) h

pub value-value-requires-in-Binary : goal.value-value-requires-in-Binary
value-value-requires-in-Binary t c = (
  grind (the_lemmas, arith, common_steps),
  left-binary c.requires _ _ _ _ _ _ c.in-Binary.is c.get-in-Binary.ensures,
)

pub value-value-requires-in-Binary-2 : goal.value-value-requires-in-Binary-2
value-value-requires-in-Binary-2 t c = (
  grind (the_lemmas, arith, common_steps),
  right-binary c.requires _ _ _ _ _ _ c.in-Binary.is c.get-in-Binary-2.ensures,
)

pub value-returns-in_err-x-in-Binary : goal.value-returns-in_err-x-in-Binary
value-returns-in_err-x-in-Binary t c =
    let p = err_from_is_err_and c.from_residual-in_err-x-in-Binary.result c.from_residual-in_err-x-in-Binary.ensures.1 in
    rw (p.1, p.2) (fault_at _ _ _ _ c.in_err-x-in-Binary.ensures (value-binary c.requires _ _ _ c.in-Binary.b c.in-Binary.b _ _ c.in-Binary.is c.get-in-Binary.ensures refl))

pub value-returns-in_err-y-in-Binary : goal.value-returns-in_err-y-in-Binary
value-returns-in_err-y-in-Binary t c =
    let p = err_from_is_err_and c.from_residual-in_err-y-in-Binary.result c.from_residual-in_err-y-in-Binary.ensures.1 in
    rw (p.1, p.2) (fault_at _ _ _ _ c.in_err-y-in-Binary.ensures (after _ _ _ _ c.in_ok-x-in-Binary.ensures (value-binary c.requires _ _ _ _ _ _ _ c.in-Binary.is c.get-in-Binary.ensures c.get-in-Binary-2.ensures)))

pub value-binary-requires-clause-ty : goal.value-binary-requires-clause-ty
value-binary-requires-clause-ty t c =
    width c.requires

pub value-binary-requires-clause-x : goal.value-binary-requires-clause-x
value-binary-requires-clause-x t c =
    let f : SFits w128 c.in_ok-x-in-Binary.x = search rules in
    moved IsSmall _ f (left-small c.requires _ _ _ _ _ _ _ c.in-Binary.is c.get-in-Binary.ensures c.in_ok-x-in-Binary.ensures)

pub value-binary-requires-clause-y : goal.value-binary-requires-clause-y
value-binary-requires-clause-y t c =
    let f : SFits w128 c.in_ok-y-in-Binary.y = search rules in
    moved IsSmall _ f (right-small c.requires _ _ _ _ _ _ _ c.in-Binary.is c.get-in-Binary-2.ensures c.in_ok-y-in-Binary.ensures)

pub value-binary-requires-clause-can : goal.value-binary-requires-clause-can
value-binary-requires-clause-can t c =
    let f : SFits w128 c.in_ok-x-in-Binary.x = search rules in
    let g : SFits w128 c.in_ok-y-in-Binary.y = search rules in
    let can = can-binary c.requires _ _ _ _ _ _ _ _ _ c.in-Binary.is c.get-in-Binary.ensures c.get-in-Binary-2.ensures c.in_ok-x-in-Binary.ensures c.in_ok-y-in-Binary.ensures in
    moved (λ (x : ℤ). CanOperate c.in-Binary.op c.args.e.now.ty c.in-Binary.division c.in-Binary.other x (to_z w128 (of_z w128 c.in_ok-y-in-Binary.y))) _ f
    (moved (λ (y : ℤ). CanOperate c.in-Binary.op c.args.e.now.ty c.in-Binary.division c.in-Binary.other c.in_ok-x-in-Binary.x y) _ g can)

pub value-returns-in_ok-y-in-Binary : goal.value-returns-in_ok-y-in-Binary
value-returns-in_ok-y-in-Binary t c =
    let f : SFits w128 c.in_ok-x-in-Binary.x = search rules in
    let g : SFits w128 c.in_ok-y-in-Binary.y = search rules in
    let h = simp to_z-of_z at c.binary.ensures in
    value_at _ _ _ _ _ c.in_ok-y-in-Binary.ensures (after _ _ _ _ c.in_ok-x-in-Binary.ensures (value-binary c.requires _ _ _ _ _ _ _ c.in-Binary.is c.get-in-Binary.ensures c.get-in-Binary-2.ensures)) h

pub value-value-requires-in-Logic : goal.value-value-requires-in-Logic
value-value-requires-in-Logic t c = (
  grind (the_lemmas, arith, common_steps),
  left-logic c.requires _ _ _ _ c.in-Logic.is c.get-in-Logic.ensures,
)

pub value-returns-in_err-x-in-Logic : goal.value-returns-in_err-x-in-Logic
value-returns-in_err-x-in-Logic t c =
    let p = err_from_is_err_and c.from_residual-in_err-x-in-Logic.result c.from_residual-in_err-x-in-Logic.ensures.1 in
    rw (p.1, p.2) (fault_at _ _ _ _ c.in_err-x-in-Logic.ensures (value-logic c.requires _ _ _ c.in-Logic.b c.in-Logic.b c.in-Logic.is c.get-in-Logic.ensures refl))

pub value-logic-requires : goal.value-logic-requires
value-logic-requires t c = (
  grind (the_lemmas, arith, common_steps),
  right-logic c.requires _ _ _ _ c.in-Logic.is c.get-in-Logic-2.ensures,
)

pub value-returns-in_ok-x-in-Logic : goal.value-returns-in_ok-x-in-Logic
value-returns-in_ok-x-in-Logic t c =
    let f : SFits w128 c.in_ok-x-in-Logic.x = search rules in
    let h = simp to_z-of_z at c.logic.ensures in
    value_at _ _ _ _ _ c.in_ok-x-in-Logic.ensures (value-logic c.requires _ _ _ _ _ c.in-Logic.is c.get-in-Logic.ensures c.get-in-Logic-2.ensures) h

pub value-value-requires-in-Choose : goal.value-value-requires-in-Choose
value-value-requires-in-Choose t c = (
  grind (the_lemmas, arith, common_steps),
  test-choose c.requires _ _ _ _ c.in-Choose.is c.get-in-Choose.ensures,
)

pub value-returns-in_err-x-in-Choose : goal.value-returns-in_err-x-in-Choose
value-returns-in_err-x-in-Choose t c =
    let p = err_from_is_err_and c.from_residual-in_err-x-in-Choose.result c.from_residual-in_err-x-in-Choose.ensures.1 in
    rw (p.1, p.2) (fault_at _ _ _ _ c.in_err-x-in-Choose.ensures (value-choose c.requires _ _ c.in-Choose.a c.in-Choose.a c.in-Choose.b c.in-Choose.b c.in-Choose.is c.get-in-Choose.ensures refl refl))

pub value-chosen-requires : goal.value-chosen-requires
value-chosen-requires t c = (
  grind (the_lemmas, arith, common_steps),
  (
    first-choose c.requires _ _ _ _ c.in-Choose.is c.get-in-Choose-2.ensures,
    second-choose c.requires _ _ _ _ c.in-Choose.is c.get-in-Choose-3.ensures,
  ),
)

pub value-returns-in_ok-x-in-Choose : goal.value-returns-in_ok-x-in-Choose
value-returns-in_ok-x-in-Choose t c =
    let f : SFits w128 c.in_ok-x-in-Choose.x = search rules in
    let h = simp to_z-of_z at c.chosen.ensures in
    value_at _ _ _ _ _ c.in_ok-x-in-Choose.ensures (value-choose c.requires _ _ _ _ _ _ c.in-Choose.is c.get-in-Choose.ensures c.get-in-Choose-2.ensures c.get-in-Choose-3.ensures) h

pub value-value-requires-in-Convert : goal.value-value-requires-in-Convert
value-value-requires-in-Convert t c = (
  grind (the_lemmas, arith, common_steps),
  parts-convert c.requires _ _ c.in-Convert.is c.get-in-Convert.ensures,
)

pub value-returns-in_err-x-in-Convert : goal.value-returns-in_err-x-in-Convert
value-returns-in_err-x-in-Convert t c =
    let p = err_from_is_err_and c.from_residual-in_err-x-in-Convert.result c.from_residual-in_err-x-in-Convert.ensures.1 in
    rw (p.1, p.2) (fault_at _ _ _ _ c.in_err-x-in-Convert.ensures (value-convert c.requires _ _ c.in-Convert.is c.get-in-Convert.ensures))

pub value-converted-requires : goal.value-converted-requires
value-converted-requires t c =
    width c.requires

pub value-returns-in_ok-x-in-Convert : goal.value-returns-in_ok-x-in-Convert
value-returns-in_ok-x-in-Convert t c =
    let f : SFits w128 c.in_ok-x-in-Convert.x = search rules in
    let g : SFits w128 c.converted.result = search rules in
    let h = simp to_z-of_z at c.converted.ensures in
    value_at _ _ _ _ _ c.in_ok-x-in-Convert.ensures (value-convert c.requires _ _ c.in-Convert.is c.get-in-Convert.ensures) (ap Value (to_z-of_z w128 _ g ∙ h))

pub chosen-value-requires : goal.chosen-value-requires
chosen-value-requires t c =
    (grind (the_lemmas, arith, common_steps), c.requires.second)
