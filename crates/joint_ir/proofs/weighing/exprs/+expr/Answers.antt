use Rattle.std.proofs.Common.{refl, ap, ◌∙◌}
use Rattle.joint_ir.specs.Weights.{read_weight}
use Rattle.joint_ir.proofs.Weights.{cap_one, cap_two, cap_three, weight-index, weight-unary, weight-binary, weight-logic, weight-choose, weight-convert}
use Rattle.joint_ir.proofs.weighing.exprs.+expr.Goals as goal

pub returns-in-Index-clause-value : goal.returns-in-Index-clause-value
returns-in-Index-clause-value t c =
    cap_one _ _ _ _ _ _ c.expr-x.ensures.value
    (c.read-own.ensures.value ∙ ap (λ n. read_weight n c.get-a.result.now.ty.bits c.args.e.now.ty.bits) c.slot_length.ensures)
    c.capped.ensures.value
    (weight-index c.args.program.now c.args.e.now _ _ _ _ c.in-Index.is c.get-a.ensures)

pub returns-in-Unary-clause-value : goal.returns-in-Unary-clause-value
returns-in-Unary-clause-value t c =
    cap_one _ _ _ _ _ _ c.expr-x-in-Unary.ensures.value c.unary.ensures.value c.capped-in-Unary.ensures.value
    (weight-unary c.args.program.now c.args.e.now _ _ _ _ c.in-Unary.is c.get-a-in-Unary.ensures)

pub returns-in-Binary-clause-value : goal.returns-in-Binary-clause-value
returns-in-Binary-clause-value t c =
    cap_two _ _ _ _ _ _ _ _ c.expr-x-in-Binary.ensures.value c.expr-y.ensures.value c.binary.ensures.value c.capped-in-Binary.ensures.value
    (weight-binary c.args.program.now c.args.e.now _ _ _ _ _ _ _ c.in-Binary.is c.get-a-in-Binary.ensures c.get-b.ensures)

pub returns-in-Logic-clause-value : goal.returns-in-Logic-clause-value
returns-in-Logic-clause-value t c =
    cap_two _ _ _ _ _ _ _ _ c.expr-x-in-Logic.ensures.value c.expr-y-in-Logic.ensures.value refl c.capped-in-Logic.ensures.value
    (weight-logic c.args.program.now c.args.e.now _ _ _ _ _ c.in-Logic.is c.get-a-in-Logic.ensures c.get-b-in-Logic.ensures)

pub returns-in-Choose-clause-value : goal.returns-in-Choose-clause-value
returns-in-Choose-clause-value t c =
    cap_three _ _ _ _ _ _ _ _ _ _ c.expr-x-in-Choose.ensures.value c.expr-y-in-Choose.ensures.value c.expr-z.ensures.value refl c.capped-in-Choose.ensures.value
    (weight-choose c.args.program.now c.args.e.now _ _ _ _ _ _ c.in-Choose.is c.get-c.ensures c.get.ensures c.get-in-Choose.ensures)

pub returns-in-Convert-clause-value : goal.returns-in-Convert-clause-value
returns-in-Convert-clause-value t c =
    cap_one _ _ _ _ _ _ c.expr-x-in-Convert.ensures.value c.convert.ensures.value c.capped-in-Convert.ensures.value
    (weight-convert c.args.program.now c.args.e.now _ _ c.in-Convert.is c.get-a-in-Convert.ensures)
