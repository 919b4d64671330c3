use Rattle.elab_names.specs.Measured.{worth_in}
use Rattle.elab_names.specs.Operators.{arithmetic_worth, shifted_worth, unary_worth, chosen, sign_of}
use Rattle.elab_names.proofs.Cases.{case_one, case_two}
use Rattle.elab_names.proofs.Measuring.{worth_unary, worth_arithmetic, worth_shift, worth_conditional}
use Rattle.elab_names.proofs.measure.+worth_in.Goals as goal

pub returns-in-Unary-clause-value : goal.returns-in-Unary-clause-value
returns-in-Unary-clause-value t c =
    case_one (worth_in c.args.context) (worth_in c.args.context) (unary_worth c.in-Unary.op) _ _ _ _ _ _ c.in-Unary.is c.get.ensures c.worth_in-x.ensures.value c.unary_worth.ensures.value (worth_unary c.args.context c.in-Unary.op _)

pub returns-in-Arithmetic-clause-value : goal.returns-in-Arithmetic-clause-value
returns-in-Arithmetic-clause-value t c =
    case_two (worth_in c.args.context) (worth_in c.args.context) (worth_in c.args.context) (arithmetic_worth c.in-Arithmetic.op (sign_of c.args.context)) _ _ _ _ _ _ _ _ _
    c.in-Arithmetic.is c.get-in-Arithmetic.ensures c.get-in-Arithmetic-2.ensures c.worth_in-x-in-Arithmetic.ensures.value c.worth_in-y.ensures.value c.arithmetic_worth.ensures.value (worth_arithmetic c.args.context c.in-Arithmetic.op _ _)

pub returns-in-Shift-clause-value : goal.returns-in-Shift-clause-value
returns-in-Shift-clause-value t c =
    case_one (worth_in c.args.context) (worth_in c.args.context) (λ x. shifted_worth c.in-Shift.op (sign_of c.args.context) x c.in-Shift.amount) _ _ _ _ _ _
    c.in-Shift.is c.get-in-Shift.ensures c.worth_in-x-in-Shift.ensures.value c.shifted_worth.ensures.value (worth_shift c.args.context c.in-Shift.op _ c.in-Shift.amount)

pub returns-in-Conditional-clause-value : goal.returns-in-Conditional-clause-value
returns-in-Conditional-clause-value t c =
    case_two (worth_in c.args.context) (worth_in c.args.context) (worth_in c.args.context) (chosen c.in-Conditional.condition) _ _ _ _ _ _ _ _ _
    c.in-Conditional.is c.get-in-Conditional.ensures c.get-in-Conditional-2.ensures c.worth_in-x-in-Conditional.ensures.value c.worth_in-y-in-Conditional.ensures.value c.chosen.ensures.value (worth_conditional c.args.context c.in-Conditional.condition _ _)
