use Rattle.std.proofs.Common.{refl}
use Rattle.elab_names.specs.Measured.{signed_if_both, signed_of}
use Rattle.elab_names.proofs.Cases.{case_one, case_two}
use Rattle.elab_names.proofs.Measuring.{signed_unary, signed_arithmetic, signed_shift, signed_conditional}
use Rattle.elab_names.proofs.measure.+signed_of.Goals as goal

pub returns-in-Unary : goal.returns-in-Unary
returns-in-Unary t c = case_one signed_of signed_of (λ x. x) _ _ _ _ _ _ c.in-Unary.is c.get.ensures c.signed_of.ensures refl (signed_unary c.in-Unary.field-0 _)

pub returns-in-Arithmetic : goal.returns-in-Arithmetic
returns-in-Arithmetic t c =
    case_two signed_of signed_of signed_of signed_if_both _ _ _ _ _ _ _ _ _ c.in-Arithmetic.is c.get-in-Arithmetic.ensures c.get-in-Arithmetic-2.ensures c.signed_of-x.ensures c.signed_of-y.ensures c.signed_if_both.ensures (signed_arithmetic c.in-Arithmetic.field-0 _ _)

pub returns-in-Shift : goal.returns-in-Shift
returns-in-Shift t c = case_one signed_of signed_of (λ x. x) _ _ _ _ _ _ c.in-Shift.is c.get-in-Shift.ensures c.signed_of-in-Shift.ensures refl (signed_shift c.in-Shift.field-0 _ c.in-Shift.field-2)

pub returns-in-Conditional : goal.returns-in-Conditional
returns-in-Conditional t c =
    case_two signed_of signed_of signed_of signed_if_both _ _ _ _ _ _ _ _ _ c.in-Conditional.is c.get-in-Conditional.ensures c.get-in-Conditional-2.ensures c.signed_of-x-in-Conditional.ensures c.signed_of-y-in-Conditional.ensures c.signed_if_both-in-Conditional.ensures (signed_conditional c.in-Conditional.field-0 _ _)
