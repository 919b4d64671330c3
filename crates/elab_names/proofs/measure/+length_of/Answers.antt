use Rattle.std.proofs.Common.{refl}
use Rattle.elab_names.specs.Measured.{greater, length_of}
use Rattle.elab_names.proofs.Cases.{case_one, case_two}
use Rattle.elab_names.proofs.Measuring.{length_unary, length_arithmetic, length_shift, length_conditional}
use Rattle.elab_names.proofs.measure.+length_of.Goals as goal

pub returns-in-Unary : goal.returns-in-Unary
returns-in-Unary t c = case_one length_of length_of (λ x. x) _ _ _ _ _ _ c.in-Unary.is c.get.ensures c.length_of.ensures refl (length_unary c.in-Unary.field-0 _)

pub returns-in-Arithmetic : goal.returns-in-Arithmetic
returns-in-Arithmetic t c =
    case_two length_of length_of length_of greater _ _ _ _ _ _ _ _ _ c.in-Arithmetic.is c.get-in-Arithmetic.ensures c.get-in-Arithmetic-2.ensures c.length_of-x.ensures c.length_of-y.ensures c.greater.ensures (length_arithmetic c.in-Arithmetic.field-0 _ _)

pub returns-in-Shift : goal.returns-in-Shift
returns-in-Shift t c = case_one length_of length_of (λ x. x) _ _ _ _ _ _ c.in-Shift.is c.get-in-Shift.ensures c.length_of-in-Shift.ensures refl (length_shift c.in-Shift.field-0 _ c.in-Shift.field-2)

pub returns-in-Conditional : goal.returns-in-Conditional
returns-in-Conditional t c =
    case_two length_of length_of length_of greater _ _ _ _ _ _ _ _ _ c.in-Conditional.is c.get-in-Conditional.ensures c.get-in-Conditional-2.ensures c.length_of-x-in-Conditional.ensures c.length_of-y-in-Conditional.ensures c.greater-in-Conditional.ensures (length_conditional c.in-Conditional.field-0 _ _)
