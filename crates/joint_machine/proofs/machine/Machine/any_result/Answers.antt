use Rattle.std.proofs.Common.{◌∙◌, sym, rules}
use Rattle.std.proofs.lemmas.Int.{to_z-of_z}
use Rattle.std.proofs.lemmas.Result.{err_from_is_err_and}
use mir.Val.{SFits}
use mir.Syntax.{w128}
use Rattle.joint_ir.specs.Effects.{nothing, Goes}
use Rattle.joint_ir.specs.declared.way.Way.TheVariants.{Next}
use Rattle.joint_ir.specs.Steps.{returning}
use Rattle.joint_machine.proofs.Flow.{returned_done}
use Rattle.joint_machine.proofs.machine.Machine.any_result.Goals as goal

pub returns-in_err-self-clause-does : goal.returns-in_err-self-clause-does
returns-in_err-self-clause-does c =
    let p = err_from_is_err_and c.from_residual.result c.from_residual.ensures.1 in
    rw (p.1, p.2, c.in-Some.is) (c.in_err-self.ensures.finds (λ v s c'. Goes Next (returning s v) nothing c'))

pub returns-in_ok-self-clause-does : goal.returns-in_ok-self-clause-does
returns-in_ok-self-clause-does c =
    let f : SFits w128 c.in_ok-self.field-0 = search rules in
    rw c.in-Some.is
    (c.in_ok-self.ensures.finds (λ v s c'. Goes Next (returning s v) nothing c')
    ∙ returned_done c.any_number.new.self c.in_ok-self.field-0 _ (sym (to_z-of_z w128 _ f)))
