use Rattle.std.proofs.Common.{◌∙◌, sym, ap, subst, rules}
use Rattle.std.specs.Prelude.{ℤ, pos}
use Rattle.std.proofs.lemmas.Int.{to_z-of_z}
use Rattle.std.proofs.lemmas.Result.{err_from_is_err_and}
use mir.Val.{SFits}
use mir.Syntax.{w128}
use Rattle.joint_ir.specs.Types.{InRange, converted}
use Rattle.joint_value.proofs.Numbers.{converted_in}
use Rattle.joint_value.proofs.Nodes.{moved}
use Rattle.joint_machine.specs.Moments.{from_here}
use Rattle.joint_machine.proofs.machine.Machine.any_number.Goals as goal

pub returns-in_err-n-clause-finds : goal.returns-in_err-n-clause-finds
returns-in_err-n-clause-finds c =
    let p = err_from_is_err_and c.from_residual.result c.from_residual.ensures.1 in
    rw (p.1, p.2) (λ go. c.in_err-n.ensures.finds (λ n s c'. go (converted c.args.ty (pos n)) s c'))

pub returns-clause-finds : goal.returns-clause-finds
returns-clause-finds c = λ go.
    let f : SFits w128 c.converted.result = search rules in
    let g : SFits w128 c.from.result = search rules in
    c.in_ok-n.ensures.finds (λ n s c'. go (converted c.args.ty (pos n)) s c')
    ∙ ap (λ (v : ℤ). from_here c.draw.new.self (go v))
    (sym (to_z-of_z w128 _ f ∙ c.converted.ensures ∙ ap (λ (v : ℤ). converted c.args.ty v) (to_z-of_z w128 _ g ∙ c.from.ensures)))

pub returns-clause-range : goal.returns-clause-range
returns-clause-range c =
    let f : SFits w128 c.converted.result = search rules in
    moved (λ (v : ℤ). InRange c.args.ty v) _ f (subst (λ (v : ℤ). InRange c.args.ty v) (sym c.converted.ensures) (converted_in c.args.ty _ c.requires))
