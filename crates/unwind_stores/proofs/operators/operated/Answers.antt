use Rattle.std.proofs.Common.{◌*◌, refl, subst}
use Rattle.joint_ir.specs.declared.ctype.IntType.{IntType}
use Rattle.joint_ir.specs.Values.{binary_value}
use Rattle.joint_ir.specs.Weights.{binary_weight}
use Rattle.joint_ir.specs.WellFormed.{right_type}
use Rattle.checked_terms.specs.Checked.{stands, IsChecked}
use Rattle.unrolled.specs.declared.Unrolled.{Unrolled}
use Rattle.unwind_stores.proofs.Answered.{done_operated}
use Rattle.unwind_stores.proofs.operators.operated.Goals as goal

pub returns : goal.returns
returns c =
    let u = c.args.u.now in
    let net : Unrolled = record { terms = c.binary.new.terms; list = c.converted.new.net.list } in
    done_operated c.args.net.now c.converted.new.net net c.converted-2.new.net c.test.new.net c.test-2.new.net u c.args.ty (8 * binary_weight u.op u.ty u.ty.bits (right_type u.ty u.right).bits) c.args.guard c.args.old c.args.right c.in_ok-x.x c.in_ok-new.new c.in_ok-r.r
    c.in_ok-x.ensures refl
    (subst (λ (w : IntType). IsChecked c.converted.new.net.terms c.binary.new.terms u.ty (8 * binary_weight u.op u.ty u.ty.bits w.bits) 11 c.in_ok-r.r (λ v. binary_value u.op u.ty u.division u.other (stands u.ty v c.in_ok-x.x) (stands w v c.args.right))) c.right_type.ensures c.in_ok-r.ensures)
    c.in_ok-new.ensures c.in_ok-test.ensures c.in_ok-test-2.ensures
