use Rattle.std.proofs.Common.{ap, ◌∙◌}
use Rattle.joint_ir.specs.declared.ctype.IntType.{IntType}
use Rattle.unwind_stores.proofs.Rows.{old_has}
use Rattle.unwind_simple.proofs.Statements.{there_in}
use Rattle.unwind_stores.proofs.Updating.{done_update}
use Rattle.unwind_stores.proofs.updates.update_object.Goals as goal

pub operated-requires-clause-first : goal.operated-requires-clause-first
operated-requires-clause-first c =
    let p = c.args.at.now.pair.now.program in
    let slot = c.args.target.now.slot in
    let M = c.requires.may in
    old_has p c.args.net.now.terms c.right.new.net.terms c.args.state.now.objects slot 0 c.slot_type-ty.result.bits (there_in c.args.at.now M.scope slot M.program M.fits.target_fits.object.visible M.fits.target_fits.stored)
    (ap (λ (t : IntType). t.bits) c.slot_type-ty.ensures) c.in_ok-y.ensures.grows.kept M.objects c.first.result c.first.ensures

pub put-requires-clause-old : goal.put-requires-clause-old
put-requires-clause-old c =
    let p = c.args.at.now.pair.now.program in
    let slot = c.args.target.now.slot in
    let M = c.requires.may in
    let R = c.in_ok-y.ensures in
    let O = c.in_ok-new.ensures in
    old_has p c.args.net.now.terms c.operated.new.net.terms c.args.state.now.objects slot 0 c.in_ok-new.new.width (there_in c.args.at.now M.scope slot M.program M.fits.target_fits.object.visible M.fits.target_fits.stored)
    (O.width ∙ ap (λ (t : IntType). t.bits) c.slot_type-ty.ensures) (λ x h. O.grows.kept x (R.grows.kept x h)) M.objects

pub returns : goal.returns
returns c =
    done_update c.args.at.now c.args.net.now c.right.new.net c.operated.new.net c.put.new.net c.args.state.now c.put.new.objects c.args.target.now c.args.u.now c.args.guard c.in_ok-y.y c.in_ok-new.new c.first.result c.slot_type-ty.result c.only.result
    c.only.ensures c.slot_type-ty.ensures c.requires.plain c.requires.may c.in_ok-y.ensures c.first.ensures c.in_ok-new.ensures c.in_ok-put.ensures
