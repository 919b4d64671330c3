use Rattle.std.proofs.Common.{◌≡◌, ◌<◌, zero, suc, length, ap, ◌∙◌, sym, subst, arith}
use Rattle.joint_ir.specs.declared.ctype.IntType.{IntType}
use Rattle.joint_ir.specs.declared.expr.Slot.TheVariants.{Local}
use Rattle.unwind_stores.proofs.Rows.{old_has}
use Rattle.unwind_stores.proofs.Declared.{local_there}
use Rattle.unwind_stores.proofs.Elementwise.{array_within, done_element}
use Rattle.unwind_stores.proofs.arrays.set_element.Goals as goal

pub put-requires-clause-there : goal.put-requires-clause-there
put-requires-clause-there c =
    let M = c.requires.may in
    array_within c.args.at.now c.args.net.now c.args.state.now.objects c.args.local c.args.place (local_there c.args.at.now M.scope c.args.local c.args.init.now M.program M.fits) M.objects c.requires.within

pub put-requires-clause-old : goal.put-requires-clause-old
put-requires-clause-old c =
    let M = c.requires.may in
    let E = c.in_ok-t.ensures in
    old_has c.args.at.now.pair.now.program c.args.net.now.terms c.element_value.new.net.terms c.args.state.now.objects (Local c.args.local) c.args.place c.in_ok-t.t.width (local_there c.args.at.now M.scope c.args.local c.args.init.now M.program M.fits)
    (E.width ∙ ap (λ (u : IntType). u.bits) c.slot_type-ty.ensures) E.grows.kept M.objects

pub returns : goal.returns
returns c =
    let M = c.requires.may in
    let h = c.requires.within in
    done_element c.args.at.now c.args.net.now c.element_value.new.net c.put.new.net c.args.state.now c.put.new.objects c.args.local c.args.init.now c.args.place c.args.guard c.in_ok-t.t c.slot_type-ty.result c.slot_type-ty.ensures
    (array_within c.args.at.now c.args.net.now c.args.state.now.objects c.args.local c.args.place (local_there c.args.at.now M.scope c.args.local c.args.init.now M.program M.fits) M.objects h) (omega (arith, h)) M c.in_ok-t.ensures c.in_ok-put.ensures
