use Rattle.std.proofs.Common.{ap, ◌∙◌}
use Rattle.joint_ir.specs.declared.ctype.IntType.{IntType}
use Rattle.joint_ir.specs.declared.expr.Slot.TheVariants.{Local}
use Rattle.unwind_stores.proofs.Rows.{old_has}
use Rattle.unwind_stores.proofs.Rows.{some_terms}
use Rattle.unwind_stores.proofs.Declared.{local_there, init_may, local_typed, done_declare}
use Rattle.unwind_stores.proofs.declarations.declare_object.Goals as goal

pub init_value-requires-clause-fits : goal.init_value-requires-clause-fits
init_value-requires-clause-fits c = init_may c.args.at.now c.args.net.now c.args.state.now c.args.local c.args.init.now c.args.guard c.slot_type-ty.result c.slot_type-ty.ensures c.requires.plain c.requires.may

pub init_value-requires-clause-ty : goal.init_value-requires-clause-ty
init_value-requires-clause-ty c = local_typed c.args.at.now c.args.net.now c.args.state.now c.args.local c.args.init.now c.args.guard c.slot_type-ty.result c.slot_type-ty.ensures c.requires.may

pub put-requires-clause-there : goal.put-requires-clause-there
put-requires-clause-there c =
    let M = c.requires.may in
    some_terms c.args.at.now.pair.now.program c.args.net.now.terms c.args.state.now.objects (Local c.args.local) M.objects (local_there c.args.at.now M.scope c.args.local c.args.init.now M.program M.fits)

pub put-requires-clause-old : goal.put-requires-clause-old
put-requires-clause-old c =
    let M = c.requires.may in
    let I = c.in_ok-t.ensures in
    old_has c.args.at.now.pair.now.program c.args.net.now.terms c.init_value.new.net.terms c.args.state.now.objects (Local c.args.local) 0 c.in_ok-t.t.width (local_there c.args.at.now M.scope c.args.local c.args.init.now M.program M.fits)
    (I.width ∙ ap (λ (u : IntType). u.bits) c.slot_type-ty.ensures) I.grows.kept M.objects

pub returns : goal.returns
returns c =
    done_declare c.args.at.now c.args.net.now c.init_value.new.net c.put.new.net c.args.state.now c.put.new.objects c.args.local c.args.init.now c.args.guard c.in_ok-t.t c.slot_type-ty.result c.only.result
    c.only.ensures c.slot_type-ty.ensures c.requires.plain c.requires.may c.in_ok-t.ensures c.in_ok-put.ensures
