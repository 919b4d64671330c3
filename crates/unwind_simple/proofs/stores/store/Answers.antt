use Rattle.unwind_simple.proofs.Storing.{store_obtains, store_typed, store_guard, store_there, store_old, done_store}
use Rattle.unwind_simple.proofs.stores.store.Goals as goal

pub init_value-requires-clause-fits : goal.init_value-requires-clause-fits
init_value-requires-clause-fits c = store_obtains c.args.at.now c.args.net.now c.args.state.now c.args.target.now c.args.init.now c.args.guard c.slot_type-ty.result c.slot_type-ty.ensures c.requires.fits

pub init_value-requires-clause-ty : goal.init_value-requires-clause-ty
init_value-requires-clause-ty c = store_typed c.args.at.now c.args.net.now c.args.state.now c.args.target.now c.args.init.now c.args.guard c.slot_type-ty.result c.slot_type-ty.ensures c.requires.fits

pub put-requires-clause-guard : goal.put-requires-clause-guard
put-requires-clause-guard c = store_guard c.args.at.now c.args.net.now c.init_value.new.net c.args.state.now c.args.target.now c.args.init.now c.args.guard c.slot_type-ty.result c.in_ok-t.t c.requires.fits c.in_ok-t.ensures

pub put-requires-clause-stored : goal.put-requires-clause-stored
put-requires-clause-stored c = c.requires.fits.fits.0.stored

pub put-requires-clause-there : goal.put-requires-clause-there
put-requires-clause-there c = store_there c.args.at.now c.args.net.now c.args.state.now c.args.target.now c.args.init.now c.args.guard c.requires.fits c.requires.plain

pub put-requires-clause-old : goal.put-requires-clause-old
put-requires-clause-old c =
    store_old c.args.at.now c.args.net.now c.init_value.new.net c.args.state.now c.args.target.now c.args.init.now c.args.guard c.slot_type-ty.result c.in_ok-t.t c.slot_type-ty.ensures c.requires.fits c.in_ok-t.ensures

pub returns : goal.returns
returns c =
    done_store c.args.at.now c.args.net.now c.init_value.new.net c.put.new.net c.args.state.now c.put.new.objects c.args.target.now c.args.init.now c.args.guard c.slot_type-ty.result c.in_ok-t.t c.only.result c.only.ensures c.slot_type-ty.ensures c.requires.fits c.requires.plain
    c.in_ok-t.ensures c.in_ok-put.ensures
