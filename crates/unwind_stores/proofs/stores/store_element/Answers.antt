use Rattle.std.proofs.Common.{sym, ap, ◌∙◌}
use Rattle.joint_ir.specs.declared.ctype.IntType.{IntType}
use Rattle.unwind_simple.proofs.Statements.{grown_guard, grown_objects, grown_result, there_in}
use Rattle.unwind_simple.proofs.Storing.{store_obtains, store_typed}
use Rattle.unwind_stores.proofs.Answered.{grows_then}
use Rattle.unwind_stores.proofs.Bounds.{index_fits}
use Rattle.unwind_stores.proofs.Storing.{bounded_grows, array_terms, done_store_element}
use Rattle.unwind_stores.proofs.stores.store_element.Goals as goal

pub value-requires : goal.value-requires
value-requires c =
    let M = c.requires.may in
    record { scope = M.scope; program = M.program; fits = (index_fits M.scope c.args.target.now c.args.index.now c.requires.index M.fits.0).0; objects = M.objects; guard = M.guard }

pub init_value-requires-clause-fits : goal.init_value-requires-clause-fits
init_value-requires-clause-fits c =
    let M = c.requires.may in
    let G = c.in_ok-i.ensures.grows in
    store_obtains c.args.at.now c.value.new.net c.args.state.now c.args.target.now c.args.init.now c.args.guard c.slot_type-ty.result c.slot_type-ty.ensures
    (record { well = M.well; scope = M.scope; program = M.program; fits = M.fits; objects = grown_objects c.args.at.now c.args.net.now c.value.new.net c.args.state.now.objects G M.objects; result = grown_result c.args.at.now c.args.net.now.terms c.value.new.net.terms c.args.state.now.result G M.result; guard = grown_guard c.args.at.now c.args.net.now c.value.new.net c.args.guard G M.guard })

pub init_value-requires-clause-ty : goal.init_value-requires-clause-ty
init_value-requires-clause-ty c = store_typed c.args.at.now c.args.net.now c.args.state.now c.args.target.now c.args.init.now c.args.guard c.slot_type-ty.result c.slot_type-ty.ensures c.requires.may

pub bounded-requires-clause-guard : goal.bounded-requires-clause-guard
bounded-requires-clause-guard c =
    grown_guard c.args.at.now c.args.net.now c.init_value.new.net c.args.guard (grows_then c.args.net.now.terms c.value.new.net.terms c.init_value.new.net.terms c.in_ok-i.ensures.grows c.in_ok-t.ensures.grows) c.requires.may.guard

pub bounded-requires-clause-has : goal.bounded-requires-clause-has
bounded-requires-clause-has c = c.in_ok-t.ensures.grows.kept c.in_ok-i.i c.in_ok-i.ensures.has

pub put_at-requires-clause-guard : goal.put_at-requires-clause-guard
put_at-requires-clause-guard c =
    let G = bounded_grows c.init_value.new.net c.bounded.new.net c.args.target.now.bounds c.in_ok-i.i c.args.index.now.ty c.slot_length-count.result c.args.guard c.in_ok-bounded.ensures in
    let two = grows_then c.args.net.now.terms c.value.new.net.terms c.init_value.new.net.terms c.in_ok-i.ensures.grows c.in_ok-t.ensures.grows in
    grown_guard c.args.at.now c.args.net.now c.bounded.new.net c.args.guard (grows_then c.args.net.now.terms c.init_value.new.net.terms c.bounded.new.net.terms two G) c.requires.may.guard

pub put_at-requires-clause-has : goal.put_at-requires-clause-has
put_at-requires-clause-has c =
    let G = bounded_grows c.init_value.new.net c.bounded.new.net c.args.target.now.bounds c.in_ok-i.i c.args.index.now.ty c.slot_length-count.result c.args.guard c.in_ok-bounded.ensures in
    G.kept c.in_ok-i.i (c.in_ok-t.ensures.grows.kept c.in_ok-i.i c.in_ok-i.ensures.has)

pub put_at-requires-clause-value : goal.put_at-requires-clause-value
put_at-requires-clause-value c =
    let G = bounded_grows c.init_value.new.net c.bounded.new.net c.args.target.now.bounds c.in_ok-i.i c.args.index.now.ty c.slot_length-count.result c.args.guard c.in_ok-bounded.ensures in
    G.kept c.in_ok-t.t c.in_ok-t.ensures.has

pub put_at-requires-clause-count : goal.put_at-requires-clause-count
put_at-requires-clause-count c =
    let M = c.requires.may in
    array_terms c.args.at.now M.scope c.args.target.now c.args.index.now c.args.net.now c.args.state.now.objects M.program M.fits.0 c.requires.index M.objects ∙ sym c.slot_length-count.ensures

pub put_at-requires-clause-may : goal.put_at-requires-clause-may
put_at-requires-clause-may c =
    let M = c.requires.may in
    let slot = c.args.target.now.slot in
    let G = bounded_grows c.init_value.new.net c.bounded.new.net c.args.target.now.bounds c.in_ok-i.i c.args.index.now.ty c.slot_length-count.result c.args.guard c.in_ok-bounded.ensures in
    let two = grows_then c.args.net.now.terms c.value.new.net.terms c.init_value.new.net.terms c.in_ok-i.ensures.grows c.in_ok-t.ensures.grows in
    record {
      program = c.args.at.now.pair.now.program;
      stored = M.fits.0.stored;
      there = there_in c.args.at.now M.scope slot M.program M.fits.0.object.visible M.fits.0.stored;
      width = c.in_ok-t.ensures.width ∙ ap (λ (u : IntType). u.bits) c.slot_type-ty.ensures;
      objects = grown_objects c.args.at.now c.args.net.now c.bounded.new.net c.args.state.now.objects (grows_then c.args.net.now.terms c.init_value.new.net.terms c.bounded.new.net.terms two G) M.objects;
    }

pub returns : goal.returns
returns c =
    done_store_element c.args.at.now c.args.net.now c.value.new.net c.init_value.new.net c.bounded.new.net c.put_at.new.net c.args.state.now c.put_at.new.objects c.args.target.now c.args.index.now c.args.init.now c.args.guard c.in_ok-i.i c.in_ok-t.t c.slot_type-ty.result c.slot_length-count.result c.only.result
    c.only.ensures c.slot_type-ty.ensures c.slot_length-count.ensures c.requires.index c.requires.may c.in_ok-i.ensures c.in_ok-t.ensures c.in_ok-bounded.ensures c.in_ok-put_at.ensures
