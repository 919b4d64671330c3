use Rattle.std.proofs.Common.{◌≡◌, ◌<◌, sym, subst, ◌∙◌, arith}
use Rattle.unwind_simple.proofs.Statements.{grown_guard}
use Rattle.unwind_stores.proofs.Elementwise.{set_first, set_next, done_array}
use Rattle.unwind_stores.proofs.arrays.declare_array.Goals as goal

pub loop-place-init : goal.loop-place-init
loop-place-init c = set_first c.args.at.now c.args.net.now c.args.state.now c.args.local c.args.init.now c.args.guard c.len.ensures.proper c.requires.may.objects

pub set_element-requires-clause-may : goal.set_element-requires-clause-may
set_element-requires-clause-may c =
    let M = c.requires.may in
    let S = c.loop-place.invariant in
    record { well = M.well; scope = M.scope; program = M.program; fits = M.fits; objects = S.objects; result = S.result M.result; guard = grown_guard c.args.at.now c.args.net.now c.loop-place.net c.args.guard S.grows M.guard }

pub loop-place-preserved : goal.loop-place-preserved
loop-place-preserved c =
    set_next c.args.at.now c.args.net.now c.loop-place.net c.set_element.new.net c.args.state.now c.loop-place.state c.set_element.new.state c.args.local c.args.init.now c.args.guard c.loop-place.place c.loop-place.invariant c.in_ok-set_element.ensures

pub returns : goal.returns
returns c =
    let n = c.slot_length-count.ensures in
    done_array c.args.at.now c.args.net.now c.loop-place.net c.args.state.now c.loop-place.state c.args.local c.args.init.now c.args.guard c.loop-place.place c.only.result c.only.ensures (omega (arith, n)) c.requires.array c.requires.may c.loop-place.invariant
