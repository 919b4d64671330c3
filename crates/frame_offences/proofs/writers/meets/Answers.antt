use Rattle.std.proofs.Common.{refl, get_or, subst}
use Rattle.bit_sets.specs.declared.Bits.{Bits}
use Rattle.frame_offences.specs.Drivers.{AreMeeting}
use Rattle.frame_offences.proofs.Sets.{meets_more, meets_here}
use Rattle.frame_offences.proofs.writers.meets.Goals as goal

pub returns-then-has_common : goal.returns-then-has_common
returns-then-has_common c =
    let d : Bits = record { signal = 0; mask = 0 } in
    let b : Bits = get_or c.args.set.now c.loop-bits.bits-index d in
    let m = get_or c.args.table.now b.signal 0 in
    meets_here c.args.table.now c.args.set.now c.loop-bits.bits-index d b m c.loop-bits-test.true refl refl (subst (AreMeeting m b.mask) c.if-has_common.true c.has_common.ensures)

pub loop-bits-preserved : goal.loop-bits-preserved
loop-bits-preserved c =
    let d : Bits = record { signal = 0; mask = 0 } in
    let b : Bits = get_or c.args.set.now c.loop-bits.bits-index d in
    let m = get_or c.args.table.now b.signal 0 in
    meets_more c.args.table.now c.args.set.now c.loop-bits.bits-index d b m c.loop-bits-test.true refl refl (subst (AreMeeting m b.mask) c.if-has_common.false c.has_common.ensures) c.loop-bits.invariant
