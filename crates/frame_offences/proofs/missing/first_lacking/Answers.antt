use Rattle.std.proofs.Common.{◌≡◌, length, get_or, refl, subst, arith}
use Rattle.bit_sets.specs.declared.Bits.{Bits}
use Rattle.frame_offences.specs.Drivers.{IsMore, LacksNone}
use Rattle.frame_offences.proofs.Sets.{lacks_here, lacks_more}
use Rattle.frame_offences.proofs.missing.first_lacking.Goals as goal

pub loop-j-init : goal.loop-j-init
loop-j-init c sets F i l L = absurd (omega (arith, l))

pub returns-then-has_more : goal.returns-then-has_more
returns-then-has_more c sets F =
    let d : Bits = record { signal = 0; mask = 0 } in
    let b : Bits = get_or c.args.wanted.now c.loop-j.j d in
    let m = get_or c.args.table.now b.signal 0 in
    let M = subst (IsMore b.mask m) c.if-has_more.true c.has_more.ensures in
    (c.loop-j-test.true, lacks_here c.args.wanted.now sets c.loop-j.j d b m c.args.table.now c.loop-j-test.true refl refl F M, c.loop-j.invariant sets F)

pub loop-j-preserved : goal.loop-j-preserved
loop-j-preserved c sets F =
    let d : Bits = record { signal = 0; mask = 0 } in
    let b : Bits = get_or c.args.wanted.now c.loop-j.j d in
    let m = get_or c.args.table.now b.signal 0 in
    let M = subst (IsMore b.mask m) c.if-has_more.false c.has_more.ensures in
    lacks_more c.args.wanted.now sets c.loop-j.j d b m c.args.table.now c.loop-j-test.true refl refl F M (c.loop-j.invariant sets F)

pub returns : goal.returns
returns c sets F =
    let all : c.loop-j.j ≡ length c.args.wanted.now = omega arith in
    subst (LacksNone c.args.wanted.now sets) all (c.loop-j.invariant sets F)
