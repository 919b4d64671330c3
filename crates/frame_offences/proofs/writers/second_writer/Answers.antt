use Rattle.std.proofs.Common.{◌≡◌, ◌<◌, ◌∙◌, length, get_or, true, false, sym, ap, subst, arith}
use Rattle.bit_sets.specs.Sets.{IsWithin}
use Rattle.frame_offences.specs.Drivers.{IsMeeting, HasNoSecond}
use Rattle.std.proofs.lemmas.List.{length-replicate}
use Rattle.frame_offences.proofs.Sets.{blank_filled, within_set, shares_here, no_second_more, filled_more}
use Rattle.frame_offences.proofs.writers.second_writer.Goals as goal

pub loop-j-init : goal.loop-j-init
loop-j-init c =
    let e = c.in_ok-table.ensures.items_if_clones_equal (λ y e. e) in
    let a = c.in_ok-table.table.ok.0 in
    let r = ap length e ∙ length-replicate c.args.signals 0 in
    record { len = omega (arith, a, r); filled = blank_filled c.args.signals c.in_ok-table.table.items e; none = λ i l S. absurd (omega (arith, l)) }

pub meets-requires : goal.meets-requires
meets-requires c =
    let set = c.as_slice-set.result.now in
    let v = c.index-sets-j.result in
    let W = within_set c.args.signals c.args.sets.now c.loop-j.j v set c.loop-j-test.true c.index-sets-j.is c.as_slice-set.ensures.value c.requires in
    subst (λ n. IsWithin n set) (sym (c.as_slice.ensures.len ∙ c.loop-j.invariant.len)) W

pub fill-requires : goal.fill-requires
fill-requires c =
    let set = c.as_slice-set.result.now in
    let v = c.index-sets-j.result in
    let W = within_set c.args.signals c.args.sets.now c.loop-j.j v set c.loop-j-test.true c.index-sets-j.is c.as_slice-set.ensures.value c.requires in
    subst (λ n. IsWithin n set) (sym c.loop-j.invariant.len) W

pub returns-then-meets : goal.returns-then-meets
returns-then-meets c =
    let sets = c.args.sets.now in
    let j = c.loop-j.j in
    let v = c.index-sets-j.result in
    let set = c.as_slice-set.result.now in
    let table = c.loop-j.table.items in
    let M = subst (IsMeeting c.as_slice.result.now set) c.if-meets.true c.meets.ensures in
    let N = subst (λ l. IsMeeting l set true) c.as_slice.ensures.value M in
    (c.loop-j-test.true, shares_here sets j v set table c.loop-j-test.true c.index-sets-j.is c.as_slice-set.ensures.value c.loop-j.invariant.filled N, c.loop-j.invariant.none)

pub loop-j-preserved : goal.loop-j-preserved
loop-j-preserved c =
    let sets = c.args.sets.now in
    let j = c.loop-j.j in
    let v = c.index-sets-j.result in
    let set = c.as_slice-set.result.now in
    let table = c.loop-j.table.items in
    let M = subst (IsMeeting c.as_slice.result.now set) c.if-meets.false c.meets.ensures in
    let N = subst (λ l. IsMeeting l set false) c.as_slice.ensures.value M in
    record {
      len = c.fill.ensures.len ∙ c.loop-j.invariant.len;
      filled = filled_more sets j v set table _ c.loop-j-test.true c.index-sets-j.is c.as_slice-set.ensures.value c.loop-j.invariant.filled c.fill.ensures.fills;
      none = no_second_more sets j v set table c.loop-j-test.true c.index-sets-j.is c.as_slice-set.ensures.value c.loop-j.invariant.filled N c.loop-j.invariant.none;
    }

pub returns : goal.returns
returns c =
    let all : c.loop-j.j ≡ length c.args.sets.now = omega arith in
    subst (HasNoSecond c.args.sets.now) all c.loop-j.invariant.none
