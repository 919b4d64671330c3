use Rattle.std.proofs.Common.{◌<◌, ◌∙◌, length, sym, ap, subst, arith}
use Rattle.std.proofs.lemmas.List.{length-replicate}
use Rattle.bit_sets.specs.Sets.{IsWithin}
use Rattle.frame_offences.proofs.Sets.{blank_filled, within_set, filled_more}
use Rattle.frame_offences.proofs.missing.fill_all.Goals as goal

pub loop-j-init : goal.loop-j-init
loop-j-init c =
    let e = c.in_ok-table.ensures.items_if_clones_equal (λ y e. e) in
    let a = c.in_ok-table.table.ok.0 in
    let r = ap length e ∙ length-replicate c.args.signals 0 in
    record { len = omega (arith, a, r); filled = blank_filled c.args.signals c.in_ok-table.table.items e }

pub fill-requires : goal.fill-requires
fill-requires c =
    let set = c.as_slice-set.result.now in
    let v = c.index-sets-j.result in
    let W = within_set c.args.signals c.args.sets.now c.loop-j.j v set c.loop-j-test.true c.index-sets-j.is c.as_slice-set.ensures.value c.requires in
    subst (λ n. IsWithin n set) (sym c.loop-j.invariant.len) W

pub loop-j-preserved : goal.loop-j-preserved
loop-j-preserved c =
    let v = c.index-sets-j.result in
    let set = c.as_slice-set.result.now in
    record {
      len = c.fill.ensures.len ∙ c.loop-j.invariant.len;
      filled = filled_more c.args.sets.now c.loop-j.j v set c.loop-j.table.items _ c.loop-j-test.true c.index-sets-j.is c.as_slice-set.ensures.value c.loop-j.invariant.filled c.fill.ensures.fills;
    }
