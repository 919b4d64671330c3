use Rattle.std.proofs.Common.{◌<◌, refl, length, get_or, arith}
use Rattle.std.proofs.lemmas.List.{get_or_read}
use Rattle.bit_sets.specs.declared.Bits.{Bits}
use Rattle.bit_sets.proofs.Masks.{take_out_more, take_out_none}
use Rattle.bit_sets.proofs.take_out.Goals as goal

pub loop-bits-init : goal.loop-bits-init
loop-bits-init c = record { len = refl; takes = take_out_none c.args.table.now.items }

pub loop-bits-preserved : goal.loop-bits-preserved
loop-bits-preserved c =
    let d : Bits = record { signal = 0; mask = 0 } in
    let set = c.args.set.now in
    let i = c.loop-bits.bits-index in
    let b : Bits = get_or set i d in
    let table = c.loop-bits.table.items in
    let lt : b.signal < length table = let r = c.requires i d c.loop-bits-test.true in let a = c.loop-bits.table.ok.0 in let n = c.loop-bits.invariant.len in omega arith in
    record {
      len = c.loop-bits.invariant.len;
      takes = take_out_more set i d c.args.table.now.items table b c.index-mask.result.now c.loop-bits-test.true refl lt (get_or_read table b.signal c.index-mask.result.now lt c.index-mask.ensures 0) c.loop-bits.invariant.takes;
    }
