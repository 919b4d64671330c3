use Rattle.std.proofs.Common.{◌<◌, ◌∙◌, sym, ap, arith}
use Rattle.std.specs.Prelude.{nat_lt}
use Rattle.bit_sets.specs.Sets.{is_set}
use Rattle.flat_writes.proofs.MaskLemmas.{full_is, full_small}
use Rattle.flat_writes.proofs.masks.full.Goals as goal

pub returns-then-bits-eq64 : goal.returns-then-bits-eq64
returns-then-bits-eq64 c k = full_is 64 k ∙ ap (nat_lt k) (sym c.if-bits-eq64.true)

pub returns : goal.returns
returns c k =
    let lt : c.args.bits < 64 = omega arith in
    ap (λ m. is_set m k) (full_small c.args.bits lt) ∙ full_is c.args.bits k
