use Rattle.std.proofs.Common.{◌^◌, ◌≤◌, ◌<◌, arith}
use Rattle.bits_core.proofs.Laws.{pow_le}
use Rattle.std.proofs.lemmas.Bool.Decides.{nat_tests}
use Rattle.select_terms.proofs.memory_word.fits.Goals as goal

pub returns-then-bits-ge32 : goal.returns-then-bits-ge32
returns-then-bits-ge32 c =
    let t = c.if-bits-ge32.true in
    let n = c.ranges.number.fits in
    let l : 2 ^ 32 ≤ 2 ^ c.args.bits = pow_le 32 c.args.bits (omega (arith, t)) in
    let lt : c.args.number < 2 ^ c.args.bits = omega (arith, n) in
    grind (arith, nat_tests)
