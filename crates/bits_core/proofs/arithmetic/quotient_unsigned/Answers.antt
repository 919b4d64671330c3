use Rattle.std.proofs.Common.{◌≢◌, ◌^◌, arith}
use Rattle.bits_core.proofs.Laws.{quotient_plain}
use Rattle.bits_core.proofs.arithmetic.quotient_unsigned.Goals as goal

pub returns : goal.returns
returns c =
    let ne : c.args.y ≢ 0 = omega arith in
    quotient_plain (2 ^ c.args.w) c.args.x c.args.y c.requires.left ne
