use Rattle.std.proofs.Common.{◌<◌, arith}
use Rattle.bits_core.proofs.Laws.{ones_is}
use Rattle.bits_core.proofs.arithmetic.most.Goals as goal

pub returns : goal.returns
returns c =
    let p : 0 < c.args.w = omega arith in
    ones_is c.args.w c.requires p
