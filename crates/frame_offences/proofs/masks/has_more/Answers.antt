use Rattle.std.proofs.Common.{◌<◌, arith}
use Rattle.std.specs.Prelude.{bit_and, bit_xor}
use Rattle.frame_offences.proofs.Bits.{more_some, more_none}
use Rattle.frame_offences.proofs.masks.has_more.Goals as goal

pub returns-then-more-eq0 : goal.returns-then-more-eq0
returns-then-more-eq0 c = more_none c.args.a c.args.b c.if-more-eq0.true

pub returns : goal.returns
returns c =
    let some : 0 < bit_xor c.args.a (bit_and c.args.a c.args.b) = omega arith in
    more_some c.args.a c.args.b some
