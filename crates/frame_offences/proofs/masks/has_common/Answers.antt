use Rattle.std.proofs.Common.{◌<◌, arith}
use Rattle.std.specs.Prelude.{bit_and}
use Rattle.frame_offences.proofs.Bits.{meeting_some, meeting_none}
use Rattle.frame_offences.proofs.masks.has_common.Goals as goal

pub returns-then-both-eq0 : goal.returns-then-both-eq0
returns-then-both-eq0 c = meeting_none c.args.a c.args.b c.if-both-eq0.true

pub returns : goal.returns
returns c =
    let some : 0 < bit_and c.args.a c.args.b = omega arith in
    meeting_some c.args.a c.args.b some
