use Rattle.bitblast.proofs.Steps.{bit_by_bit_step}
use Rattle.bitblast.proofs.bitwise.bit_by_bit.Goals as goal

pub loop-i-preserved : goal.loop-i-preserved
loop-i-preserved c = bit_by_bit_step _ _ _ _ _ _ _ _ _ _ _ _ c.loop-i-test.true c.requires.widths c.push.ensures.items c.loop-i.invariant c.in_ok-e.ensures
