use Rattle.bitblast.proofs.Steps.{add_step}
use Rattle.bitblast.proofs.sums.add_with_carry.Goals as goal

pub loop-i-preserved : goal.loop-i-preserved
loop-i-preserved c = add_step _ _ _ _ _ _ _ _ _ _ _ _ _ _ c.loop-i-test.true c.requires.widths c.push.ensures.items c.loop-i.invariant c.in_ok-bits.ensures
