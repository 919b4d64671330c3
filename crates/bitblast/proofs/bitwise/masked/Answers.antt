use Rattle.bitblast.proofs.Steps.{masked_step}
use Rattle.bitblast.proofs.bitwise.masked.Goals as goal

pub loop-p-preserved : goal.loop-p-preserved
loop-p-preserved c = masked_step _ _ _ _ _ _ _ _ _ _ c.loop-p-test.true c.push.ensures.items c.loop-p.invariant c.in_ok-e.ensures
