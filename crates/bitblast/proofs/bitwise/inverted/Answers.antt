use Rattle.bitblast.proofs.Steps.{inverted_step}
use Rattle.bitblast.proofs.bitwise.inverted.Goals as goal

pub loop-e-preserved : goal.loop-e-preserved
loop-e-preserved c = inverted_step _ _ _ _ _ _ c.loop-e-test.true c.push.ensures.items c.opposite.ensures.node c.opposite.ensures.value c.loop-e.invariant
