use Rattle.bitblast.proofs.Wiring.{shifted_step}
use Rattle.bitblast.proofs.shapes.shifted_in.Goals as goal

pub loop-e-preserved : goal.loop-e-preserved
loop-e-preserved c = shifted_step _ _ _ _ _ _ _ c.loop-e-test.true c.push.ensures.items c.loop-e.invariant
