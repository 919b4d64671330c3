use Rattle.bitblast.proofs.Reducing.{odd_step}
use Rattle.bitblast.proofs.reductions.is_odd.Goals as goal

pub loop-e-preserved : goal.loop-e-preserved
loop-e-preserved c = odd_step _ _ _ _ _ _ _ _ c.loop-e-test.true c.loop-e.invariant c.in_ok-odd.ensures
