use Rattle.bitblast.proofs.Reducing.{some_step}
use Rattle.bitblast.proofs.reductions.is_some_set.Goals as goal

pub loop-e-preserved : goal.loop-e-preserved
loop-e-preserved c = some_step _ _ _ _ _ _ _ _ c.loop-e-test.true c.loop-e.invariant c.in_ok-some.ensures
