use Rattle.bitblast.proofs.Reducing.{equal_step}
use Rattle.bitblast.proofs.reductions.are_equal.Goals as goal

pub loop-i-preserved : goal.loop-i-preserved
loop-i-preserved c =
    equal_step _ _ _ _ _ _ _ _ _ _ _ _ _ c.loop-i-test.true c.requires.widths c.loop-i.invariant c.in_ok-apart.ensures c.opposite.ensures.value c.in_ok-equal.ensures
