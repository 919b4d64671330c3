use Rattle.bitblast.proofs.Steps.{choose_step}
use Rattle.bitblast.proofs.bitwise.choose_word.Goals as goal

pub loop-i-preserved : goal.loop-i-preserved
loop-i-preserved c = choose_step _ _ _ _ _ _ _ _ _ _ _ _ c.loop-i-test.true c.requires.widths c.push.ensures.items c.loop-i.invariant c.in_ok-e.ensures
