use Rattle.show_hostile.proofs.Checking.{check_step}
use Rattle.show_hostile.proofs.asserts.properties.Goals as goal

pub loop-k-preserved : goal.loop-k-preserved
loop-k-preserved c = check_step c.loop-k.k c.loop-k.invariant c.in_ok-check.ensures c.in_ok-push.ensures.ok
