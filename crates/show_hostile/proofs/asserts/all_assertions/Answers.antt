use Rattle.show_hostile.proofs.Checking.{assertion_step}
use Rattle.show_hostile.proofs.asserts.all_assertions.Goals as goal

pub loop-k-preserved : goal.loop-k-preserved
loop-k-preserved c = assertion_step c.loop-k.k c.loop-k.invariant c.in_ok-assertion.ensures c.in_ok-push.ensures.ok
