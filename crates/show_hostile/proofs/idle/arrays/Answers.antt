use Rattle.show_hostile.proofs.Idling.{copy_step}
use Rattle.show_hostile.proofs.idle.arrays.Goals as goal

pub loop-k-preserved : goal.loop-k-preserved
loop-k-preserved c = copy_step c.loop-k.k c.loop-k.invariant c.in_ok-one_array.ensures c.in_ok-push.ensures.ok
