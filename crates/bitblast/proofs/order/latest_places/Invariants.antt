use Rattle.bitblast.specs.Order.{AreLatest}
use Rattle.bitblast.proofs.order.latest_places.Given as goal

abbrev pub invariant-loop-k : goal.invariant-loop-k
invariant-loop-k l = AreLatest l.terms l.place l.last.items l.k
