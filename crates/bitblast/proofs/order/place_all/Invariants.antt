use Rattle.bitblast.specs.Order.{ArePlaced}
use Rattle.bitblast.proofs.order.place_all.Given as goal

abbrev pub invariant-loop-k : goal.invariant-loop-k
invariant-loop-k l = ArePlaced l.terms l.list l.k l.place
