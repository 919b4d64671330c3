use Rattle.edge_order.specs.Stages.{IsRiseBefore}
use Rattle.edge_order.proofs.orders.rise_of.Given as goal

abbrev pub invariant-loop-to : goal.invariant-loop-to
invariant-loop-to l = IsRiseBefore l.targets l.stages l.from l.to-index l.rise
