use Rattle.edge_order.specs.Stages.{Stays, RisesBefore}
use Rattle.edge_order.proofs.orders.judge.Given as goal

abbrev pub invariant-loop-node : goal.invariant-loop-node
invariant-loop-node l = record { stays : Stays l.graph l.stages l.node; rises : RisesBefore l.graph l.stages l.node l.level }
