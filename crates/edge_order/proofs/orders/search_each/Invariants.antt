use Rattle.edge_order.specs.Orders.{AreSearched}
use Rattle.edge_order.proofs.orders.search_each.Given as goal

abbrev pub invariant-loop-node : goal.invariant-loop-node
invariant-loop-node l = AreSearched l.graph l.node l.stages.items
