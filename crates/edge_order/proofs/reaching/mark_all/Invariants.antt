use Rattle.edge_order.specs.Marks.{Marks}
use Rattle.edge_order.proofs.reaching.mark_all.Given as goal

abbrev pub invariant-loop-node : goal.invariant-loop-node
invariant-loop-node l = Marks l.nodes l.node-index l.initial.marks.items l.marks.items l.initial.pending.items l.pending.items
