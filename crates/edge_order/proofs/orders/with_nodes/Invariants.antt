use Rattle.std.proofs.Common.{◌≡◌, map}
use Rattle.std.specs.List.{range_with_len}
use Rattle.edge_order.specs.Stages.{staged}
use Rattle.edge_order.proofs.orders.with_nodes.Given as goal

abbrev pub invariant-loop-node : goal.invariant-loop-node
invariant-loop-node l = l.staged.items ≡ map (staged l.stages) (range_with_len 0 l.node)
