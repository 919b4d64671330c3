use Rattle.std.proofs.Common.{◌+◌, vec_len}
use Rattle.edge_order.specs.Marks.{IsSpread, unmarked}
use Rattle.edge_order.proofs.reaching.reach.Given as goal

abbrev pub invariant-loop-node : goal.invariant-loop-node
invariant-loop-node l = IsSpread l.graph l.seeds l.marks.items l.pending.items

abbrev pub decreases-loop-node : goal.decreases-loop-node
decreases-loop-node l = unmarked l.marks.items + vec_len l.pending
