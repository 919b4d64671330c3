use Rattle.std.proofs.Common.{◌≡◌, length, vec_len}
use Rattle.edge_order.proofs.stages.find_stages.Given as goal

abbrev pub invariant-loop-root : goal.invariant-loop-root
invariant-loop-root l = vec_len l.search.visits ≡ length l.graph
