use Rattle.std.proofs.Common.{◌≡◌, vec_len}
use Rattle.edge_order.proofs.stages.Search.close.Given as goal

abbrev pub invariant-loop : goal.invariant-loop
invariant-loop l = vec_len l.self.visits ≡ vec_len l.initial.self.visits
