use Rattle.std.proofs.Common.{◌≡◌, ◌<◌, ℕ, length}
use Rattle.std.specs.Prelude.{All}
use Rattle.std.specs.Global.{Vec}
use Rattle.bench_order.proofs.graph.Given as goal

abbrev pub invariant-loop-node : goal.invariant-loop-node
invariant-loop-node l = record { size : length l.graph.items ≡ l.node; within : All (λ (v : Vec ℕ). All (λ b. b < l.count) v.items) l.graph.items }
