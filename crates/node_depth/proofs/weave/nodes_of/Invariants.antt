use Rattle.std.proofs.Common.{◌≡◌, ◌≤◌, [], reverse, drop}
use Rattle.node_depth.specs.Pass.{held, run, total}
use Rattle.node_depth.proofs.weave.nodes_of.Given as goal

abbrev pub invariant-loop-step : goal.invariant-loop-step
invariant-loop-step l = record {
  state : run l.weaves (drop l.step-index l.steps) (held l.parts.items l.nodes.items) ≡ run l.weaves l.steps (held [] []);
  few : total (reverse l.parts.items) ≤ l.step-index;
}
