use Rattle.std.proofs.Common.{◌-◌, ◌++◌}
use Rattle.node_depth.specs.Pass.{wrapped, count_under}
use Rattle.node_depth.proofs.PassSteps.{Wrapping}
use Rattle.node_depth.proofs.weave.push_nodes.Given as goal

abbrev pub invariant-loop-done : goal.invariant-loop-done
invariant-loop-done l = Wrapping (l.nested - l._done) l.place l.count l.nodes.items (l.fn.nodes.items ++ wrapped l.nested l.place l.inside) (count_under l.nested l.inside)
