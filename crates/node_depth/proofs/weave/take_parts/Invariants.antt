use Rattle.std.proofs.Common.{◌-◌, reverse, drop}
use Rattle.node_depth.specs.Pass.{gathered, total}
use Rattle.node_depth.proofs.PassSteps.{Gathering}
use Rattle.node_depth.proofs.weave.take_parts.Given as goal

abbrev pub invariant-loop-done : goal.invariant-loop-done
invariant-loop-done l =
    Gathering (l.takes - l._done) l.whole (reverse l.parts.items) (gathered l.takes (reverse l.fn.parts.items)) (drop l.takes (reverse l.fn.parts.items)) (total (reverse l.fn.parts.items))
