use Rattle.std.proofs.Common.{◌≡◌, reverse}
use Rattle.node_depth.specs.Scan.{copies}
use Rattle.node_depth.proofs.depth.push_copies.Given as goal

abbrev pub invariant-loop-done : goal.invariant-loop-done
invariant-loop-done l = reverse l.levels.items ≡ copies l._done l.level (reverse l.fn.levels.items)
