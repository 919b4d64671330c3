use Rattle.std.proofs.Common.{◌≡◌, ◌≤◌, ◌∷◌, [], length, reverse, take}
use Rattle.std.specs.declared.option.Option.TheVariants.{None}
use Rattle.node_depth.specs.Scan.{scan}
use Rattle.node_depth.proofs.depth.scanned.Given as goal

abbrev pub invariant-nodes : goal.invariant-nodes
invariant-nodes l = record {
  inside : l.at ≤ length l.nodes;
  state : scan (reverse l.levels.items) l.best (reverse (take l.at l.nodes)) ≡ scan (l.fn.level ∷ []) None (reverse l.nodes);
}

abbrev pub decreases-nodes : goal.decreases-nodes
decreases-nodes l = l.at
