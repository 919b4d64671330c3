use Rattle.std.proofs.Common.{◌≡◌, ◌+◌, ◌≤◌, ◌++◌, length}
use Rattle.hwcbmc_core.specs.Sources.{edge_lines}
use Rattle.hwcbmc_core.proofs.sources.strip_edges.Given as goal

-- the lines so far stand before the rest
abbrev pub invariant-loop-next : goal.invariant-loop-next
invariant-loop-next l = record {
  lines : l.text ≡ edge_lines l.edges ++ l.rest;
  few : l.edges + length l.rest ≤ length l.text;
}

abbrev pub decreases-loop-next : goal.decreases-loop-next
decreases-loop-next l = length l.rest
