use Rattle.std.proofs.Common.{◌≡◌, length}
use Rattle.cdcl.specs.Held.{vars_of}
use Rattle.cdcl.proofs.spares.+follows.Given as goal

abbrev pub decreases-follows : goal.decreases-follows
decreases-follows l = l.depth

abbrev pub invariant-loop-l : goal.invariant-loop-l
invariant-loop-l l = length l.states ≡ vars_of l.trail
