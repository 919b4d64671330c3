use Rattle.std.proofs.Common.{◌≤◌, length}
use Rattle.cdcl.specs.Trail.{AreForcedFrom}
use Rattle.cdcl.specs.Arrays.{reasons_along}
use Rattle.cdcl.proofs.trail.Trail.last_decision.Given as goal

abbrev pub invariant-back : goal.invariant-back
invariant-back l = (l.i ≤ length l.self.lits.items) × AreForcedFrom (reasons_along l.self.reasons.items l.self.lits.items) l.i

abbrev pub decreases-back : goal.decreases-back
decreases-back l = l.i
