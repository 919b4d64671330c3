use Rattle.std.proofs.Common.{◌≤◌}
use Rattle.cdcl.specs.Marks.{IsUnmarked}
use Rattle.cdcl.proofs.analyze.is_unmarked.Given as goal

abbrev pub invariant-back : goal.invariant-back
invariant-back l = record {
  upper : l.i ≤ l.end;
  unmarked : IsUnmarked l.trail.lits.items l.seen l.i l.end;
}

abbrev pub decreases-back : goal.decreases-back
decreases-back l = l.i
