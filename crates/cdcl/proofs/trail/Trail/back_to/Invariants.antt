use Rattle.std.proofs.Common.{◌≡◌, ◌≤◌, take, length}
use Rattle.cdcl.proofs.trail.Trail.back_to.Given as goal

abbrev pub invariant-back : goal.invariant-back
invariant-back l = record {
  place : l.end ≤ length l.self.lits.items;
  shorter : length l.self.lits.items ≤ length l.initial.self.lits.items;
  rest : l.self.lits.items ≡ take (length l.self.lits.items) l.initial.self.lits.items;
  reasons : l.self.reasons.items ≡ l.initial.self.reasons.items;
  vars : length l.self.values.items ≡ length l.initial.self.values.items;
}

abbrev pub decreases-back : goal.decreases-back
decreases-back l = length l.self.lits.items
