use Rattle.std.proofs.Common.{◌-◌, ◌≡◌, ◌≤◌}
use Rattle.token_places.proofs.walker.Walker.moved_to.Given as goal

abbrev pub invariant-loop-walker : goal.invariant-loop-walker
invariant-loop-walker l = record {
  same : l.walker.text.now ≡ l.self.text.now;
  before : l.walker.at ≤ l.at;
}

abbrev pub decreases-loop-walker : goal.decreases-loop-walker
decreases-loop-walker l = l.at - l.walker.at
