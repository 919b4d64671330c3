use Rattle.std.proofs.Common.{◌≡◌, ℕ}
use Rattle.variable_ranks.specs.Best.{IsIn}
use Rattle.cdcl.proofs.Picks.{AreHeard}
use Rattle.cdcl.proofs.activity.ActivityChooserChooser.freed.Given as goal

abbrev pub invariant-loop-l : goal.invariant-loop-l
invariant-loop-l l = record {
  numbers : l.self.ranks.numbers.items ≡ l.initial.self.ranks.numbers.items;
  step : l.self.step ≡ l.initial.self.step;
  known : (v : ℕ) → IsIn l.initial.self.ranks.present.items v → IsIn l.self.ranks.present.items v;
  freed : AreHeard (IsIn l.self.ranks.present.items) l.lits l.l-index;
}
