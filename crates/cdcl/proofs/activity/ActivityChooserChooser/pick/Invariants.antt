use Rattle.std.proofs.Common.{◌≡◌, ℕ}
use Rattle.variable_ranks.specs.Best.{IsIn}
use Rattle.variable_ranks.proofs.Counts.{count}
use Rattle.cdcl.specs.Pick.{IsFreeIn}
use Rattle.cdcl.proofs.activity.ActivityChooserChooser.pick.Given as goal

abbrev pub invariant-taken : goal.invariant-taken
invariant-taken l = record {
  numbers : l.self.ranks.numbers.items ≡ l.initial.self.ranks.numbers.items;
  step : l.self.step ≡ l.initial.self.step;
  known : (v : ℕ) → IsFreeIn l.values v → IsIn l.self.ranks.present.items v;
}

abbrev pub decreases-taken : goal.decreases-taken
decreases-taken l = count l.self.ranks.present.items
