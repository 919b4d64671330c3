use Rattle.std.proofs.Common.{◌≡◌, ℕ, ◌<◌}
use Rattle.cdcl.specs.Pick.{IsFreeIn}
use Rattle.cdcl.proofs.order.OrderChooserChooser.pick.Given as goal

abbrev pub invariant-loop-var : goal.invariant-loop-var
invariant-loop-var l = record {
  vars : l.self.vars ≡ l.initial.self.vars;
  none : (w : ℕ) → w < l.var → IsFreeIn l.values w → ⊥;
}
