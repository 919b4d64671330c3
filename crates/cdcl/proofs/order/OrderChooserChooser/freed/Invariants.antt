use Rattle.std.proofs.Common.{◌≡◌, ◌≤◌, ℕ}
use Rattle.cdcl.proofs.Picks.{AreHeard}
use Rattle.cdcl.proofs.order.OrderChooserChooser.freed.Given as goal

abbrev pub invariant-loop-l : goal.invariant-loop-l
invariant-loop-l l = record {
  vars : l.self.vars ≡ l.initial.self.vars;
  lower : l.self.next ≤ l.initial.self.next;
  freed : AreHeard (λ (v : ℕ). l.self.next ≤ v) l.lits l.l-index;
}
