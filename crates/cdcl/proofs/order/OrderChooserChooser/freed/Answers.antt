use Rattle.std.proofs.Common.{ℕ, ◌≤◌, arith}
use Rattle.std.proofs.lemmas.Bool.{le-leb}
use Rattle.cdcl.proofs.Picks.{heard-all}
use Rattle.cdcl.proofs.order.OrderChooserChooser.freed.Goals as goal

pub returns-clause-freed : goal.returns-clause-freed
returns-clause-freed c l h =
    le-leb _ _ (heard-all (λ (v : ℕ). c.loop-l.self.next ≤ v) c.args.lits.now c.loop-l.l-index (omega (arith, c.loop-l-test.false)) c.loop-l.invariant.freed l h)
