use Rattle.std.proofs.Common.{arith}
use Rattle.variable_ranks.specs.Best.{IsIn}
use Rattle.cdcl.proofs.Picks.{heard-all}
use Rattle.cdcl.proofs.activity.ActivityChooserChooser.freed.Goals as goal

pub returns-clause-freed : goal.returns-clause-freed
returns-clause-freed c l h = heard-all (IsIn c.loop-l.self.ranks.present.items) c.args.lits.now c.loop-l.l-index (omega (arith, c.loop-l-test.false)) c.loop-l.invariant.freed l h
