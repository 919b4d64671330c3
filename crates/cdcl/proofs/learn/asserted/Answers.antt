use Rattle.std.proofs.Common.{get_or, sym, ◌∙◌}
use Rattle.cdcl.proofs.Back.{zero_lit}
use Rattle.cdcl.proofs.Looks.{has-at}
use Rattle.cdcl.proofs.Levels.{asserted-forced, free-back, none-free}
use Rattle.cdcl.proofs.learn.asserted.Goals as goal

pub returns-then-is_free-clause-forced : goal.returns-then-is_free-clause-forced
returns-then-is_free-clause-forced c = asserted-forced c.args.trail.now.lits.items c.args.clause.now (get_or c.args.clause.now c.loop-l.l-index zero_lit) c.requires.asserting (has-at c.args.clause.now c.loop-l.l-index zero_lit c.loop-l-test.true) (free-back c.args.trail.now.lits.items (get_or c.args.clause.now c.loop-l.l-index zero_lit) (sym c.is_free.ensures ∙ c.if-is_free.true))

pub unreachable-requires : goal.unreachable-requires
unreachable-requires c = none-free c.args.trail.now.lits.items c.args.clause.now c.loop-l.l-index c.loop-l.auto.l-index-end c.loop-l-test.false c.requires.asserting c.loop-l.invariant
