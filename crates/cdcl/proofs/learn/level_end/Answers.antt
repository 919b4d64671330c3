use Rattle.std.proofs.Common.{arith}
use Rattle.cdcl.specs.Held.{reasons_of}
use Rattle.cdcl.proofs.Levels.{level-newest}
use Rattle.cdcl.proofs.learn.level_end.Goals as goal

pub returns-in-None-clause-newest : goal.returns-in-None-clause-newest
returns-in-None-clause-newest c =
    level-newest c.args.trail.now.lits.items (reasons_of c.args.trail.now) c.args.learned.now c.after_others-from.result c.loop-k.k c.falsified_before-newest.result
    c.args.trail.now.consistent (omega (arith, c.loop-k-test.true, c.requires.place)) c.loop-k.auto.k c.falsified_before-newest.ensures c.after_others-from.ensures.last c.loop-k.invariant

pub returns-clause-newest : goal.returns-clause-newest
returns-clause-newest c =
    level-newest c.args.trail.now.lits.items (reasons_of c.args.trail.now) c.args.learned.now c.after_others-from.result c.args.start c.falsified_before-newest.result
    c.args.trail.now.consistent (omega (arith, c.requires.place)) c.after_others-from.ensures.within c.falsified_before-newest.ensures c.after_others-from.ensures.last (λ j o lo lt. c.loop-k.invariant j o lo (omega (arith, lt, c.loop-k-test.false)))
