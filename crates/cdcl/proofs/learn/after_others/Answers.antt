use Rattle.std.proofs.Common.{length, get_or, arith}
use Rattle.cdcl.proofs.Back.{zero_lit}
use Rattle.cdcl.proofs.Looks.{has-at}
use Rattle.cdcl.proofs.Reasons.{false-below}
use Rattle.cdcl.proofs.Levels.{others-skip, others-next, others-whole, others-asserting, others-quiet, others-last, place-at}
use Rattle.cdcl.proofs.learn.after_others.Goals as goal

pub index-place-requires : goal.index-place-requires
index-place-requires c =
    omega (
      arith,
      c.args.trail.now.one_place_each,
      c.args.trail.now.places.ok.0,
      false-below (length c.args.trail.now.values.items) c.args.trail.now.lits.items c.args.learned.now c.args.trail.now.below c.requires.falsified
          (get_or c.args.learned.now c.loop-l.l-index zero_lit) (has-at c.args.learned.now c.loop-l.l-index zero_lit c.loop-l-test.true),
    )

pub loop-l-preserved-then-start-place : goal.loop-l-preserved-then-start-place
loop-l-preserved-then-start-place c =
    let e = place-at (length c.args.trail.now.values.items) c.args.trail.now.lits.items c.args.trail.now.places.items c.args.learned.now c.loop-l.l-index c.index-place.result.now
    c.args.trail.now.below c.args.trail.now.one_place_each c.requires.falsified c.loop-l-test.true c.index-place.ensures
    in
    others-skip c.args.trail.now.lits.items c.args.trail.now.places.items c.args.start c.args.learned.now c.loop-l.l-index c.loop-l.end c.loop-l-test.true
    (λ q. absurd (omega (arith, q, e, c.if-start-place.true))) c.loop-l.invariant

pub loop-l-preserved-then-place-end : goal.loop-l-preserved-then-place-end
loop-l-preserved-then-place-end c =
    let e = place-at (length c.args.trail.now.values.items) c.args.trail.now.lits.items c.args.trail.now.places.items c.args.learned.now c.loop-l.l-index c.index-place.result.now
    c.args.trail.now.below c.args.trail.now.one_place_each c.requires.falsified c.loop-l-test.true c.index-place.ensures
    in
    others-skip c.args.trail.now.lits.items c.args.trail.now.places.items c.args.start c.args.learned.now c.loop-l.l-index c.loop-l.end c.loop-l-test.true
    (λ q. omega (arith, e, c.if-place-end.true)) c.loop-l.invariant

pub loop-l-preserved : goal.loop-l-preserved
loop-l-preserved c =
    let e = place-at (length c.args.trail.now.values.items) c.args.trail.now.lits.items c.args.trail.now.places.items c.args.learned.now c.loop-l.l-index c.index-place.result.now
    c.args.trail.now.below c.args.trail.now.one_place_each c.requires.falsified c.loop-l-test.true c.index-place.ensures
    in
    others-next c.args.trail.now.lits.items c.args.trail.now.places.items c.args.start c.args.learned.now c.loop-l.l-index c.loop-l.end c.index-place.result.now c.loop-l-test.true
    e (omega (arith, c.if-start-place.false)) (omega (arith, c.if-place-end.false)) c.loop-l.invariant

pub returns-clause-asserting : goal.returns-clause-asserting
returns-clause-asserting c k lo hi =
    others-asserting c.args.trail.now.lits.items c.args.trail.now.places.items c.args.start c.args.learned.now c.loop-l.end k c.args.trail.now.placed c.requires.place c.requires.falsified c.requires.asserting
    (others-whole c.args.trail.now.lits.items c.args.trail.now.places.items c.args.start c.args.learned.now c.loop-l.l-index c.loop-l.end c.loop-l.auto.l-index-end c.loop-l-test.false c.loop-l.invariant) lo hi

pub returns-clause-quiet : goal.returns-clause-quiet
returns-clause-quiet c k l =
    others-quiet c.args.trail.now.lits.items c.args.trail.now.places.items c.args.start c.args.learned.now c.loop-l.end k c.args.trail.now.consistent c.args.trail.now.placed c.requires.place c.requires.falsified c.requires.asserting
    (others-whole c.args.trail.now.lits.items c.args.trail.now.places.items c.args.start c.args.learned.now c.loop-l.l-index c.loop-l.end c.loop-l.auto.l-index-end c.loop-l-test.false c.loop-l.invariant) l

pub returns-clause-last : goal.returns-clause-last
returns-clause-last c m b =
    others-last c.args.trail.now.lits.items c.args.trail.now.places.items c.args.start c.args.learned.now c.loop-l.end m c.args.trail.now.placed c.requires.falsified
    (others-whole c.args.trail.now.lits.items c.args.trail.now.places.items c.args.start c.args.learned.now c.loop-l.l-index c.loop-l.end c.loop-l.auto.l-index-end c.loop-l-test.false c.loop-l.invariant) b
