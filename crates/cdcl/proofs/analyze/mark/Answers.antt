use Rattle.std.proofs.Common.{◌≡◌, ◌<◌, true, set, length, get_or, take, sym, ◌∙◌, subst, arith}
use Rattle.clause_arena.specs.Clause.{IsEachOnce}
use Rattle.std.proofs.lemmas.List.{length-set}
use Rattle.cdcl.specs.Held.{vars_of}
use Rattle.cdcl.specs.Marks.{AreEarly}
use Rattle.cdcl.proofs.Back.{zero_lit}
use Rattle.cdcl.proofs.Looks.{has-at}
use Rattle.cdcl.proofs.Arrays.{below-at, at-any}
use Rattle.cdcl.proofs.Marking.{marked-more, early-late, early-push, once-more, open-false}
use Rattle.cdcl.proofs.analyze.mark.Goals as goal

pub loop-l-preserved-then-start-index : goal.loop-l-preserved-then-start-index
loop-l-preserved-then-start-index c =
    let l = get_or c.args.clause.now c.loop-l.l-index zero_lit in
    let h = has-at c.args.clause.now c.loop-l.l-index zero_lit c.loop-l-test.true in
    let v : l.var < vars_of c.args.trail.now = below-at (vars_of c.args.trail.now) c.args.clause.now l c.requires.below h in
    let b : l.var < length c.loop-l.seen = omega (arith, v, c.loop-l.invariant.sized) in
    let t = open-false c.args.trail.now.lits.items c.args.seen.now c.loop-l.seen c.args.clause.now (take c.loop-l.l-index c.args.clause.now) l c.requires.falsified c.loop-l.invariant.marked h c.if-seen-at.false in
    let e : get_or c.args.trail.now.places.items l.var 0 ≡ c.index.result.now = sym (at-any c.args.trail.now.places.items l.var c.index.result.now c.index.ensures (omega (arith, v, c.args.trail.now.one_place_each))) in record {
      sized = length-set c.loop-l.seen l.var true ∙ c.loop-l.invariant.sized;
      marked = marked-more c.args.seen.now c.loop-l.seen c.args.clause.now c.loop-l.l-index c.loop-l-test.true b c.loop-l.invariant.marked;
      early =
          early-late c.args.trail.now.lits.items c.args.trail.now.places.items c.args.start c.loop-l.seen c.loop-l.early.items l c.args.trail.now.consistent c.args.trail.now.placed c.requires.place b c.if-seen-at.false t
          (omega (arith, e, c.if-start-index.true)) c.loop-l.invariant.early;
      once = c.loop-l.invariant.once;
    }

pub loop-l-preserved : goal.loop-l-preserved
loop-l-preserved c =
    let l = get_or c.args.clause.now c.loop-l.l-index zero_lit in
    let h = has-at c.args.clause.now c.loop-l.l-index zero_lit c.loop-l-test.true in
    let v : l.var < vars_of c.args.trail.now = below-at (vars_of c.args.trail.now) c.args.clause.now l c.requires.below h in
    let b : l.var < length c.loop-l.seen = omega (arith, v, c.loop-l.invariant.sized) in
    let t = open-false c.args.trail.now.lits.items c.args.seen.now c.loop-l.seen c.args.clause.now (take c.loop-l.l-index c.args.clause.now) l c.requires.falsified c.loop-l.invariant.marked h c.if-seen-at.false in
    let e : get_or c.args.trail.now.places.items l.var 0 ≡ c.index.result.now = sym (at-any c.args.trail.now.places.items l.var c.index.result.now c.index.ensures (omega (arith, v, c.args.trail.now.one_place_each))) in record {
      sized = length-set c.loop-l.seen l.var true ∙ c.loop-l.invariant.sized;
      marked = marked-more c.args.seen.now c.loop-l.seen c.args.clause.now c.loop-l.l-index c.loop-l-test.true b c.loop-l.invariant.marked;
      early =
          subst (AreEarly c.args.trail.now.lits.items c.args.start (set c.loop-l.seen l.var true)) (sym c.in_ok-push.ensures.ok)
          (early-push c.args.trail.now.lits.items c.args.trail.now.places.items c.args.start c.loop-l.seen c.loop-l.early.items l c.args.trail.now.consistent c.args.trail.now.placed c.requires.place b c.if-seen-at.false t
          (omega (arith, e, c.if-start-index.false)) c.loop-l.invariant.early);
      once = subst IsEachOnce (sym c.in_ok-push.ensures.ok) (once-more c.args.trail.now.lits.items c.args.start c.loop-l.seen c.loop-l.early.items l c.if-seen-at.false c.loop-l.invariant.early c.loop-l.invariant.once);
    }
