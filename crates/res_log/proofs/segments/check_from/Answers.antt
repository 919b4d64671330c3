use Rattle.std.proofs.Common.{◌≤◌, length, sym, ◌∙◌, arith}
use Rattle.std.proofs.lemmas.Bool.{OnTrue_at}
use Rattle.res_log.proofs.Right.{next-bad, sound-more, live-more}
use Rattle.res_log.proofs.segments.check_from.Goals as goal

pub returns-in-Ok-false-clause-bad : goal.returns-in-Ok-false-clause-bad
returns-in-Ok-false-clause-bad c =
    next-bad c.args.arena.now.clauses c.args.log.now c.args.from c.loop-k.k (omega arith) (omega arith) c.loop-k.invariant.sound c.loop-k.invariant.live
    (λ d. sym (c.in-Ok-false.ensures.test d) ∙ c.in-Ok-false.field-0-test)

pub loop-k-preserved : goal.loop-k-preserved
loop-k-preserved c =
    let l : c.loop-k.k ≤ length c.args.log.now = omega arith in
    record {
      sound = sound-more c.args.arena.now.clauses c.args.log.now c.loop-k.k l c.loop-k.invariant.sound
          (λ d. sym (c.in-Ok-true.ensures.test d) ∙ c.in-Ok-true.field-0-test);
      live = live-more c.args.arena.now.clauses c.args.log.now c.args.from c.loop-k.k l c.loop-k.invariant.sound c.loop-k.invariant.live
          (λ d. sym (c.in-Ok-true.ensures.test d) ∙ c.in-Ok-true.field-0-test);
      blank = OnTrue_at c.in-Ok-true.field-0-test c.in-Ok-true.ensures.blank;
      size = c.pass_step.ensures.len ∙ c.loop-k.invariant.size;
      table = c.pass_step.ensures.table;
    }
