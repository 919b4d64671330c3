use Rattle.std.proofs.Common.{sym, ◌∙◌, arith}
use Rattle.std.proofs.lemmas.Bool.{OnTrue_at}
use Rattle.res_log.proofs.Decided.{right-more, first-bad, valid-from-right}
use Rattle.res_log.proofs.checks.check.Goals as goal

pub returns-in-Ok-false-clause-bad : goal.returns-in-Ok-false-clause-bad
returns-in-Ok-false-clause-bad c =
    first-bad c.args.arena.now.clauses c.args.log.now c.loop-k.k (omega arith) c.loop-k.invariant.right
    (λ d. sym (c.in-Ok-false.ensures.test d) ∙ c.in-Ok-false.field-0-test)

pub loop-k-preserved : goal.loop-k-preserved
loop-k-preserved c = record {
  right = right-more c.args.arena.now.clauses c.args.log.now c.loop-k.k (omega arith) c.loop-k.invariant.right
      (λ d. sym (c.in-Ok-true.ensures.test d) ∙ c.in-Ok-true.field-0-test);
  blank = OnTrue_at c.in-Ok-true.field-0-test c.in-Ok-true.ensures.blank;
  seen = OnTrue_at c.in-Ok-true.field-0-test c.in-Ok-true.ensures.seen;
  size = c.pass_step.ensures.len ∙ c.loop-k.invariant.size;
  table = c.pass_step.ensures.table;
}

pub returns-clause-valid : goal.returns-clause-valid
returns-clause-valid c =
    (valid-from-right c.args.arena.now.clauses c.args.log.now (λ j d l. c.loop-k.invariant.right j d (omega arith))).0
