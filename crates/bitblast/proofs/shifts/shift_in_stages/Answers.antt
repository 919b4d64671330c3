use Rattle.bitblast.proofs.ShiftSteps.{stage_start, stage_step}
use Rattle.bitblast.proofs.shifts.shift_in_stages.Goals as goal

pub loop-k-init : goal.loop-k-init
loop-k-init c = stage_start c.args.direction c.args.net.now c.args.word.now c.args.amount.now _ _ c.append.ensures c.new-made.ensures c.requires.word

pub loop-k-preserved : goal.loop-k-preserved
loop-k-preserved c =
    stage_step c.args.direction _ _ _ c.args.word.now c.args.amount.now c.loop-k.made.items _ c.moved-far.result.items _ _ _ _ _ _ _ c.loop-k-test.true c.requires.few
    c.deref.ensures.0 c.min.ensures c.moved-far.ensures.bits c.moved-far.ensures.value c.falsity-zero.ensures.value c.deref-in-loop-k.ensures.0 c.deref-in-loop-k-2.ensures.0 c.loop-k.invariant c.in_ok-made.ensures
