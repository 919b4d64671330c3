use Rattle.std.proofs.Common.{arith}
use Rattle.joint_view.proofs.Fitting.{words_more}
use Rattle.joint_view.proofs.Draws.{draw_all_more}
use Rattle.joint_view.proofs.choices.draw_all.Goals as goal

pub loop-bits-preserved : goal.loop-bits-preserved
loop-bits-preserved c = record {
  drawn = draw_all_more c.args.choices.now c.loop-bits.next c.loop-bits.numbers c.push.new.self c.loop-bits.bits-index c.in_ok-n.n
      c.in_ok-push.ensures.ok c.args.widths.now _ c.loop-bits-test.true c.in_ok-n.ensures.drawn c.loop-bits.invariant.drawn;
  words = words_more c.args.widths.now c.loop-bits.numbers c.push.new.self c.loop-bits.bits-index c.in_ok-n.n
      c.loop-bits-test.true c.loop-bits.invariant.words c.in_ok-n.ensures.below c.in_ok-push.ensures.ok;
  within = λ le. omega (arith, c.in_ok-n.ensures.within);
}
