use Rattle.std.proofs.Common.{arith}
use Rattle.list_checks.proofs.Counting.{one_more_step}
use Rattle.list_checks.proofs.sums.step_gates.Goals as goal

pub act_gates-total-requires : goal.act_gates-total-requires
act_gates-total-requires c = (c.requires c.loop-k.k c.get.result c.get.ensures).act

pub loop-k-preserved : goal.loop-k-preserved
loop-k-preserved c =
    let e = one_more_step c.args.terms.now c.args.list.now c.loop-k.k c.get.result c.get.ensures in
    (omega (arith, e, c.loop-k.invariant.0, c.act_gates-total.ensures.value), omega (arith, c.loop-k.invariant.1, c.act_gates-total.ensures.bound))
