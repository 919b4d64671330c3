use Rattle.std.proofs.Common.{arith}
use Rattle.list_checks.proofs.Counting.{node_fits, one_more_term}
use Rattle.list_checks.proofs.sums.term_gates.Goals as goal

pub node_gates-total-requires : goal.node_gates-total-requires
node_gates-total-requires c = node_fits c.args.terms.now c.loop-k.k c.node.result c.len-k-end.ensures.proper c.node.ensures

pub loop-k-preserved : goal.loop-k-preserved
loop-k-preserved c =
    let e = one_more_term c.args.terms.now c.loop-k.k c.node.result c.node.ensures in
    (omega (arith, e, c.loop-k.invariant.0, c.node_gates-total.ensures.value), omega (arith, c.loop-k.invariant.1, c.node_gates-total.ensures.bound))
