use Rattle.std.proofs.Common.{arith}
use Rattle.pair_checks.proofs.Testing.{one_more_made}
use Rattle.pair_checks.proofs.lists.made.Goals as goal

pub loop-k-preserved : goal.loop-k-preserved
loop-k-preserved c =
    let e = one_more_made c.args.terms.now c.loop-k.k c.node.result c.node.ensures in
    (omega (arith, e, c.loop-k.invariant.0, c.counted-more.ensures.value), omega (arith, c.loop-k.invariant.1, c.counted-more.ensures.bound))
