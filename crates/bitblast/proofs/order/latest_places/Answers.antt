use Rattle.std.proofs.Common.{◌+◌, length, sym, subst, ap, ◌∙◌, arith}
use Rattle.word_eqs.specs.Graph.{FitsNode}
use Rattle.bitblast.specs.Order.{AreLatest, IsLatest}
use Rattle.bitblast.proofs.Placed.{latest_more, node_fits}
use Rattle.bitblast.proofs.order.latest_places.Goals as goal

pub latest-latest-requires-clause-fits : goal.latest-latest-requires-clause-fits
latest-latest-requires-clause-fits c =
    subst (λ n. FitsNode c.args.terms.now n c.node.result) (sym (ap length c.deref.ensures.value ∙ c.loop-k.invariant.len))
    (node_fits c.args.terms.now c.loop-k.k c.node.result c.len-k-end.ensures.proper (omega (arith, c.loop-k-test.true, c.len-k-end.ensures.value)) c.node.ensures)

pub loop-k-preserved : goal.loop-k-preserved
loop-k-preserved c =
    subst (λ l. AreLatest c.args.terms.now c.args.place.now l (c.loop-k.k + 1)) (sym c.in_ok-push.ensures.items)
    (latest_more c.args.terms.now c.args.place.now c.loop-k.last.items c.loop-k.k c.node.result c.latest-latest.result c.len-k-end.ensures.proper (omega (arith, c.loop-k-test.true, c.len-k-end.ensures.value)) c.node.ensures c.loop-k.invariant
    (subst (λ l. IsLatest c.args.place.now l c.node.result c.latest-latest.result) c.deref.ensures.value c.latest-latest.ensures))
