use Rattle.std.proofs.Common.{◌≡◌, ◌<◌, ◌+◌, ◌-◌, ◌∙◌, length, sym, ap, subst, arith}
use Rattle.std.specs.Prelude.{count_by}
use Rattle.edge_order.specs.Graph.{IsReach}
use Rattle.edge_order.specs.Stages.{IsByStage}
use Rattle.edge_order.specs.Orders.{AreSearched}
use Rattle.edge_order.proofs.Edges.{targets_here}
use Rattle.edge_order.proofs.Counting.{led, not_led, searched_more, searched_rises}
use Rattle.edge_order.proofs.Rising.{forward}
use Rattle.edge_order.proofs.orders.search_each.Goals as goal

pub returns-then-index : goal.returns-then-index
returns-then-index c =
    let graph = c.args.graph.now in
    let n = c.loop-node.node in
    let lt = c.loop-node-test.true in
    let e = targets_here graph n c.index-graph-node.result lt c.index-graph-node.is ∙ sym c.as_slice.ensures.value in
    let R = subst (λ l. IsReach graph l c.in_ok-marks.marks.items) (sym e) c.in_ok-marks.ensures in
    let below : n < length c.in_ok-marks.marks.items = subst (λ k. n < k) (sym R.size) lt in
    (lt, led graph n c.in_ok-marks.marks.items c.index.result.now R below c.index.ensures c.if-index.true, c.loop-node.invariant.none)

pub loop-node-preserved : goal.loop-node-preserved
loop-node-preserved c =
    let graph = c.args.graph.now in
    let n = c.loop-node.node in
    let lt = c.loop-node-test.true in
    let marks = c.in_ok-marks.marks.items in
    let e = targets_here graph n c.index-graph-node.result lt c.index-graph-node.is ∙ sym c.as_slice.ensures.value in
    let R = subst (λ l. IsReach graph l marks) (sym e) c.in_ok-marks.ensures in
    let below : n < length marks = subst (λ k. n < k) (sym R.size) lt in
    let number = ap (λ k. length graph - k) (c.count.ensures ∙ ap (count_by (λ x. x)) c.as_slice-in-loop-node.ensures.value) in
    let M = searched_more graph n _ c.loop-node.stages.items marks c.loop-node.invariant R number (not_led graph n marks c.index.result.now R below c.index.ensures c.if-index.false) in
    subst (AreSearched graph (n + 1)) (sym c.in_ok-push.ensures.items) M

pub returns : goal.returns
returns c =
    let graph = c.args.graph.now in
    let stages = c.loop-node.stages.items in
    let all : c.loop-node.node ≡ length graph = omega arith in
    let S = subst (λ k. AreSearched graph k stages) all c.loop-node.invariant in
    let B = subst (λ l. IsByStage l c.in_ok-order.order.items) c.as_slice-2.ensures.value c.in_ok-order.ensures in
    (S.none, forward graph stages c.in_ok-order.order.items S.size (searched_rises graph stages c.requires.graph S) B)
