use Rattle.std.proofs.Common.{◌≡◌, ◌<◌, ◌∙◌, length, sym, subst}
use Rattle.edge_order.specs.Graph.{IsReach}
use Rattle.edge_order.proofs.Edges.{targets_here}
use Rattle.edge_order.proofs.Counting.{led}
use Rattle.edge_order.proofs.Rising.{forward, no_ring, rises_stays}
use Rattle.edge_order.specs.Stages.{IsByStage}
use Rattle.edge_order.proofs.orders.find_order.Goals as goal

pub returns-in-Rising : goal.returns-in-Rising
returns-in-Rising c =
    let graph = c.args.graph.now in
    let stages = c.as_slice.result.now in
    let size : length stages ≡ length graph = c.as_slice.ensures.len ∙ c.in_ok-stages.ensures in
    let same : c.as_slice-in-Rising.result.now ≡ stages = c.as_slice-in-Rising.ensures.value ∙ sym c.as_slice.ensures.value in
    let B = subst (λ l. IsByStage l c.in_ok-order-in-Rising.order.items) same c.in_ok-order-in-Rising.ensures in (
      no_ring graph stages (length graph) (rises_stays graph stages (length graph) c.in-Rising.ensures) c.in-Rising.ensures,
      forward graph stages c.in_ok-order-in-Rising.order.items size c.in-Rising.ensures B,
    )

pub returns-then-index : goal.returns-then-index
returns-then-index c =
    let graph = c.args.graph.now in
    let n = c.in-Level.node in
    let lt = c.in-Level.ensures.0 in
    let e = targets_here graph n c.index-graph-node.result lt c.index-graph-node.is ∙ sym c.as_slice-in-Level.ensures.value in
    let marks = c.in_ok-marks-in-Level.marks.items in
    let R = subst (λ l. IsReach graph l marks) (sym e) c.in_ok-marks-in-Level.ensures in
    let below : n < length marks = subst (λ k. n < k) (sym R.size) lt in
    (lt, led graph n marks c.index.result.now R below c.index.ensures c.if-index.true, no_ring graph c.as_slice.result.now n c.in-Level.ensures.2 c.in-Level.ensures.1)
