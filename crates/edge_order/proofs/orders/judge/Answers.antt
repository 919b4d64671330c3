use Rattle.std.proofs.Common.{◌<◌, ◌≤◌, ◌+◌, ℕ, get_or, sym, subst, arith}
use Rattle.edge_order.specs.Graph.{HasEdge}
use Rattle.edge_order.specs.Stages.{RisesBefore}
use Rattle.edge_order.proofs.Rising.{each_target, more_nodes, rises_up, rises_first, rises_kept}
use Rattle.edge_order.proofs.orders.judge.Goals as goal
use Rattle.edge_order.proofs.orders.judge.Goals.{in-Up, in-Level+then-is_none, in-Level+else-is_none}

pub loop-node-preserved : goal.loop-node-preserved
loop-node-preserved c =
    let graph = c.args.graph.now in
    let stages = c.args.stages.now in
    let n = c.loop-node.node in
    let at : ℕ → ℕ = λ k. get_or stages k 0 in
    elim c.match-rise_of.branch [
      | in-Up w ↦
          let up : (b : ℕ) → HasEdge graph n b → at n < at b = λ b h. each_target graph n b c.index-graph-node.result c.as_slice.result.now (λ k. at n < at k) c.loop-node-test.true c.index-graph-node.is c.as_slice.ensures.value w.in-Up.ensures h in
          record {
            stays = more_nodes graph n (λ a b. at a ≤ at b) c.loop-node.invariant.stays (λ b h. let l = up b h in omega arith);
            rises = subst (RisesBefore graph stages (n + 1)) (sym w.level-is) (rises_up graph stages n c.loop-node.level up c.loop-node.invariant.rises);
          }
      | in-Level+then-is_none w ↦
          let level : (b : ℕ) → HasEdge graph n b → at n ≤ at b = λ b h. each_target graph n b c.index-graph-node.result c.as_slice.result.now (λ k. at n ≤ at k) c.loop-node-test.true c.index-graph-node.is c.as_slice.ensures.value w.in-Level.ensures h in
          record {
            stays = more_nodes graph n (λ a b. at a ≤ at b) c.loop-node.invariant.stays level;
            rises = subst (RisesBefore graph stages (n + 1)) (sym w.level-is) (rises_first graph stages n c.loop-node.level w.is_none.result w.is_none.ensures w.if-is_none.true c.loop-node.invariant.rises);
          }
      | in-Level+else-is_none w ↦
          let level : (b : ℕ) → HasEdge graph n b → at n ≤ at b = λ b h. each_target graph n b c.index-graph-node.result c.as_slice.result.now (λ k. at n ≤ at k) c.loop-node-test.true c.index-graph-node.is c.as_slice.ensures.value w.in-Level.ensures h in
          record {
            stays = more_nodes graph n (λ a b. at a ≤ at b) c.loop-node.invariant.stays level;
            rises = subst (RisesBefore graph stages (n + 1)) (sym w.level-is) (rises_kept graph stages n c.loop-node.level w.is_none.result w.is_none.ensures w.if-is_none.false c.loop-node.invariant.rises);
          }
    ]
