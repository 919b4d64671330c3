use Rattle.std.proofs.Common.{◌<◌, length, sym, ◌∙◌, subst, subst₂}
use Rattle.std.specs.Prelude.{All}
use Rattle.edge_order.specs.Marks.{Marks}
use Rattle.edge_order.proofs.Edges.{targets_here, targets_within}
use Rattle.edge_order.proofs.Spreading.{spread_first, spread_more, spread_end, popped_within, none_left}
use Rattle.edge_order.proofs.reaching.reach.Goals as goal

pub loop-node-init : goal.loop-node-init
loop-node-init c = spread_first c.args.graph.now c.args.seeds.now _ _ _ _ (c.in_ok-marks.ensures.items_if_clones_equal (λ y e. e)) c.new-pending.ensures.items c.in_ok-mark_all.ensures

pub bounds-graph-node : goal.bounds-graph-node
bounds-graph-node c = popped_within _ _ _ _ _ _ c.in-Some.ensures.items c.loop-node.invariant

pub mark_all-requires-in-Some : goal.mark_all-requires-in-Some
mark_all-requires-in-Some c =
    let lt = popped_within _ _ _ _ _ _ c.in-Some.ensures.items c.loop-node.invariant in
    let e = targets_here c.args.graph.now c.in-Some.node c.index-graph-node.result lt c.index-graph-node.is ∙ sym c.as_slice.ensures.value in
    subst₂ (λ n l. All (λ b. b < n) l) (sym c.loop-node.invariant.size) e (targets_within c.args.graph.now c.in-Some.node c.requires.graph)

pub loop-node-preserved : goal.loop-node-preserved
loop-node-preserved c =
    let lt = popped_within _ _ _ _ _ _ c.in-Some.ensures.items c.loop-node.invariant in
    let e = targets_here c.args.graph.now c.in-Some.node c.index-graph-node.result lt c.index-graph-node.is ∙ sym c.as_slice.ensures.value in
    let M = subst (λ l. Marks l (length l) c.loop-node.marks.items c.mark_all-in-Some.new.marks.items c.pop.new.self.items c.mark_all-in-Some.new.pending.items) (sym e) c.in_ok-mark_all-2.ensures in
    spread_more _ _ c.in-Some.node _ _ _ _ _ c.in-Some.ensures.items M c.loop-node.invariant

pub returns : goal.returns
returns c = spread_end _ _ _ _ (none_left c.loop-node.pending.items (sym c.loop-node.pending.ok.0 ∙ c.in_default.ensures.cases.0)) c.loop-node.invariant
