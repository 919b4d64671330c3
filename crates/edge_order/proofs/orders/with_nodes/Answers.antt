use Rattle.std.proofs.Common.{◌∙◌, ◌++◌, ◌∷◌, [], ap, sym}
use Rattle.edge_order.specs.Stages.{staged}
use Rattle.edge_order.proofs.Staging.{staged_more}
use Rattle.edge_order.proofs.orders.with_nodes.Goals as goal

pub loop-node-preserved : goal.loop-node-preserved
loop-node-preserved c = c.in_ok-push.ensures.items ∙ ap (λ l. l ++ staged c.args.stages.now c.loop-node.node ∷ []) c.loop-node.invariant ∙ sym (staged_more c.args.stages.now c.loop-node.node)
