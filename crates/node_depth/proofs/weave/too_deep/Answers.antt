use Rattle.std.proofs.Common.{◌∙◌}
use Rattle.node_depth.proofs.PassNodes.{found_woven}
use Rattle.node_depth.proofs.weave.too_deep.Goals as goal

pub returns : goal.returns
returns c = found_woven c.args.limit c.args.weaves.now c.args.steps.now c.deref.result.now c.first_deeper.result (c.deref.ensures.value ∙ c.in_ok-nodes.ensures) c.first_deeper.ensures
