use Rattle.std.proofs.Common.{ap, ◌∙◌}
use Rattle.joint_ir.specs.Weights.{store_weight, var_bits}
use Rattle.joint_ir.proofs.Weights.{params_more}
use Rattle.joint_ir.proofs.weighing.parts.params.Goals as goal

pub loop-k-preserved : goal.loop-k-preserved
loop-k-preserved c = record {
  total = params_more c.args.program.now.locals c.args.first c.args.count c.loop-k.k _ _ _ _ c.loop-k-test.true c.loop-k.invariant.total
      (c.store.ensures.value ∙ ap store_weight c.var_bits-bits.ensures ∙ ap (λ x. store_weight (var_bits x)) c.get.ensures.value)
      c.capped-total.ensures.value;
  bound = c.capped-total.ensures.bound;
}
