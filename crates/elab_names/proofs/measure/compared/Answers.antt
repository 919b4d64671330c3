use Rattle.elab_names.proofs.Measuring.{compared_is}
use Rattle.elab_names.proofs.measure.compared.Goals as goal

pub returns : goal.returns
returns c = compared_is c.args.op c.args.p.now c.args.q.now _ _ _ _ _ c.common_context-context.ensures.value c.worth_in-x.ensures.value c.worth_in-y.ensures.value c.comparison_worth.ensures c.bit_standing.ensures
