use Rattle.operand_contexts.proofs.Combining.{context_way}
use Rattle.operand_contexts.proofs.made.in_context.Goals as goal

pub returns-clause-adds : goal.returns-clause-adds
returns-clause-adds c = context_way c.args.terms.now c.operate.new.terms c.args.op c.way_of-way.result c.args.signed c.args.x.0 c.args.y.0 c.in_ok-t.t.0 c.requires.form c.way_of-way.ensures.value c.way_of-way.ensures.cost c.way_of-way.ensures.width c.in_ok-t.ensures.adds
