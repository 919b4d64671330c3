use Rattle.operand_contexts.proofs.Combining.{shift_made}
use Rattle.operand_contexts.proofs.made.shifted.Goals as goal

pub returns-clause-adds : goal.returns-clause-adds
returns-clause-adds c = shift_made c.args.terms.now c.shift.new.terms c.args.op c.shift_way-way.result c.args.signed c.args.x.0 c.args.y.0 c.in_ok-t.t.0 c.requires.form c.shift_way-way.ensures.value c.in_ok-t.ensures.adds
