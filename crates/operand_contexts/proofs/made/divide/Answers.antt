use Rattle.operand_contexts.proofs.Combining.{divide_paired, divide_width, divide_made}
use Rattle.operand_contexts.proofs.made.divide.Goals as goal

pub way_of-way-requires : goal.way_of-way-requires
way_of-way-requires c = divide_paired c.args.op c.requires.divides

pub divided-requires-clause-same : goal.divided-requires-clause-same
divided-requires-clause-same c = divide_width c.args.op c.way_of-way.result c.requires.divides c.way_of-way.ensures.width _

pub returns-clause-adds : goal.returns-clause-adds
returns-clause-adds c = divide_made c.args.terms.now c.divided.new.terms c.args.op c.way_of-way.result c.args.signed c.args.x.0 c.args.y.0 c.args.site.0 c.in_ok-t.t.0 c.requires.divides c.way_of-way.ensures.value c.way_of-way.ensures.cost c.in_ok-t.ensures.adds
