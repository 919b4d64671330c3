use Rattle.operand_contexts.proofs.Combining.{compared_way}
use Rattle.operand_contexts.proofs.made.compared.Goals as goal

pub returns-clause-adds : goal.returns-clause-adds
returns-clause-adds c =
    compared_way c.args.terms.now c.operate.new.terms c.resize.new.terms c.args.op c.way_of-way.result c.args.both c.args.at.signed c.args.at.length c.args.x.0 c.args.y.0 c.in_ok-flag.flag.0 c.in_ok-t.t.0 c.requires.form c.way_of-way.ensures.value c.way_of-way.ensures.cost c.way_of-way.ensures.width c.in_ok-flag.ensures.adds c.in_ok-t.ensures.adds
