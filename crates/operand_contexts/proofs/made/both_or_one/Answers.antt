use Rattle.operand_contexts.proofs.Combining.{logical_made}
use Rattle.operand_contexts.proofs.made.both_or_one.Goals as goal

pub returns-clause-adds : goal.returns-clause-adds
returns-clause-adds c =
    logical_made c.args.terms.now c.logical.new.terms c.resize.new.terms c.args.op c.is_and.result c.args.at.signed c.args.at.length c.args.x.0 c.args.y.0 c.in_ok-flag.flag.0 c.in_ok-t.t.0 c.is_and.ensures.value c.is_and.ensures.row c.in_ok-flag.ensures.adds c.in_ok-t.ensures.adds
