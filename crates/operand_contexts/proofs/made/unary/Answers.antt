use Rattle.std.proofs.Common.{sym, ◌∙◌}
use Rattle.operand_contexts.proofs.Combining.{flag_made, plain_made}
use Rattle.operand_contexts.proofs.made.unary.Goals as goal

pub returns-then-is_reduction-clause-adds : goal.returns-then-is_reduction-clause-adds
returns-then-is_reduction-clause-adds c =
    flag_made c.args.terms.now c.operated.new.terms c.resize.new.terms c.args.op c.args.at.length c.args.x.0 c.in_ok-y.y.0 c.in_ok-t.t.0 _ c.args.at.signed (sym c.is_reduction.ensures ∙ c.if-is_reduction.true) c.in_ok-y.ensures.adds c.in_ok-t.ensures.adds

pub returns-clause-adds : goal.returns-clause-adds
returns-clause-adds c =
    plain_made c.args.terms.now c.operated.new.terms c.args.op c.args.at.length c.args.x.0 c.in_ok-y.y.0 _ c.args.at.signed (sym c.is_reduction.ensures ∙ c.if-is_reduction.false) c.requires.width c.in_ok-y.ensures.adds
