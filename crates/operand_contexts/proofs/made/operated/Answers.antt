use Rattle.std.proofs.Common.{sym, ◌∙◌}
use Rattle.operand_contexts.proofs.Combining.{plus_made, unary_way_made}
use Rattle.operand_contexts.proofs.made.operated.Goals as goal

pub unary_way-way-requires : goal.unary_way-way-requires
unary_way-way-requires c = sym c.is_operation.ensures ∙ c.if-is_operation.true

pub returns-then-is_operation-clause-adds : goal.returns-then-is_operation-clause-adds
returns-then-is_operation-clause-adds c =
    unary_way_made c.args.terms.now c.unary.new.terms c.args.op c.unary_way-way.result c.args.x.0 c.in_ok-t.t.0 c.unary_way-way.ensures.value c.unary_way-way.ensures.cost c.unary_way-way.ensures.width c.in_ok-t.ensures.adds

pub returns-clause-adds : goal.returns-clause-adds
returns-clause-adds c = plus_made c.args.terms.now c.args.op c.args.x.0 (sym c.is_operation.ensures ∙ c.if-is_operation.false) c.len.ensures.proper c.requires.x
