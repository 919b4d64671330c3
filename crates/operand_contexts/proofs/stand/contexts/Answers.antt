use Rattle.operand_contexts.proofs.Standing.{left_stands, right_stands}
use Rattle.operand_contexts.proofs.stand.contexts.Goals as goal

pub returns-clause-left : goal.returns-clause-left
returns-clause-left c =
    left_stands _ _ _ _ _ _ _ _ _ _ _ _ c.left_context.result c.operand_form-form.ensures c.own-x.ensures.length c.own-y.ensures.length c.own-x.ensures.signed c.own-y.ensures.signed c.left_context.ensures.length c.left_context.ensures.signed c.requires.width c.own-x.ensures.width c.own-y.ensures.width

pub returns-clause-right : goal.returns-clause-right
returns-clause-right c =
    right_stands _ _ _ _ _ _ _ _ _ _ _ _ c.right_context.result c.operand_form-form.ensures c.own-x.ensures.length c.own-y.ensures.length c.own-x.ensures.signed c.own-y.ensures.signed c.right_context.ensures.length c.right_context.ensures.signed c.requires.width c.own-x.ensures.width c.own-y.ensures.width
