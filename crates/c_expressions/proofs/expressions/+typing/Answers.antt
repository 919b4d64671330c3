use Rattle.c_expressions.proofs.Cases.{parentheses_case, unary_case, cast_case, binary_case, conditional_case, element_case}
use Rattle.c_expressions.proofs.expressions.+typing.Goals as goal

pub expression-returns-in_ok-x-in-Parentheses : goal.expression-returns-in_ok-x-in-Parentheses
expression-returns-in_ok-x-in-Parentheses t c =
    parentheses_case c.args.scopes.now c.args.notes.now c.expression.new.notes _ _ _ _ _ _ c.in-Parentheses.is c.get.ensures c.in_ok-x-in-Parentheses.ensures c.placed.ensures

pub expression-returns-in_ok-t-in-Unary : goal.expression-returns-in_ok-t-in-Unary
expression-returns-in_ok-t-in-Unary t c =
    unary_case c.args.scopes.now c.args.notes.now c.expression-in-Unary.new.notes c.unary.new.notes _ _ _ _ _ _ c.in-Unary.is c.get-in-Unary.ensures c.in_ok-x-in-Unary.ensures c.in_ok-t-in-Unary.ensures.typed c.in_ok-t-in-Unary.ensures.notes

pub expression-returns-in_ok-t-in-Cast : goal.expression-returns-in_ok-t-in-Cast
expression-returns-in_ok-t-in-Cast t c =
    cast_case c.args.scopes.now c.args.notes.now c.expression-in-Cast.new.notes _ _ _ _ c.in-Cast.ty _ _ _ c.in-Cast.is c.get-in-Cast.ensures c.in_ok-x-in-Cast.ensures c.named.ensures c.in_ok-t-in-Cast.ensures

pub expression-returns-in_ok-t-in-Binary : goal.expression-returns-in_ok-t-in-Binary
expression-returns-in_ok-t-in-Binary t c =
    binary_case c.args.scopes.now c.args.notes.now c.expression-in-Binary.new.notes c.expression-in-Binary-2.new.notes c.binary.new.notes _ _ _ _ _ c.in-Binary.mark _ _ _ _
    c.in-Binary.is c.get-in-Binary.ensures c.get-in-Binary-2.ensures c.in_ok-x-in-Binary.ensures c.in_ok-y-in-Binary.ensures c.meant.ensures c.in_ok-t-in-Binary.ensures.typed c.in_ok-t-in-Binary.ensures.notes

pub expression-returns-in_ok-t-in-Conditional : goal.expression-returns-in_ok-t-in-Conditional
expression-returns-in_ok-t-in-Conditional t c =
    conditional_case c.args.scopes.now c.args.notes.now c.expression-in-Conditional.new.notes c.expression-in-Conditional-2.new.notes c.expression-in-Conditional-3.new.notes _ _ _ _ _ _ _ _ _ _ _ _
    c.in-Conditional.is c.get-in-Conditional.ensures c.get-in-Conditional-2.ensures c.get-in-Conditional-3.ensures c.in_ok-z-in-Conditional.ensures c.in_ok-x-in-Conditional.ensures c.in_ok-y-in-Conditional.ensures c.in_ok-t-in-Conditional.ensures

pub path-returns-in_ok-t-in-Element : goal.path-returns-in_ok-t-in-Element
path-returns-in_ok-t-in-Element t c =
    element_case c.args.scopes.now c.args.notes.now c.note_found.new.notes c.expression.new.notes c.element.new.notes _ _ _ _ _ _ _ _
    c.in-Element.is c.get.ensures c.in_ok-at-in-Element.ensures c.note_found.ensures c.in_ok-i-in-Element.ensures c.in_ok-t-in-Element.ensures.typed c.in_ok-t-in-Element.ensures.notes
