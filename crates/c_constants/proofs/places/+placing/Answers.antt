use Rattle.c_constants.proofs.Firsts.{parentheses_first, unary_first, cast_first, binary_first, conditional_first}
use Rattle.c_constants.proofs.places.+placing.Goals as goal

pub returns-in-Parentheses : goal.returns-in-Parentheses
returns-in-Parentheses t c = parentheses_first c.args.e.now _ _ c.in-Parentheses.is

pub returns-in-Unary : goal.returns-in-Unary
returns-in-Unary t c = unary_first c.args.e.now _ c.in-Unary.mark c.in-Unary.is

pub returns-in-Cast : goal.returns-in-Cast
returns-in-Cast t c = cast_first c.args.e.now _ _ _ c.in-Cast.is

pub returns-in-Binary : goal.returns-in-Binary
returns-in-Binary t c = binary_first c.args.e.now _ _ _ _ _ c.in-Binary.is c.get.ensures c.expression_place.ensures

pub returns-in-Conditional : goal.returns-in-Conditional
returns-in-Conditional t c = conditional_first c.args.e.now _ _ _ _ _ _ c.in-Conditional.is c.get-in-Conditional.ensures c.expression_place-in-Conditional.ensures
