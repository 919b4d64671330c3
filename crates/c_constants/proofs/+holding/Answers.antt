use Rattle.std.proofs.Common.{true, false, subst}
use Rattle.c_constants.specs.Holding.{Holds}
use Rattle.c_constants.proofs.Holding.{parentheses_held, unary_held, cast_held, binary_first, binary_last, conditional_first, conditional_second, conditional_last}
use Rattle.c_constants.proofs.+holding.Goals as goal

pub returns-in-Parentheses : goal.returns-in-Parentheses
returns-in-Parentheses t c = parentheses_held c.args.e.now _ _ _ _ c.in-Parentheses.is c.get.ensures c.holds_path.ensures

pub returns-in-Unary : goal.returns-in-Unary
returns-in-Unary t c = unary_held c.args.e.now _ _ _ _ c.in-Unary.is c.get-in-Unary.ensures c.holds_path-in-Unary.ensures

pub returns-in-Cast : goal.returns-in-Cast
returns-in-Cast t c = cast_held c.args.e.now _ _ _ _ _ c.in-Cast.is c.get-in-Cast.ensures c.holds_path-in-Cast.ensures

pub returns-then-holds_path : goal.returns-then-holds_path
returns-then-holds_path t c = binary_first c.args.e.now _ _ _ _ c.in-Binary.is c.get-in-Binary.ensures c.if-holds_path.ensures

pub returns-else-holds_path : goal.returns-else-holds_path
returns-else-holds_path t c = binary_last c.args.e.now _ _ _ _ _ _ c.in-Binary.is c.get-in-Binary.ensures c.get-in-Binary-2.ensures c.if-holds_path.ensures c.holds_path-in-Binary-2.ensures

pub returns-then-holds_path-2 : goal.returns-then-holds_path-2
returns-then-holds_path-2 t c = conditional_first c.args.e.now _ _ _ _ _ c.in-Conditional.is c.get-in-Conditional.ensures c.if-holds_path-2.ensures

pub returns-then-holds_path-3 : goal.returns-then-holds_path-3
returns-then-holds_path-3 t c =
    conditional_second c.args.e.now _ _ _ _ _ _ c.in-Conditional.is c.get-in-Conditional.ensures c.get-in-Conditional-2.ensures c.if-holds_path-2.ensures c.if-holds_path-3.ensures

pub returns-else-holds_path-3 : goal.returns-else-holds_path-3
returns-else-holds_path-3 t c =
    conditional_last c.args.e.now _ _ _ _ _ _ _ _ c.in-Conditional.is c.get-in-Conditional.ensures c.get-in-Conditional-2.ensures c.get-in-Conditional-3.ensures
    c.if-holds_path-2.ensures c.if-holds_path-3.ensures c.holds_path-in-Conditional-3.ensures
