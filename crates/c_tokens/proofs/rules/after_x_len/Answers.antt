use Rattle.std.proofs.Common.{sym, ◌∙◌}
use Rattle.c_tokens.proofs.IntegerLemmas.{x-stops, x-goes_on}
use Rattle.c_tokens.proofs.rules.after_x_len.Goals as goal

pub returns-then-is_digit : goal.returns-then-is_digit
returns-then-is_digit c =
    x-goes_on c.in-Some.first.now c.in-Some.rest.now c.args.bytes.now c.in-Some.ensures.cases.0 (sym c.is_digit.ensures ∙ c.if-is_digit.true) c.digits_len.result c.digits_len.ensures

pub returns : goal.returns
returns c = x-stops c.in-Some.first.now c.in-Some.rest.now c.args.bytes.now c.in-Some.ensures.cases.0 (sym c.is_digit.ensures ∙ c.if-is_digit.false)
