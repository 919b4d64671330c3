use Rattle.std.proofs.Common.{Some, sym, ◌∙◌}
use Rattle.c_tokens.proofs.IntegerLemmas.{zero-alone, zero-x, zero-octal}
use Rattle.c_tokens.proofs.rules.after_zero_len.Goals as goal

pub returns-in-Some-after_x_len : goal.returns-in-Some-after_x_len
returns-in-Some-after_x_len c =
    zero-x c.in-Some.first.now c.in-Some.rest.now c.args.bytes.now c.in-Some.ensures.cases.0 (sym c.is_x.ensures ∙ c.if-is_x.true) c.in-Some-after_x_len.len c.in-Some-after_x_len.ensures

pub returns-in-None : goal.returns-in-None
returns-in-None c =
    zero-alone c.in-Some.first.now c.in-Some.rest.now c.args.bytes.now c.in-Some.ensures.cases.0 (sym c.is_x.ensures ∙ c.if-is_x.true) c.in-None.ensures

pub returns : goal.returns
returns c =
    zero-octal c.in-Some.first.now c.in-Some.rest.now c.args.bytes.now c.in-Some.ensures.cases.0 (sym c.is_x.ensures ∙ c.if-is_x.false) (Some c.digits_len.result) c.digits_len.ensures
