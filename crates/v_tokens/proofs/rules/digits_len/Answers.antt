use Rattle.std.proofs.Common.{sym, ◌∙◌, ap, subst}
use Rattle.v_tokens.specs.Rules.{is_digit_after, goes_on_after}
use Rattle.v_tokens.proofs.BasedLemmas.{digits-stop, digits-go}
use Rattle.v_tokens.proofs.rules.digits_len.Goals as goal

pub returns-then-is_digit_after : goal.returns-then-is_digit_after
returns-then-is_digit_after c =
    digits-go c.args.base c.in-Some.first.now c.in-Some.rest.now c.args.bytes.now (c.in-Some.ensures.cases.0) c.digit_run-run.result c.digit_run-run.ensures (sym c.is_digit_after.ensures ∙ c.if-is_digit_after.true)

pub returns : goal.returns
returns c =
    digits-stop c.args.base c.in-Some.first.now c.in-Some.rest.now c.args.bytes.now (c.in-Some.ensures.cases.0) (sym c.is_digit_after.ensures ∙ c.if-is_digit_after.false)
