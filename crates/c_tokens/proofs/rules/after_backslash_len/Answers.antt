use Rattle.std.proofs.Common.{Some, None, sym, ◌∙◌}
use Rattle.c_tokens.proofs.QuoteLemmas.{backslash-goes_on}
use Rattle.c_tokens.proofs.rules.after_backslash_len.Goals as goal

pub returns-in-Some-only_len : goal.returns-in-Some-only_len
returns-in-Some-only_len c =
    backslash-goes_on c.in-Some.first.now c.in-Some.rest.now c.args.bytes.now c.in-Some.ensures.cases.0 (sym c.is_escape.ensures ∙ c.if-is_escape.true) (Some c.in-Some-only_len.len) c.in-Some-only_len.ensures

pub returns-in-None : goal.returns-in-None
returns-in-None c =
    backslash-goes_on c.in-Some.first.now c.in-Some.rest.now c.args.bytes.now c.in-Some.ensures.cases.0 (sym c.is_escape.ensures ∙ c.if-is_escape.true) None c.in-None.ensures
