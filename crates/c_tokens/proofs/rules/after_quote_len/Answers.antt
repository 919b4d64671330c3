use Rattle.std.proofs.Common.{Some, None, sym, ◌∙◌}
use Rattle.c_tokens.proofs.KindLemmas.{is-not}
use Rattle.c_tokens.proofs.QuoteLemmas.{quote-escape, quote-plain, quote-stops}
use Rattle.c_tokens.proofs.rules.after_quote_len.Goals as goal

pub returns-in-Some-after_backslash_len : goal.returns-in-Some-after_backslash_len
returns-in-Some-after_backslash_len c =
    quote-escape c.in-Some.first.now c.in-Some.rest.now c.args.bytes.now c.in-Some.ensures.cases.0 c.if-first-eq92.true (Some c.in-Some-after_backslash_len.len) c.in-Some-after_backslash_len.ensures

pub returns-in-None : goal.returns-in-None
returns-in-None c =
    quote-escape c.in-Some.first.now c.in-Some.rest.now c.args.bytes.now c.in-Some.ensures.cases.0 c.if-first-eq92.true None c.in-None.ensures

pub returns-in-Some-only_len : goal.returns-in-Some-only_len
returns-in-Some-only_len c =
    quote-plain c.in-Some.first.now c.in-Some.rest.now c.args.bytes.now c.in-Some.ensures.cases.0 (is-not c.in-Some.first.now 92 c.if-first-eq92.false)
    (sym c.is_plain.ensures ∙ c.if-is_plain.true) (Some c.in-Some-only_len.len) c.in-Some-only_len.ensures

pub returns-in-None-only_len : goal.returns-in-None-only_len
returns-in-None-only_len c =
    quote-plain c.in-Some.first.now c.in-Some.rest.now c.args.bytes.now c.in-Some.ensures.cases.0 (is-not c.in-Some.first.now 92 c.if-first-eq92.false)
    (sym c.is_plain.ensures ∙ c.if-is_plain.true) None c.in-None-only_len.ensures

pub returns : goal.returns
returns c =
    quote-stops c.in-Some.first.now c.in-Some.rest.now c.args.bytes.now c.in-Some.ensures.cases.0 (is-not c.in-Some.first.now 92 c.if-first-eq92.false)
    (sym c.is_plain.ensures ∙ c.if-is_plain.false)
