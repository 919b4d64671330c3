use Rattle.std.proofs.Common.{Some, None, sym, ◌∙◌}
use Rattle.v_tokens.proofs.BasedLemmas.{unsigned-go}
use Rattle.v_tokens.proofs.rules.unsigned_len.Goals as goal

pub returns-in-Some-spaced_len : goal.returns-in-Some-spaced_len
returns-in-Some-spaced_len c =
    unsigned-go 0 c.in-Some.base.now c.in-Some.rest.now c.args.bytes.now c.in-Some.ensures.cases.0 (sym c.is_base.ensures ∙ c.if-is_base.true) (Some c.in-Some-spaced_len.len) c.in-Some-spaced_len.ensures

pub returns-in-None : goal.returns-in-None
returns-in-None c =
    unsigned-go 0 c.in-Some.base.now c.in-Some.rest.now c.args.bytes.now c.in-Some.ensures.cases.0 (sym c.is_base.ensures ∙ c.if-is_base.true) None c.in-None.ensures
