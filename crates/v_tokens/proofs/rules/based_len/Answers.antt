use Rattle.std.proofs.Common.{Some, None, sym, ◌∙◌}
use Rattle.v_tokens.proofs.BasedLemmas.{based-signed, based-plain}
use Rattle.v_tokens.proofs.rules.based_len.Goals as goal

pub returns-in-Some-unsigned_len : goal.returns-in-Some-unsigned_len
returns-in-Some-unsigned_len c =
    based-signed 0 c.in-Some.sign.now c.in-Some.rest.now c.args.bytes.now c.in-Some.ensures.cases.0 (sym c.is_sign.ensures ∙ c.if-is_sign.true) (Some c.in-Some-unsigned_len.len) c.in-Some-unsigned_len.ensures

pub returns-in-None : goal.returns-in-None
returns-in-None c =
    based-signed 0 c.in-Some.sign.now c.in-Some.rest.now c.args.bytes.now c.in-Some.ensures.cases.0 (sym c.is_sign.ensures ∙ c.if-is_sign.true) None c.in-None.ensures

pub returns : goal.returns
returns c =
    based-plain 0 c.in-Some.sign.now c.in-Some.rest.now c.args.bytes.now c.in-Some.ensures.cases.0 (sym c.is_sign.ensures ∙ c.if-is_sign.false) c.unsigned_len-2.result c.unsigned_len-2.ensures
