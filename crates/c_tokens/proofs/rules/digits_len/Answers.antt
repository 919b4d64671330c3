use Rattle.std.proofs.Common.{Some, subst}
use Rattle.text_scan.specs.Fronts.{IsLongestFront}
use Rattle.text_scan.proofs.ScanSteps.{rest_is}
use Rattle.c_tokens.specs.Rules.{is_suffix}
use Rattle.c_tokens.proofs.IntegerLemmas.{digits-run}
use Rattle.c_tokens.proofs.rules.digits_len.Goals as goal

pub returns : goal.returns
returns c =
    digits-run c.args.base c.args.bytes.now c.digit_run-run.result c.suffix_len-suffix.result c.digit_run-run.ensures
    (subst (λ x. IsLongestFront is_suffix x (Some c.suffix_len-suffix.result)) (rest_is c.digit_run-run.result c.args.bytes.now) c.suffix_len-suffix.ensures)
