use Rattle.std.proofs.Common.{Some, None, subst}
use Rattle.text_scan.specs.Fronts.{IsLongestFront}
use Rattle.text_scan.proofs.ScanSteps.{rest_is}
use Rattle.c_tokens.specs.Rules.{is_only}
use Rattle.c_tokens.proofs.QuoteLemmas.{double_quote-run}
use Rattle.c_tokens.proofs.rules.after_double_quote_len.Goals as goal

pub returns-in-Some : goal.returns-in-Some
returns-in-Some c =
    double_quote-run c.args.bytes.now c.text_run-run.result (Some c.in-Some.len) c.text_run-run.ensures
    (subst (λ x. IsLongestFront (is_only 34) x (Some c.in-Some.len)) (rest_is c.text_run-run.result c.args.bytes.now) c.in-Some.ensures)

pub returns-in-None : goal.returns-in-None
returns-in-None c =
    double_quote-run c.args.bytes.now c.text_run-run.result None c.text_run-run.ensures
    (subst (λ x. IsLongestFront (is_only 34) x None) (rest_is c.text_run-run.result c.args.bytes.now) c.in-None.ensures)
