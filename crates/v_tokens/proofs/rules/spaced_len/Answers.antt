use Rattle.std.proofs.Common.{◌≡◌, Some, None, drop, sym, subst}
use Rattle.text_scan.specs.Fronts.{IsLongestFront}
use Rattle.text_scan.proofs.ScanSteps.{rest_is}
use Rattle.v_tokens.specs.Rules.{is_digits}
use Rattle.v_tokens.proofs.BasedLemmas.{spaced-run}
use Rattle.v_tokens.proofs.rules.spaced_len.Goals as goal

pub returns-in-Some : goal.returns-in-Some
returns-in-Some c =
    spaced-run c.args.base c.args.bytes.now c.space_run-spaces.result (Some c.in-Some.len) c.space_run-spaces.ensures
    (subst (λ x. IsLongestFront (is_digits c.args.base) x (Some c.in-Some.len)) (rest_is c.space_run-spaces.result c.args.bytes.now) c.in-Some.ensures)

pub returns-in-None : goal.returns-in-None
returns-in-None c =
    spaced-run c.args.base c.args.bytes.now c.space_run-spaces.result None c.space_run-spaces.ensures
    (subst (λ x. IsLongestFront (is_digits c.args.base) x None) (rest_is c.space_run-spaces.result c.args.bytes.now) c.in-None.ensures)
