use Rattle.std.proofs.Common.{◌≡◌, ◌≤◌, List, length, sym, subst}
use Rattle.std.specs.Prelude.{All}
use Rattle.std.proofs.lemmas.Result.{IfOk-weaker}
use Rattle.text_scan.specs.declared.scanner.Token.{Token}
use Rattle.v_actions.specs.Reading.{tokens_in}
use Rattle.v_build.specs.Sources.{IsInside}
use Rattle.v_parse.proofs.Spans.{tokens_of-inside, tokens_of-few}
use Rattle.v_parse.proofs.lexemes.tokens_in.Goals as goal

pub returns-clause-inside : goal.returns-clause-inside
returns-clause-inside c =
    let text = c.args.text.now in
    IfOk-weaker c.tokens_of.result (λ v. v.items ≡ tokens_in text) (λ v. All (IsInside text) v.items) (λ v e. subst (All (IsInside text)) (sym e) (tokens_of-inside text)) c.tokens_of.ensures

pub returns-clause-few : goal.returns-clause-few
returns-clause-few c =
    let text = c.args.text.now in
    let P : List Token → Type 0 = λ x. length x ≤ length text in
    IfOk-weaker c.tokens_of.result (λ v. v.items ≡ tokens_in text) (λ v. length v.items ≤ length text) (λ v e. subst P (sym e) (tokens_of-few text)) c.tokens_of.ensures
