use Rattle.std.proofs.Common.{◌≡◌, ◌≤◌, ◌*◌, List, length, None, sym, ap, subst, ◌∙◌}
use Rattle.std.specs.Prelude.{All}
use Rattle.std.proofs.lemmas.Result.{IfOk-weaker}
use Rattle.c_tokens.specs.Directives.{Names, lines_of, lines_give}
use Rattle.c_tokens.specs.Reading.{IsTokenOf, IsWithin}
use Rattle.c_tokens.specs.declared.directives.CToken.{CToken}
use Rattle.c_tokens.proofs.PartLemmas.{tokens_of-within}
use Rattle.c_tokens.proofs.GivenLemmas.{c_tokens-are, c_tokens-few}
use Rattle.c_tokens.proofs.directives.c_tokens.Goals as goal

pub read_lines-requires : goal.read_lines-requires
read_lines-requires c = subst (All (IsWithin c.args.text.now)) (sym (c.deref.ensures.value ∙ c.in_ok-tokens.ensures)) (tokens_of-within c.args.text.now)

pub returns-clause-tokens : goal.returns-clause-tokens
returns-clause-tokens c =
    let text = c.args.text.now in
    let none : Names = λ _. None in
    IfOk-weaker c.read_lines.result (λ v. v.items ≡ lines_give text none (lines_of text c.deref.result.now)) (λ v. All (IsTokenOf text) v.items)
    (λ v e. subst (All (IsTokenOf text)) (sym (e ∙ ap (λ x. lines_give text none (lines_of text x)) (c.deref.ensures.value ∙ c.in_ok-tokens.ensures))) (c_tokens-are text))
    c.read_lines.ensures

pub returns-clause-few : goal.returns-clause-few
returns-clause-few c =
    let text = c.args.text.now in
    let none : Names = λ _. None in
    let P : List CToken → Type 0 = λ x. length x ≤ 4 * length text in
    IfOk-weaker c.read_lines.result (λ v. v.items ≡ lines_give text none (lines_of text c.deref.result.now)) (λ v. length v.items ≤ 4 * length text)
    (λ v e. subst P (sym (e ∙ ap (λ x. lines_give text none (lines_of text x)) (c.deref.ensures.value ∙ c.in_ok-tokens.ensures))) (c_tokens-few text))
    c.read_lines.ensures
