use Rattle.std.proofs.Common.{◌≡◌, sym, ◌∙◌, subst}
use Rattle.word_eqs.specs.declared.term.TermId.{TermId}
use Rattle.word_eqs.specs.Meaning.{word_at}
use Rattle.word_eqs.specs.Graph.{width_in}
use Rattle.joint_ir.specs.Views.{term_numbers}
use Rattle.joint_view.specs.Conditions.{AreWords}
use Rattle.std.proofs.Common.{map}
use Rattle.std.proofs.lemmas.Result.{IfOk-weaker}
use Rattle.joint_view.proofs.Values.{word_narrow, same_numbers, numbers_fit}
use Rattle.joint_view.proofs.settling.term_numbers.Goals as goal

pub numbers_at-requires-clause-narrow : goal.numbers_at-requires-clause-narrow
numbers_at-requires-clause-narrow c = rw (c.as_slice.ensures, c.as_slice-2.ensures) (λ k d lt.
    word_narrow c.args.terms.now c.args.numbers.now c.in_ok-env.env c.in_ok-words.words c.words_of.ensures.proper c.requires.vars c.in_ok-env.ensures.words c.in_ok-words.ensures.values
    _ (c.requires.there k d lt) (c.requires.narrow k d lt))

pub returns-clause-value : goal.returns-clause-value
returns-clause-value c =
    let same = same_numbers c.args.terms.now c.args.numbers.now c.in_ok-env.env c.in_ok-words.words c.words_of.ensures.proper c.requires.vars c.in_ok-env.ensures.words c.in_ok-words.ensures.values
    c.args.ids.now c.requires.there in
    IfOk-weaker c.numbers_at.result (λ ns. ns ≡ map (λ (t : TermId). (word_at c.as_slice.result.now t.0).value) c.as_slice-2.result.now) _
    (λ ns e. (rw (c.as_slice.ensures, c.as_slice-2.ensures) at e) ∙ same) c.numbers_at.ensures

pub returns-clause-words : goal.returns-clause-words
returns-clause-words c =
    let g = c.args.terms.now in
    let ids = c.args.ids.now in
    let fit = numbers_fit g c.args.numbers.now ids c.words_of.ensures.proper c.requires.vars c.requires.there in
    IfOk-weaker c.numbers_at.result (λ ns. ns ≡ term_numbers g c.args.numbers.now ids) _
    (λ ns e. subst (λ l. AreWords (map (λ (t : TermId). width_in g t.0) ids) l) (sym e) fit) (returns-clause-value c)
