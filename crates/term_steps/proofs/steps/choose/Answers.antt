use Rattle.std.proofs.Common.{ℕ, zero, suc, ◌≡◌, ap, ◌∙◌}
use Rattle.bits_core.specs.Word.{Word, word, at_zero}
use Rattle.word_eqs.specs.Graph.{width_in}
use Rattle.word_eqs.specs.declared.term.TermNode.TheVariants.{Choose}
use Rattle.term_steps.proofs.Adding.{made, wide}
use Rattle.term_steps.proofs.steps.choose.Goals as goal

at_zero_word : (n w : ℕ) (a b : Word) → a.width ≡ w → b.width ≡ w → at_zero n a b ≡ word w (at_zero n a.value b.value)
at_zero_word zero w a b p q = ap (λ k. word k a.value) p
at_zero_word (suc n) w a b p q = ap (λ k. word k b.value) q

pub returns-clause-adds : goal.returns-clause-adds
returns-clause-adds c =
    let x = c.in_ok-t.ensures in
    let g = c.args.terms.now in
    made g c.add.new.self (Choose c.args.test c.args.a c.args.b) c.in_ok-t.t.0 _ x.ok x.made x.typed x.cost
    (λ v r. at_zero_word (v.term c.args.test.0).value (width_in g c.args.a.0) (v.term c.args.b.0) (v.term c.args.a.0)
    (wide g c.add.new.self (width_in g c.args.a.0) c.in_ok-t.t.0 v c.args.b.0 c.add.ensures.proper x.typed r c.requires.b ∙ c.requires.width)
    (wide g c.add.new.self (width_in g c.args.a.0) c.in_ok-t.t.0 v c.args.a.0 c.add.ensures.proper x.typed r c.requires.a))
