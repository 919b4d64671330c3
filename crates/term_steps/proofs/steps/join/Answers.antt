use Rattle.std.proofs.Common.{◌+◌, ◌*◌, ◌^◌, ap, ◌∙◌}
use Rattle.bits_core.specs.Word.{word}
use Rattle.word_eqs.specs.Graph.{width_in}
use Rattle.word_eqs.specs.declared.term.TermNode.TheVariants.{Join}
use Rattle.term_steps.proofs.Adding.{made, wide}
use Rattle.term_steps.proofs.steps.join.Goals as goal

pub returns-clause-adds : goal.returns-clause-adds
returns-clause-adds c =
    let x = c.in_ok-t.ensures in
    let g = c.args.terms.now in
    let both = width_in g c.args.a.0 + width_in g c.args.b.0 in
    made g c.add.new.self (Join c.args.a c.args.b) c.in_ok-t.t.0 _ x.ok x.made x.typed x.cost
    (λ v r.
    ap (λ w. word (w + (v.term c.args.b.0).width) ((v.term c.args.a.0).value * 2 ^ (v.term c.args.b.0).width + (v.term c.args.b.0).value)) (wide g c.add.new.self both c.in_ok-t.t.0 v c.args.a.0 c.add.ensures.proper x.typed r c.requires.a)
    ∙ ap (λ w. word (width_in g c.args.a.0 + w) ((v.term c.args.a.0).value * 2 ^ w + (v.term c.args.b.0).value)) (wide g c.add.new.self both c.in_ok-t.t.0 v c.args.b.0 c.add.ensures.proper x.typed r c.requires.b))
