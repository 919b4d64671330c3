use Rattle.std.proofs.Common.{◌-◌, ◌^◌, ap}
use Rattle.bits_core.specs.Word.{word}
use Rattle.bits_core.specs.declared.op.Op1.TheVariants.{Not}
use Rattle.word_eqs.specs.Graph.{width_in}
use Rattle.word_eqs.specs.declared.term.TermNode.TheVariants.{One}
use Rattle.term_steps.proofs.Adding.{made, wide}
use Rattle.term_steps.proofs.steps.turned.Goals as goal

pub returns-clause-adds : goal.returns-clause-adds
returns-clause-adds c =
    let x = c.in_ok-t.ensures in
    made c.args.terms.now c.add.new.self (One Not c.args.a) c.in_ok-t.t.0 _ x.ok x.made x.typed x.cost
    (λ v r. ap (λ w. word w (2 ^ w - 1 - (v.term c.args.a.0).value)) (wide c.args.terms.now c.add.new.self (width_in c.args.terms.now c.args.a.0) c.in_ok-t.t.0 v c.args.a.0 c.add.ensures.proper x.typed r c.requires.a))
