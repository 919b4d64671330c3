use Rattle.std.proofs.Common.{ap}
use Rattle.bits_core.specs.Word.{word}
use Rattle.bits_core.specs.Ops.{width2, value2}
use Rattle.word_eqs.specs.Graph.{width_in}
use Rattle.word_eqs.specs.declared.term.TermNode.TheVariants.{Two}
use Rattle.term_steps.proofs.Adding.{made, wide}
use Rattle.term_steps.proofs.steps.two.Goals as goal

pub returns-clause-adds : goal.returns-clause-adds
returns-clause-adds c =
    let x = c.in_ok-t.ensures in
    made c.args.terms.now c.add.new.self (Two c.args.op c.args.a c.args.b) c.in_ok-t.t.0 _ x.ok x.made x.typed x.cost
    (λ v r. ap (λ w. word (width2 c.args.op w) (value2 c.args.op w (v.term c.args.a.0).value (v.term c.args.b.0).value)) (wide c.args.terms.now c.add.new.self (width2 c.args.op (width_in c.args.terms.now c.args.a.0)) c.in_ok-t.t.0 v c.args.a.0 c.add.ensures.proper x.typed r c.requires.a))
