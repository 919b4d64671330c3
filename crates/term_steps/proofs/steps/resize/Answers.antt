use Rattle.std.proofs.Common.{ap}
use Rattle.bits_core.specs.Word.{word, resized}
use Rattle.word_eqs.specs.declared.term.TermNode.TheVariants.{Resize}
use Rattle.term_steps.proofs.Adding.{made, wide}
use Rattle.term_steps.proofs.steps.resize.Goals as goal

pub returns-clause-adds : goal.returns-clause-adds
returns-clause-adds c =
    let x = c.in_ok-t.ensures in
    made c.args.terms.now c.add.new.self (Resize c.args.a c.args.to c.args.signed) c.in_ok-t.t.0 _ x.ok x.made x.typed x.cost
    (λ v r. ap (λ w. word c.args.to (resized c.args.to c.args.signed w (v.term c.args.a.0).value)) (wide c.args.terms.now c.add.new.self c.args.to c.in_ok-t.t.0 v c.args.a.0 c.add.ensures.proper x.typed r c.requires.a))
