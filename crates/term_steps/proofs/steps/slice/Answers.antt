use Rattle.std.proofs.Common.{refl}
use Rattle.word_eqs.specs.declared.term.TermNode.TheVariants.{Slice}
use Rattle.term_steps.proofs.Adding.{made}
use Rattle.term_steps.proofs.steps.slice.Goals as goal

pub returns-clause-adds : goal.returns-clause-adds
returns-clause-adds c =
    let x = c.in_ok-t.ensures in
    made c.args.terms.now c.add.new.self (Slice c.args.a c.args.high c.args.low) c.in_ok-t.t.0 _ x.ok x.made x.typed x.cost (λ v r. refl)
