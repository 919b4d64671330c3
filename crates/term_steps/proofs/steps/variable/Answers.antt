use Rattle.std.proofs.Common.{ap}
use Rattle.bits_core.specs.Word.{word}
use Rattle.word_eqs.specs.declared.term.TermNode.TheVariants.{Var}
use Rattle.term_steps.proofs.Adding.{made}
use Rattle.term_steps.proofs.steps.variable.Goals as goal

pub returns-clause-adds : goal.returns-clause-adds
returns-clause-adds c =
    let x = c.in_ok-t.ensures in
    let g = c.args.terms.now in
    made g c.add.new.self (Var c.args.x) c.in_ok-t.t.0 _ x.ok x.made x.typed x.cost
    (λ v r. ap (λ w. word w (v.var c.args.x.0).value) ((x.made.grown v r).vars.at c.args.x.0 c.requires.x).width)
