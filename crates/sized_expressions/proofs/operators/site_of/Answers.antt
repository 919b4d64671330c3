use Rattle.std.proofs.Common.{◌∙◌, sym, arith}
use Rattle.flat_tree.specs.Operators.{form_of}
use Rattle.sized_expressions.proofs.Counts.{some_numbers}
use Rattle.sized_expressions.proofs.Operating.{site_made, none_made}
use Rattle.sized_expressions.proofs.operators.site_of.Goals as goal

pub site-requires-clause-few : goal.site-requires-clause-few
site-requires-clause-few c = let a = c.requires.few (sym c.divides.ensures ∙ c.if-divides.true) in let b = some_numbers c.args.width in omega (arith, a, b)

pub returns-then-divides : goal.returns-then-divides
returns-then-divides c = site_made (form_of c.args.op) c.args.terms.now c.site.new.terms c.args.width _ c.args.left.0 c.in_ok-t.t.0 (sym c.divides.ensures ∙ c.if-divides.true) c.in_ok-t.ensures.made

pub returns : goal.returns
returns c = none_made (form_of c.args.op) c.args.terms.now c.args.width c.args.left.0 (sym c.divides.ensures ∙ c.if-divides.false) c.len.ensures.proper c.requires.left
