use Rattle.std.proofs.Common.{◌∙◌, sym}
use Rattle.flat_tree.specs.Operators.{form_of, binary_value}
use Rattle.sized_expressions.proofs.Operating.{fit_divides, divided_made, combined_made}
use Rattle.sized_expressions.proofs.operators.operated.Goals as goal

pub divide-requires-clause-divides : goal.divide-requires-clause-divides
divide-requires-clause-divides c = sym c.divides.ensures ∙ c.if-divides.true

pub divide-requires-clause-width : goal.divide-requires-clause-width
divide-requires-clause-width c = let f = fit_divides (form_of c.args.op) _ _ _ (sym c.divides.ensures ∙ c.if-divides.true) c.requires.widths in f.1 ∙ sym f.0

pub divide-requires-clause-sites : goal.divide-requires-clause-sites
divide-requires-clause-sites c = let e = sym c.divides.ensures ∙ c.if-divides.true in let f = fit_divides (form_of c.args.op) _ _ _ e c.requires.widths in c.requires.sites e ∙ sym f.0

pub returns-then-divides : goal.returns-then-divides
returns-then-divides c =
    let e = sym c.divides.ensures ∙ c.if-divides.true in
    divided_made (form_of c.args.op) (binary_value c.args.op) c.args.terms.now c.divide.new.terms c.args.at.length c.args.x.0 c.args.site.0 c.args.y.0 _ c.in_ok-t.t.0 c.args.both c.args.at.signed e (fit_divides (form_of c.args.op) _ _ _ e c.requires.widths).0 c.in_ok-t.ensures.adds

pub combine-requires-clause-plain : goal.combine-requires-clause-plain
combine-requires-clause-plain c = sym c.divides.ensures ∙ c.if-divides.false

pub returns : goal.returns
returns c =
    combined_made (form_of c.args.op) (binary_value c.args.op) c.args.terms.now c.combine.new.terms c.args.at.length c.args.x.0 c.args.site.0 c.args.y.0 _ c.in_ok-t-2.t.0 c.args.both c.args.at.signed (sym c.divides.ensures ∙ c.if-divides.false) c.in_ok-t-2.ensures.adds
