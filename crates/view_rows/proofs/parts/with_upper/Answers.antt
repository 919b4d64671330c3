use Rattle.view_rows.proofs.Making.{upper_kept}
use Rattle.view_rows.proofs.parts.with_upper.Goals as goal

pub returns-then-high-width-clause-adds : goal.returns-then-high-width-clause-adds
returns-then-high-width-clause-adds c =
    upper_kept c.args.terms.now c.args.word.0 c.args.high c.args.part.0 c.width_of-width.result c.len.ensures.proper c.requires.part c.width_of-width.ensures.width c.if-high-width.true
