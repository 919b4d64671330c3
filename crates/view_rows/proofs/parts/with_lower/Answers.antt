use Rattle.view_rows.proofs.Making.{lower_kept, lower_made}
use Rattle.view_rows.proofs.parts.with_lower.Goals as goal

pub returns-then-low-eq0-clause-adds : goal.returns-then-low-eq0-clause-adds
returns-then-low-eq0-clause-adds c = lower_kept c.args.terms.now c.args.word.0 c.args.low c.args.part.0 c.len.ensures.proper c.requires.part c.if-low-eq0.true

pub returns-clause-adds : goal.returns-clause-adds
returns-clause-adds c =
    lower_made c.args.terms.now c.slice.new.terms c.join.new.terms c.args.word.0 c.args.low c.args.part.0 c.in_ok-below.below.0 c.in_ok-t.t.0 c.requires.word c.requires.part c.if-low-eq0.false c.in_ok-below.ensures.adds c.in_ok-t.ensures.adds
