use Rattle.operator_terms.proofs.Moved.{narrow_made}
use Rattle.operator_terms.proofs.shifts.narrow.Goals as goal

pub returns-clause-adds : goal.returns-clause-adds
returns-clause-adds c =
    narrow_made c.args.terms.now c.resize.new.terms c.two.new.terms c.args.a.0 c.args.b.0 c.width_of-width.result c.in_ok-amount.amount.0 c.in_ok-t.t.0 c.args.op c.two.ensures.proper c.requires.shift c.width_of-width.ensures.width c.requires.a c.requires.b c.requires.order c.in_ok-amount.ensures.adds c.in_ok-t.ensures.adds
