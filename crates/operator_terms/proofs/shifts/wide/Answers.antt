use Rattle.operator_terms.proofs.Moved.{wide_made}
use Rattle.operator_terms.proofs.shifts.wide.Goals as goal

pub returns-clause-adds : goal.returns-clause-adds
returns-clause-adds c =
    wide_made c.args.terms.now c.resize.new.terms c.two.new.terms c.resize-2.new.terms c.args.a.0 c.args.b.0 c.width_of-short.result c.width_of-width.result c.in_ok-word.word.0 c.in_ok-moved.moved.0 c.in_ok-t.t.0 c.args.op c.looks.result c.resize-2.ensures.proper c.requires.shift c.looks.ensures c.width_of-short.ensures.width c.width_of-width.ensures.width c.requires.a c.requires.b c.requires.order c.in_ok-word.ensures.adds c.in_ok-moved.ensures.adds c.in_ok-t.ensures.adds
