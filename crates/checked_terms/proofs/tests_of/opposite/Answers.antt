use Rattle.checked_terms.proofs.Results.{opposite_made}
use Rattle.checked_terms.proofs.tests_of.opposite.Goals as goal

pub returns : goal.returns
returns c =
    opposite_made c.args.terms.now c.is_set.new.terms c.one.new.terms c.resize.new.terms c.args.from c.args.a c.in_ok-set.set c.in_ok-unset.unset c.in_ok-t.t
    c.requires.has c.requires.width c.in_ok-set.ensures c.in_ok-unset.ensures c.in_ok-t.ensures
