use Rattle.checked_terms.proofs.Results.{truth_made, converted_made}
use Rattle.checked_terms.proofs.tests_of.converted.Goals as goal

pub returns-in_ok-t : goal.returns-in_ok-t
returns-in_ok-t c =
    truth_made c.args.terms.now c.is_set.new.terms c.args.from c.args.ty c.args.a c.in_ok-t.t c.requires.has c.requires.width c.requires.ty c.if-ty.true c.in_ok-t.ensures

pub returns-in_ok-t-2 : goal.returns-in_ok-t-2
returns-in_ok-t-2 c =
    converted_made c.args.terms.now c.resize.new.terms c.args.from c.args.ty c.args.a c.in_ok-t-2.t c.requires.width c.if-ty.false c.in_ok-t-2.ensures
