use Rattle.division_terms.proofs.Divided.{number_made}
use Rattle.division_terms.proofs.is_number.Goals as goal

pub returns : goal.returns
returns c = number_made c.args.terms.now c.constant.new.terms c.two.new.terms c.args.a c.in_ok-n.n c.in_ok-t.t c.args.number c.requires.below c.in_ok-n.ensures c.in_ok-t.ensures
