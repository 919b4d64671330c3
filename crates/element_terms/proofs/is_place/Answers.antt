use Rattle.element_terms.proofs.Parts.{place_made}
use Rattle.element_terms.proofs.is_place.Goals as goal

pub returns : goal.returns
returns c = place_made c.args.terms.now c.constant.new.terms c.two.new.terms c.args.index c.in_ok-n.n c.in_ok-t.t c.args.place c.requires.below c.in_ok-n.ensures c.in_ok-t.ensures
