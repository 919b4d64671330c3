use Rattle.element_terms.proofs.Parts.{chosen_made}
use Rattle.element_terms.proofs.chosen.Goals as goal

pub returns : goal.returns
returns c = chosen_made c.args.terms.now c.is_place.new.terms c.choose.new.terms c.args.index c.args.element c.args.so_far c.in_ok-here.here c.in_ok-t.t c.args.place c.in_ok-here.ensures c.in_ok-t.ensures
