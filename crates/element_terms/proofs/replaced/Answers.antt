use Rattle.element_terms.proofs.Parts.{replaced_made}
use Rattle.element_terms.proofs.replaced.Goals as goal

pub returns : goal.returns
returns c =
    replaced_made c.args.terms.now c.is_place.new.terms c.two.new.terms c.choose.new.terms c.args.guard c.args.index c.args.new c.args.old c.in_ok-here.here c.in_ok-both.both c.in_ok-t.t c.args.place c.requires.bit
    c.in_ok-here.ensures c.in_ok-both.ensures c.in_ok-t.ensures
