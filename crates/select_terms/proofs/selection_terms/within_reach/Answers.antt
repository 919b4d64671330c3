use Rattle.select_terms.proofs.Steps.{reach_made}
use Rattle.select_terms.proofs.selection_terms.within_reach.Goals as goal

pub returns-clause-adds : goal.returns-clause-adds
returns-clause-adds c =
    reach_made c.args.terms.now c.shifted.new.terms c.args.signal.0 c.args.index.0 c.args.site.0 c.in_ok-t.t.0 c.width_of-bits.result c.width_of-whole.result c.width_of-narrow.result c.greater-width.result c.args.lowest c.args.signed
    c.shifted.ensures.proper c.width_of-bits.ensures.width c.width_of-whole.ensures.width c.width_of-narrow.ensures.width c.greater-width.ensures c.width_of-whole.ensures.some c.width_of-bits.ensures.some c.width_of-narrow.ensures.some c.requires.signal c.requires.index c.requires.site c.requires.reach
    c.in_ok-t.ensures.adds
