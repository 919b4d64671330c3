use Rattle.std.proofs.Common.{◌<◌, subst}
use Rattle.select_terms.proofs.Steps.{full_made}
use Rattle.select_terms.proofs.selection_terms.at_full_width.Goals as goal

pub returns-clause-adds : goal.returns-clause-adds
returns-clause-adds c =
    full_made c.args.terms.now c.shifted.new.terms c.args.signal.0 c.args.index.0 c.args.site.0 c.in_ok-t.t.0 c.args.lowest c.shifted.ensures.proper c.requires.wide c.requires.lowest (subst (λ k. 0 < k) c.width_of-whole.ensures.width c.width_of-whole.ensures.some) c.requires.fits c.requires.signal c.requires.index c.requires.site c.in_ok-t.ensures.adds
