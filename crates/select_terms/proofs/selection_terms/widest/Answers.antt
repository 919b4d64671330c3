use Rattle.select_terms.proofs.Steps.{widest_made}
use Rattle.select_terms.proofs.selection_terms.widest.Goals as goal

pub returns-clause-adds : goal.returns-clause-adds
returns-clause-adds c =
    widest_made c.args.terms.now c.at_full_width.new.terms c.highest.new.terms c.choose.new.terms c.args.signal.0 c.args.index.0 c.args.site.0 c.in_ok-read.read.0 c.in_ok-far.far.0 c.in_ok-t.t.0 c.args.lowest c.args.signed c.if-signed.false c.choose.ensures.proper c.requires.wide c.requires.lowest c.requires.fits c.requires.signal c.requires.index c.requires.site
    c.in_ok-read.ensures.adds c.in_ok-far.ensures.adds c.in_ok-t.ensures.adds
