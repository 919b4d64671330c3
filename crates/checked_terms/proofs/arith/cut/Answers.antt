use Rattle.checked_terms.proofs.Works.{cut_made}
use Rattle.checked_terms.proofs.arith.cut.Goals as goal

pub returns : goal.returns
returns c =
    cut_made c.args.terms.now c.resize.new.terms c.resize-2.new.terms c.two.new.terms c.args.ty c.args.wide c.in_ok-value.value c.in_ok-back.back c.in_ok-fits.fits
    c.requires.has c.requires.ty c.requires.signed c.requires.wider c.in_ok-value.ensures c.in_ok-back.ensures c.in_ok-fits.ensures
