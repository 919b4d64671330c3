use Rattle.select_terms.proofs.Steps.{bits_made}
use Rattle.select_terms.proofs.selection_terms.bits_from.Goals as goal

pub returns-clause-adds : goal.returns-clause-adds
returns-clause-adds c =
    bits_made c.args.terms.now c.constant.new.terms c.join.new.terms c.resize.new.terms c.two.new.terms c.resize-2.new.terms c.args.a.0 c.args.place.0 c.args.bits c.width_of-width.result c.in_ok-zeros.zeros.0 c.in_ok-padded.padded.0 c.in_ok-wide.wide.0 c.in_ok-moved.moved.0 c.in_ok-t.t.0 c.from_low_bits.result
    c.resize-2.ensures.proper c.from_low_bits.ensures.value c.width_of-width.ensures.width c.requires.a c.requires.place c.requires.fits
    c.in_ok-zeros.ensures.adds c.in_ok-padded.ensures.adds c.in_ok-wide.ensures.adds c.in_ok-moved.ensures.adds c.in_ok-t.ensures.adds
