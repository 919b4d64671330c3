use Rattle.bitblast.proofs.QuotientLaws.{taken_step}
use Rattle.bitblast.proofs.quotients.take_divisor.Goals as goal

pub returns : goal.returns
returns c =
    taken_step _ _ _ _ c.args.rest.now c.args.divisor.now c.shifted_in-shifted.result.word.items _ c.in_ok-less.less.word.items _ _ _ _ _ _ _ c.requires.widths
    c.shifted_in-shifted.ensures.bits c.deref.ensures.0 c.deref-2.ensures.0 c.deref-3.ensures.0 c.shifted_in-shifted.ensures.value c.in_ok-less.ensures c.in_ok-fits.ensures c.in_ok-rest.ensures
    c.requires.some
