use Rattle.bitblast.proofs.QuotientLaws.{division_start, division_step}
use Rattle.bitblast.proofs.quotients.divide.Goals as goal

pub loop-i-init : goal.loop-i-init
loop-i-init c = division_start _ c.args.dividend.now c.args.divisor.now _ _ _ c.new-quotient.ensures c.filled-rest.ensures c.falsity.ensures.there c.falsity.ensures.value

pub loop-i-preserved : goal.loop-i-preserved
loop-i-preserved c =
    division_step _ _ _ c.args.dividend.now c.args.divisor.now c.loop-i.quotient.items c.loop-i.rest.items _ _ _ _ _ c.loop-i.i c.loop-i-test.true c.loop-i.auto.i c.requires.widths c.deref.ensures.0
    c.insert.ensures.items c.loop-i.invariant c.in_ok-taken.ensures
