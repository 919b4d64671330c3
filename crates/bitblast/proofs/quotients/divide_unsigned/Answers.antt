use Rattle.bitblast.proofs.QuotientLaws.{unsigned_quotient}
use Rattle.bitblast.proofs.quotients.divide_unsigned.Goals as goal

pub returns : goal.returns
returns c =
    unsigned_quotient _ _ _ _ c.args.left.now c.args.right.now c.in_ok-division.division.quotient.items c.in_ok-division.division.rest.items _ _ _ c.requires.widths c.deref.ensures.0
    c.in_ok-division.ensures c.in_ok-proper.ensures c.in_ok-made.ensures
