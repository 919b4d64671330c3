use Rattle.bitblast.proofs.SignedLaws.{signed_quotient}
use Rattle.bitblast.proofs.quotients.divide_signed.Goals as goal

pub returns : goal.returns
returns c =
    signed_quotient _ _ _ _ _ _ c.args.left.now c.args.right.now c.in_ok-first.first.items _ c.in_ok-second.second.items _ c.in_ok-size.size.items _ _ _ _ _ c.requires.some c.requires.widths
    c.deref.ensures.0 c.deref-2.ensures.0 c.deref-3.ensures.0 c.in_ok-first.ensures c.in_ok-second.ensures c.in_ok-size.ensures c.in_ok-apart.ensures c.in_ok-made.ensures
