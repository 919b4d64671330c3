use Rattle.bitblast.proofs.SumLaws.{signed_edge}
use Rattle.bitblast.proofs.sums.is_less_signed.Goals as goal

pub returns : goal.returns
returns c =
    signed_edge _ _ c.args.left.now c.args.right.now _ _ c.with_top-first.result.items c.with_top-second.result.items _ _ _ c.requires.some c.requires.widths
    c.deref.ensures.0 c.deref-2.ensures.0 c.with_top-first.ensures c.with_top-second.ensures c.in_ok-e.ensures
