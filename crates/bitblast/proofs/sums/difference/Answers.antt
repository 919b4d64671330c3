use Rattle.std.proofs.Common.{sym}
use Rattle.bitblast.proofs.SumLaws.{difference_sum}
use Rattle.bitblast.proofs.sums.difference.Goals as goal

pub returns : goal.returns
returns c =
    difference_sum _ _ _ _ c.args.left.now c.args.right.now c.inverted-turned.result.items _ _ _ _ c.deref.ensures.0 (sym c.requires.widths) c.inverted-turned.ensures.value
    c.truth-one.ensures.value c.in_ok-made.ensures
