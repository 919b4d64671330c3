use Rattle.std.proofs.Common.{sym}
use Rattle.bitblast.proofs.SumLaws.{below_width, difference_mod, sum_word}
use Rattle.bitblast.proofs.sums.subtract.Goals as goal

pub returns : goal.returns
returns c =
    sum_word _ _ _ _ _ _ _ _ c.in_ok-made.ensures (λ a r. difference_mod _ _ _ (below_width a c.args.right.now _ (sym c.requires.widths)))
