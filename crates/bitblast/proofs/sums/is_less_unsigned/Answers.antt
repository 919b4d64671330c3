use Rattle.std.proofs.Common.{sym}
use Rattle.bitblast.proofs.Numbers.{number_of-below}
use Rattle.bitblast.proofs.SumLaws.{below_width, less_edge}
use Rattle.bitblast.proofs.sums.is_less_unsigned.Goals as goal

pub returns : goal.returns
returns c =
    less_edge _ _ _ _ _ _ _ _ _ c.in_ok-made.ensures c.opposite.ensures.node c.opposite.ensures.value
    (λ a. number_of-below a c.args.left.now) (λ a. below_width a c.args.right.now _ (sym c.requires.widths))
