use Rattle.bitblast.proofs.Placing.{part_before}
use Rattle.bitblast.proofs.order.latest.Goals as goal

pub latest_part-requires : goal.latest_part-requires
latest_part-requires c = λ t h. part_before c.args.terms.now _ c.args.node t c.requires.fits h
