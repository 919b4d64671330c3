use Rattle.bits_core.proofs.Laws.{low_is}
use Rattle.bits_core.proofs.arithmetic.low.Goals as goal

pub returns : goal.returns
returns c = low_is c.args.w c.args.x c.most-mask.result c.most-mask.ensures
