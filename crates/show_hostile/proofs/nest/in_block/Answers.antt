use Rattle.show_hostile.proofs.Fitting.{block_as}
use Rattle.show_hostile.proofs.nest.in_block.Goals as goal

pub returns : goal.returns
returns c = block_as c.requires c.in_ok-one.ensures c.stmt.ensures
