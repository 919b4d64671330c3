use Rattle.std.proofs.Common.{◌∙◌}
use Rattle.bits_core.proofs.Laws.{mod_again}
use Rattle.bits_core.proofs.arithmetic.sum.Goals as goal

pub returns : goal.returns
returns c = c.low.ensures ∙ mod_again _ _ c.requires.width
