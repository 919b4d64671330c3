use Rattle.std.proofs.Common.{◌∙◌, arith}
use Rattle.bits_core.proofs.Laws.{mod_again, shl_out}
use Rattle.bits_core.proofs.arithmetic.left.Goals as goal

pub returns-then-y-w : goal.returns-then-y-w
returns-then-y-w c = shl_out c.args.x c.args.y c.args.w (omega arith)

pub returns : goal.returns
returns c = c.low.ensures ∙ mod_again _ _ c.requires.width
