use Rattle.std.proofs.Common.{arith}
use Rattle.bits_core.proofs.Laws.{shr_out}
use Rattle.bits_core.proofs.arithmetic.right.Goals as goal

pub returns-then-y-w : goal.returns-then-y-w
returns-then-y-w c = shr_out c.args.x c.args.y c.args.w c.requires.word (omega arith)
