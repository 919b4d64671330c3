use Rattle.bitblast.proofs.ShiftSteps.{unsigned_shift_word}
use Rattle.bitblast.proofs.operations.operate2.Goals as goal

pub returns-in_ok-made-in-ShrU : goal.returns-in_ok-made-in-ShrU
returns-in_ok-made-in-ShrU c = unsigned_shift_word c.args.op _ _ c.args.left.now c.args.right.now _ c.in-ShrU.is c.in_ok-made-in-ShrU.ensures
