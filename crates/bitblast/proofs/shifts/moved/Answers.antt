use Rattle.bitblast.proofs.ShiftLaws.{moved_left_value, moved_right_value}
use Rattle.bitblast.proofs.shifts.moved.Goals as goal

pub returns-in-Left-clause-value : goal.returns-in-Left-clause-value
returns-in-Left-clause-value c = moved_left_value c.args.direction c.args.word.now _ c.args.amount _ c.in-Left.is c.requires.amount c.moved_left.ensures

pub returns-in-Right-clause-value : goal.returns-in-Right-clause-value
returns-in-Right-clause-value c = moved_right_value c.args.direction c.args.word.now _ c.args.amount _ c.in-Right.is c.requires.amount c.moved_right.ensures
