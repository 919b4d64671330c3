use Rattle.bitblast.proofs.ShapeLaws.{slice_value}
use Rattle.bitblast.proofs.shapes.slice.Goals as goal

pub returns-clause-value : goal.returns-clause-value
returns-clause-value c a = slice_value a c.args.word.now _ _ c.args.high c.args.low c.new-made.ensures c.append.ensures c.requires.order c.requires.high
