use Rattle.bitblast.proofs.ShapeLaws.{join_value}
use Rattle.bitblast.proofs.shapes.join.Goals as goal

pub returns-clause-value : goal.returns-clause-value
returns-clause-value c a = join_value a c.args.left.now c.args.right.now _ _ _ c.new-made.ensures c.append.ensures c.append-2.ensures
