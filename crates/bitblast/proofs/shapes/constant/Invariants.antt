use Rattle.bitblast.proofs.ShapeLaws.{IsConstantSoFar}
use Rattle.bitblast.proofs.shapes.constant.Given as goal

abbrev pub invariant-loop : goal.invariant-loop
invariant-loop l = IsConstantSoFar l.net l.fn.word l.counter l.rest l.made.items
