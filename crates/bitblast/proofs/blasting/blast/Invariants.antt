use Rattle.bitblast.specs.Making.{IsAt}
use Rattle.bitblast.proofs.blasting.blast.Given as goal

abbrev pub invariant-loop-k : goal.invariant-loop-k
invariant-loop-k l = IsAt l.terms l.list l.k l.maker
