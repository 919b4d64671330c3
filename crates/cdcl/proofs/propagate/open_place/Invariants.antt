use Rattle.cdcl.specs.Watched.{AreFalseBut}
use Rattle.cdcl.proofs.propagate.open_place.Given as goal

abbrev pub invariant-loop-place : goal.invariant-loop-place
invariant-loop-place l = AreFalseBut l.trail.lits.items l.clause l.other l.fn.from l.place
