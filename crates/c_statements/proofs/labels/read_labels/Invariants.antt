use Rattle.c_statements.specs.Halves.{LabelsSoFar}
use Rattle.c_statements.proofs.labels.read_labels.Given as goal

abbrev pub invariant-loop-l : goal.invariant-loop-l
invariant-loop-l l = LabelsSoFar l.scopes l.fn.notes l.notes l.ty l.labels l.l-index l.fn.seen l.seen l.typed
