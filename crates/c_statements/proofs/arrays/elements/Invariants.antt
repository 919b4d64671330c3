use Rattle.c_statements.specs.Halves.{ElementsSoFar}
use Rattle.c_statements.proofs.arrays.elements.Given as goal

abbrev pub invariant-loop-e : goal.invariant-loop-e
invariant-loop-e l = ElementsSoFar l.scopes l.fn.notes l.notes l.ty l.elements l.e-index l.typed
