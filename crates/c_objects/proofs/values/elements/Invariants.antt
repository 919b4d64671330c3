use Rattle.c_objects.specs.Steps.{ValuesSoFar}
use Rattle.c_objects.proofs.values.elements.Given as goal

abbrev pub invariant-loop-e : goal.invariant-loop-e
invariant-loop-e l = ValuesSoFar l.scopes l.fn.notes l.notes l.ty l.es l.e-index l.values
