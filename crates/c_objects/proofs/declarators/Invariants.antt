use Rattle.c_objects.specs.Steps.{ObjectsSoFar}
use Rattle.c_objects.proofs.declarators.Given as goal

abbrev pub invariant-loop-d : goal.invariant-loop-d
invariant-loop-d l = ObjectsSoFar l.fn.typer l.typer l.fn.globals l.globals l.common.ty l.common.constant l.ds l.d-index
