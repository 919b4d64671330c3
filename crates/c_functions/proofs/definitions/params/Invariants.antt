use Rattle.c_functions.specs.Steps.{ParamsSoFar}
use Rattle.c_functions.proofs.definitions.params.Given as goal

abbrev pub invariant-loop-p : goal.invariant-loop-p
invariant-loop-p l = ParamsSoFar l.fn.typer l.typer l.ps l.p-index
