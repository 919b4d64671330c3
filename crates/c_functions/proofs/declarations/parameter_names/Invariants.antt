use Rattle.c_functions.specs.Steps.{NamesSoFar}
use Rattle.c_functions.proofs.declarations.parameter_names.Given as goal

abbrev pub invariant-loop-p : goal.invariant-loop-p
invariant-loop-p l = NamesSoFar l.fn.typer l.typer l.ps l.p-index
