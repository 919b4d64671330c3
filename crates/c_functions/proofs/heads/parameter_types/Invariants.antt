use Rattle.std.proofs.Common.{◌≡◌, take}
use Rattle.c_functions.specs.Heads.{parameter_types}
use Rattle.c_functions.proofs.heads.parameter_types.Given as goal

abbrev pub invariant-loop-p : goal.invariant-loop-p
invariant-loop-p l = l.types ≡ parameter_types (take l.p-index l.p-items)
