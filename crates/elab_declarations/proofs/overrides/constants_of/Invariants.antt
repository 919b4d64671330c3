use Rattle.std.proofs.Common.{◌≡◌, take, map}
use Rattle.elab_declarations.specs.Values.{given_constant}
use Rattle.elab_declarations.proofs.overrides.constants_of.Given as goal

abbrev pub invariant-loop-e : goal.invariant-loop-e
invariant-loop-e l = l.constants ≡ map (given_constant l.outer) (take l.e-index l.es)
