use Rattle.std.proofs.Common.{◌≡◌, [], drop}
use Rattle.elab_declarations.specs.Overrides.{given_by_name}
use Rattle.elab_declarations.proofs.overrides.constants_by_name.Given as goal

-- what is left of the list
abbrev pub invariant-loop-c : goal.invariant-loop-c
invariant-loop-c l = given_by_name l.outer l.cs [] ≡ given_by_name l.outer (drop l.c-index l.cs) l.given
