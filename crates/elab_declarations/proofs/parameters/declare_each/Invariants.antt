use Rattle.std.proofs.Common.{◌≡◌, drop}
use Rattle.elab_declarations.specs.Parameters.{with_parameters}
use Rattle.elab_declarations.proofs.parameters.declare_each.Given as goal

-- what is left of the parameters, from the names so far
abbrev pub invariant-loop-p : goal.invariant-loop-p
invariant-loop-p l =
    with_parameters l.overrides l.form l.parameters l.initial.names ≡ with_parameters l.overrides l.form (drop l.p-index l.parameters) l.names
