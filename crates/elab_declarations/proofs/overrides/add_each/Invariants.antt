use Rattle.std.proofs.Common.{◌≡◌, drop, map}
use Rattle.elab_declarations.specs.Overrides.{name_of, numbered}
use Rattle.elab_declarations.proofs.overrides.add_each.Given as goal

-- what is left of the parameters
abbrev pub invariant-loop-p : goal.invariant-loop-p
invariant-loop-p l = numbered l.initial.numbers (map name_of l.parameters) ≡ numbered l.numbers (map name_of (drop l.p-index l.parameters))
