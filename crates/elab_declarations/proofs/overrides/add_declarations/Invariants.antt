use Rattle.std.proofs.Common.{◌≡◌, drop}
use Rattle.std.specs.Prelude.{flat_map}
use Rattle.elab_declarations.specs.Overrides.{names_in, numbered}
use Rattle.elab_declarations.proofs.overrides.add_declarations.Given as goal

-- what is left of the list
abbrev pub invariant-loop-d : goal.invariant-loop-d
invariant-loop-d l = numbered l.initial.numbers (flat_map names_in l.declarations) ≡ numbered l.numbers (flat_map names_in (drop l.d-index l.declarations))
