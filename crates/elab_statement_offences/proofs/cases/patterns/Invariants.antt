use Rattle.std.proofs.Common.{◌≡◌, drop}
use Rattle.std.specs.Prelude.{flat_map}
use Rattle.offence_order.specs.Order.{first_of}
use Rattle.elab_statement_offences.specs.Cases.{pattern_offences}
use Rattle.elab_statement_offences.proofs.cases.patterns.Given as goal

-- after some values: what is wrong with the others is still to be noted
abbrev pub invariant-loop-e : goal.invariant-loop-e
invariant-loop-e l =
    first_of l.initial.first.found (flat_map (pattern_offences l.names l.turns l.kind) l.values) ≡ first_of l.first.found (flat_map (pattern_offences l.names l.turns l.kind) (drop l.e-index l.values))
