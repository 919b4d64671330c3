use Rattle.std.proofs.Common.{◌≡◌, drop}
use Rattle.std.specs.Prelude.{flat_map}
use Rattle.offence_order.specs.Order.{first_of}
use Rattle.elab_offences.specs.Expressions.{part_offences}
use Rattle.elab_offences.proofs.expressions.+parts.Given as goal

-- after some parts: what is wrong with the others is still to be noted
abbrev pub invariant-parts-loop-p : goal.invariant-parts-loop-p
invariant-parts-loop-p l =
    first_of l.initial.first.found (flat_map (part_offences l.names l.turns l.fixed) l.ps) ≡ first_of l.first.found (flat_map (part_offences l.names l.turns l.fixed) (drop l.p-index l.ps))
