use Rattle.std.proofs.Common.{◌≡◌, drop}
use Rattle.std.specs.Prelude.{flat_map}
use Rattle.offence_order.specs.Order.{first_of}
use Rattle.elab_offences.specs.Targets.{target_offences}
use Rattle.elab_offences.proofs.targets.+parts.Given as goal

-- after some parts: what is wrong with the others is still to be noted
abbrev pub invariant-targets-loop-t : goal.invariant-targets-loop-t
invariant-targets-loop-t l =
    first_of l.initial.first.found (flat_map (target_offences l.names l.turns l.register) l.ts) ≡ first_of l.first.found (flat_map (target_offences l.names l.turns l.register) (drop l.t-index l.ts))
