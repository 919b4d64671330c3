use Rattle.std.proofs.Common.{◌≡◌, drop}
use Rattle.std.specs.Prelude.{flat_map}
use Rattle.offence_order.specs.Order.{first_of}
use Rattle.elab_statement_offences.specs.Heads.{turn_offences}
use Rattle.elab_statement_offences.proofs.heads.each_turn.Given as goal

-- after some turns: what is wrong with the others is still to be noted
abbrev pub invariant-loop-v : goal.invariant-loop-v
invariant-loop-v l =
    first_of l.initial.first.found (flat_map (turn_offences l.names l.turns l.n l.head) l.taken) ≡ first_of l.first.found (flat_map (turn_offences l.names l.turns l.n l.head) (drop l.v-index l.taken))
