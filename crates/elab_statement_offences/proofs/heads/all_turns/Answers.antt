use Rattle.std.proofs.Common.{ap, ◌∙◌}
use Rattle.std.specs.Prelude.{flat_map, length, eqb}
use Rattle.offence_order.specs.Order.{first_of}
use Rattle.elab_offences.proofs.Noting.{notes_then}
use Rattle.elab_statement_offences.specs.Heads.{idle_offences, turn_offences}
use Rattle.elab_statement_offences.proofs.heads.all_turns.Goals as goal

pub returns : goal.returns
returns c =
    notes_then (idle_offences c.args.names.now c.args.turns.now c.args.n c.args.head.now (eqb (length c.args.taken.now) 0)) (flat_map (turn_offences c.args.names.now c.args.turns.now c.args.n c.args.head.now) c.args.taken.now) _ _ _
    (c.in_ok-idle.ensures ∙ ap (λ b. first_of c.args.first.now.found (idle_offences c.args.names.now c.args.turns.now c.args.n c.args.head.now b)) c.is_idle-none.ensures) c.in_ok-each_turn.ensures
