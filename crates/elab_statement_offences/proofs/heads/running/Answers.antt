use Rattle.elab_loops.specs.Loops.{assigned}
use Rattle.elab_offences.proofs.Noting.{notes_then}
use Rattle.elab_statement_offences.specs.Heads.{condition_offences, turns_offences}
use Rattle.elab_statement_offences.proofs.heads.running.Goals as goal

pub returns : goal.returns
returns c =
    notes_then (condition_offences c.args.names.now c.args.turns.now c.args.n c.args.head.now (assigned c.args.names.now c.args.turns.now c.args.head.now.start.value)) (turns_offences c.args.names.now c.args.turns.now c.args.n c.args.head.now c.args.taken.now) _ _ _
    c.in_ok-first_condition.ensures c.in_ok-all_turns.ensures
