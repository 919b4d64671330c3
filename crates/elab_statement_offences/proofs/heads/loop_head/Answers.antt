use Rattle.std.specs.Prelude.{◌++◌}
use Rattle.src_text.specs.declared.kind.Kind.TheVariants.{VLoopLong}
use Rattle.elab_offences.specs.Rules.{at_if}
use Rattle.elab_offences.proofs.Noting.{notes_then}
use Rattle.elab_statement_offences.specs.Heads.{start_offences, running_offences}
use Rattle.elab_statement_offences.proofs.heads.loop_head.Goals as goal

pub returns : goal.returns
returns c =
    let begun = start_offences c.args.names.now c.args.turns.now c.args.n c.args.head.now c.args.place in
    let run = running_offences c.args.names.now c.args.turns.now c.args.n c.args.head.now c.args.taken.now in
    let long = at_if c.args.long c.args.place VLoopLong in
    notes_then begun (run ++ long) _ _ _ c.in_ok-start.ensures (notes_then run long _ _ _ c.in_ok-running.ensures c.at_if.ensures)
