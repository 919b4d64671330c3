use Rattle.elab_offences.proofs.Noting.{listed_next, listed_end}
use Rattle.elab_statement_offences.specs.Heads.{turn_offences}
use Rattle.elab_statement_offences.proofs.heads.each_turn.Goals as goal

pub loop-v-preserved : goal.loop-v-preserved
loop-v-preserved c =
    listed_next (turn_offences c.args.names.now c.args.turns.now c.args.n c.args.head.now) c.args.taken.now c.loop-v.v-index _ _ c.loop-v.invariant c.v-item.result _ _ c.loop-v-test.true c.v-item.is c.in_ok-turn.ensures

pub returns : goal.returns
returns c =
    listed_end (turn_offences c.args.names.now c.args.turns.now c.args.n c.args.head.now) c.args.taken.now c.loop-v.v-index _ _ c.loop-v.invariant c.loop-v-test.false
