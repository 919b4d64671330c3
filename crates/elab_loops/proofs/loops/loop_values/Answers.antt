use Rattle.elab_loops.specs.Loops.{head_holds, head_next}
use Rattle.elab_loops.proofs.Values.{values_end, values_ended, values_next}
use Rattle.elab_loops.proofs.loops.loop_values.Goals as goal

pub returns-then-not-branch : goal.returns-then-not-branch
returns-then-not-branch c =
    values_ended (head_holds c.args.names.now c.args.turns.now c.args.integer c.args.head.now) (head_next c.args.names.now c.args.turns.now c.args.integer c.args.head.now)
    _ _ _ _ _ _ c.loop-turn.invariant c.in_ok-holds.ensures c.if-not-branch.true

pub loop-turn-preserved : goal.loop-turn-preserved
loop-turn-preserved c =
    values_next (head_holds c.args.names.now c.args.turns.now c.args.integer c.args.head.now) (head_next c.args.names.now c.args.turns.now c.args.integer c.args.head.now)
    _ _ _ _ _ _ _ _ c.loop-turn-test.true c.loop-turn.invariant c.in_ok-holds.ensures c.if-not-branch.false c.in_ok-push.ensures.ok c.in_ok-value.ensures

pub returns : goal.returns
returns c =
    values_end (head_holds c.args.names.now c.args.turns.now c.args.integer c.args.head.now) (head_next c.args.names.now c.args.turns.now c.args.integer c.args.head.now)
    _ _ _ _ _ c.loop-turn-test.false c.loop-turn.invariant
