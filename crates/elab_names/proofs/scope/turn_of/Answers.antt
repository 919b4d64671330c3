use Rattle.elab_names.proofs.Turns.{turn_here}
use Rattle.elab_names.proofs.scope.turn_of.Goals as goal

pub returns-then-turn-integer : goal.returns-then-turn-integer
returns-then-turn-integer c = turn_here _ _ _ c.turn-item.result _ c.loop-turn-test.true c.turn-item.is c.loop-turn.invariant c.if-turn-integer.true
