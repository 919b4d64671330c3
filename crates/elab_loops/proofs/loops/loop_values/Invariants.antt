use Rattle.std.proofs.Common.{◌≡◌, ◌-◌, ◌++◌}
use Rattle.elab_loops.specs.Loops.{loop_values, head_holds, head_next}
use Rattle.elab_loops.proofs.loops.loop_values.Given as goal

abbrev pub invariant-loop-turn : goal.invariant-loop-turn
invariant-loop-turn l =
    let holds = head_holds l.names l.turns l.integer l.head in
    let step = head_next l.names l.turns l.integer l.head in
    loop_values holds step l.most l.fn.first ≡ l.values ++ loop_values holds step (l.most - l._turn) l.value
