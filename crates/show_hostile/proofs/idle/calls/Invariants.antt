use Rattle.std.proofs.Common.{◌≡◌}
use Rattle.show_hostile.specs.Idle.{copies, empty_call}
use Rattle.show_hostile.proofs.idle.calls.Given as goal

abbrev pub invariant-loop-k : goal.invariant-loop-k
invariant-loop-k l = l.items ≡ copies l.k empty_call
