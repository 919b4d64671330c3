use Rattle.std.proofs.Common.{◌≡◌}
use Rattle.show_hostile.specs.Idle.{copies, array}
use Rattle.show_hostile.proofs.idle.arrays.Given as goal

abbrev pub invariant-loop-k : goal.invariant-loop-k
invariant-loop-k l = l.vars ≡ copies l.k array
