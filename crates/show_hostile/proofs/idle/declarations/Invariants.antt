use Rattle.std.proofs.Common.{◌≡◌}
use Rattle.show_hostile.specs.Idle.{declares}
use Rattle.show_hostile.proofs.idle.declarations.Given as goal

abbrev pub invariant-loop-x : goal.invariant-loop-x
invariant-loop-x l = l.items ≡ declares 0 l.x
