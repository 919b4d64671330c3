use Rattle.std.proofs.Common.{◌≡◌}
use Rattle.show_hostile.specs.Checks.{assertions}
use Rattle.show_hostile.proofs.asserts.all_assertions.Given as goal

abbrev pub invariant-loop-k : goal.invariant-loop-k
invariant-loop-k l = l.items ≡ assertions 3 l.k
