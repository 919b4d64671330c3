use Rattle.std.proofs.Common.{◌≡◌, ◌++◌}
use Rattle.show_hostile.specs.Checks.{checks}
use Rattle.show_hostile.specs.Nests.{properties_of}
use Rattle.show_hostile.proofs.asserts.properties.Given as goal

abbrev pub invariant-loop-k : goal.invariant-loop-k
invariant-loop-k l = l.props ≡ properties_of ++ checks 1 l.k
