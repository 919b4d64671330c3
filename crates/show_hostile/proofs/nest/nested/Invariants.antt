use Rattle.show_hostile.specs.Nests.{IsNest}
use Rattle.show_hostile.proofs.nest.nested.Given as goal

abbrev pub invariant-loop : goal.invariant-loop
invariant-loop l = IsNest l.s
