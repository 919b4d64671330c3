use Rattle.show_hostile.specs.Nests.{IsNumber}
use Rattle.show_hostile.proofs.nest.expression.Given as goal

abbrev pub invariant-loop : goal.invariant-loop
invariant-loop l = IsNumber l.e
