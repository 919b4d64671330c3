use Rattle.std.specs.List.{IsDistinct}
use Rattle.show_solve.proofs.smallest.Goals as goal

pub push-requires-clause-distinct : goal.push-requires-clause-distinct
unfolding IsDistinct
push-requires-clause-distinct g c = tt
