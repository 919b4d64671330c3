use Rattle.std.proofs.Common.{refl}
use Rattle.std.specs.List.{IsDistinct}
use Rattle.show_solve.proofs.put_two.Goals as goal

pub push-requires-clause-distinct : goal.push-requires-clause-distinct
unfolding IsDistinct
push-requires-clause-distinct c = ((refl, tt), (tt, tt))
