use Rattle.std.proofs.Common.{refl}
use Rattle.ll_actions.specs.Examples.{SUMS}
use Rattle.ll_actions.proofs.ExampleTables.{sums_is_ll}
use Rattle.ll_actions.proofs.examples.sums.Goals as goal

pub returns : goal.returns
unfolding SUMS
returns c = record { is = refl; ll = sums_is_ll }
