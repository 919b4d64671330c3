use Rattle.std.proofs.Common.{refl}
use Rattle.ll_parse.specs.Examples.{CONDITIONAL}
use Rattle.ll_parse.proofs.ExampleTables.{conditional_is_ll}
use Rattle.ll_parse.proofs.examples.conditional.Goals as goal

pub returns : goal.returns
unfolding CONDITIONAL
returns c = record { is = refl; ll = conditional_is_ll }
