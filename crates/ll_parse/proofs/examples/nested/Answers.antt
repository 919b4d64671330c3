use Rattle.std.proofs.Common.{refl}
use Rattle.ll_parse.specs.Examples.{NESTED}
use Rattle.ll_parse.proofs.ExampleTables.{nested_is_ll}
use Rattle.ll_parse.proofs.examples.nested.Goals as goal

pub returns : goal.returns
unfolding NESTED
returns c = record { is = refl; ll = nested_is_ll }
