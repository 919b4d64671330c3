use Rattle.std.proofs.Common.{refl}
use Rattle.c_grammar.specs.Table.{TABLE}
use Rattle.c_grammar.proofs.Fit.{c_is_ll, has_productions}
use Rattle.c_grammar.proofs.table.Goals as goal

pub returns : goal.returns
unfolding TABLE
returns c = record { is = refl; ll = c_is_ll; productions = has_productions }
