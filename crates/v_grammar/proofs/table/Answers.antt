use Rattle.std.proofs.Common.{refl}
use Rattle.v_grammar.specs.Verilog.{VERILOG}
use Rattle.v_grammar.proofs.Fit.{verilog_is_ll, has_productions}
use Rattle.v_grammar.proofs.table.Goals as goal

pub returns : goal.returns
unfolding VERILOG
returns c = record { is = refl; ll = verilog_is_ll; productions = has_productions }
