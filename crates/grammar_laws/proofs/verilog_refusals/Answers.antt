use Rattle.grammar_laws.proofs.VerilogRefused.{verilog_refusals}
use Rattle.grammar_laws.proofs.verilog_refusals.Goals as goal

pub returns : goal.returns
returns c = verilog_refusals
