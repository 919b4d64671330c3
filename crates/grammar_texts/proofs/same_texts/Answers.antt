use Rattle.grammar_texts.proofs.Both.{c_same, verilog_same}
use Rattle.grammar_texts.proofs.same_texts.Goals as goal

pub returns-clause-c : goal.returns-clause-c
returns-clause-c c = c_same

pub returns-clause-verilog : goal.returns-clause-verilog
returns-clause-verilog c = verilog_same
