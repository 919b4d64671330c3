use Rattle.reader_laws.proofs.Answers.{one_verilog_answer, one_c_answer}
use Rattle.reader_laws.proofs.one_answer.Goals as goal

pub returns-clause-verilog : goal.returns-clause-verilog
returns-clause-verilog c = one_verilog_answer

pub returns-clause-c : goal.returns-clause-c
returns-clause-c c = one_c_answer
