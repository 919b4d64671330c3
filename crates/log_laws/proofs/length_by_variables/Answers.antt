use Rattle.log_laws.proofs.Length.{length_law, open_law}
use Rattle.log_laws.proofs.length_by_variables.Goals as goal

pub returns : goal.returns
returns c = record { length = length_law; unended = open_law }
