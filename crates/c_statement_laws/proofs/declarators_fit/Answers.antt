use Rattle.c_statement_laws.proofs.Declaring.{declarators_fit}
use Rattle.c_statement_laws.proofs.declarators_fit.Goals as goal

pub returns : goal.returns
returns c = declarators_fit
