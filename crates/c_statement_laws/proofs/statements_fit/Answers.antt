use Rattle.c_statement_laws.proofs.Statements.{statement_fits}
use Rattle.c_statement_laws.proofs.statements_fit.Goals as goal

pub returns : goal.returns
returns c = statement_fits
