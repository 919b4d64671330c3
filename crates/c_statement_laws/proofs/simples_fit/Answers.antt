use Rattle.c_statement_laws.proofs.Simples.{simple_fits}
use Rattle.c_statement_laws.proofs.simples_fit.Goals as goal

pub returns : goal.returns
returns c = simple_fits
