use Rattle.c_statement_laws.proofs.Inits.{init_fits}
use Rattle.c_statement_laws.proofs.initializers_fit.Goals as goal

pub returns : goal.returns
returns c = init_fits
