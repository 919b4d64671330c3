use Rattle.c_meaning.proofs.Fits.{expression_fits}
use Rattle.c_meaning.proofs.expressions_fit.Goals as goal

pub returns : goal.returns
returns c = expression_fits
