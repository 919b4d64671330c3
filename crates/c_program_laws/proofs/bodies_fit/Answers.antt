use Rattle.c_program_laws.proofs.Functions.{bodies_fit}
use Rattle.c_program_laws.proofs.bodies_fit.Goals as goal

pub returns : goal.returns
returns c = bodies_fit
