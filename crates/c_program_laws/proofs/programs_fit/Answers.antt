use Rattle.c_program_laws.proofs.Programs.{programs_fit}
use Rattle.c_program_laws.proofs.programs_fit.Goals as goal

pub returns : goal.returns
returns c = programs_fit
