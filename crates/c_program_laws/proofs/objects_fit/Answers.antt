use Rattle.c_program_laws.proofs.Objects.{globals_fit}
use Rattle.c_program_laws.proofs.objects_fit.Goals as goal

pub returns : goal.returns
returns c = globals_fit
