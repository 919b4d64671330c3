use Rattle.c_text_programs.proofs.Programs.{programs_of_texts_fit}
use Rattle.c_text_programs.proofs.programs_of_texts_fit.Goals as goal

pub returns : goal.returns
returns c = programs_of_texts_fit
