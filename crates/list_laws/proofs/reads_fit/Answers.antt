use Rattle.list_laws.proofs.Reading.{reads_are_fit}
use Rattle.list_laws.proofs.reads_fit.Goals as goal

pub returns : goal.returns
returns c = reads_are_fit
