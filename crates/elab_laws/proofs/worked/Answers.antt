use Rattle.elab_laws.proofs.Small.{worked}
use Rattle.elab_laws.proofs.worked.Goals as goal

pub returns : goal.returns
returns c = worked
