use Rattle.named_breaks.proofs.Runs.{break_named}
use Rattle.named_breaks.proofs.named_breaks.Goals as goal

pub returns : goal.returns
returns c = break_named
