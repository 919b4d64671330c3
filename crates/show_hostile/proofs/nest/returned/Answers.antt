use Rattle.show_hostile.proofs.Fitting.{return_as}
use Rattle.show_hostile.proofs.nest.returned.Goals as goal

pub returns : goal.returns
returns c = return_as c.requires c.in_ok-call_f.ensures c.stmt.ensures
