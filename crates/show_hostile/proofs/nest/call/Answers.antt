use Rattle.show_hostile.proofs.Fitting.{call_as}
use Rattle.show_hostile.proofs.nest.call.Goals as goal

pub returns : goal.returns
returns c = call_as c.requires c.in_ok-call_f.ensures c.stmt.ensures
