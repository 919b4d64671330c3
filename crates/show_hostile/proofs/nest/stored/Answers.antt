use Rattle.show_hostile.proofs.Fitting.{store_as}
use Rattle.show_hostile.proofs.nest.stored.Goals as goal

pub returns : goal.returns
returns c = store_as c.requires c.in_ok-call_f.ensures c.stmt.ensures
