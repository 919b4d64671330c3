use Rattle.show_hostile.proofs.Fitting.{for_as}
use Rattle.show_hostile.proofs.nest.in_for.Goals as goal

pub returns : goal.returns
returns c = for_as c.requires c.new-heads.ensures c.in_ok-body.ensures c.stmt.ensures
