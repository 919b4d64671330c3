use Rattle.show_hostile.proofs.Fitting.{nest_as}
use Rattle.show_hostile.proofs.parts.nest.Goals as goal

pub returns : goal.returns
returns c = nest_as c.requires c.in_ok-program.ensures c.in_ok-beside_nothing.ensures
