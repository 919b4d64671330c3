use Rattle.show_hostile.proofs.Fitting.{number_as}
use Rattle.show_hostile.proofs.parts.number.Goals as goal

pub returns-clause-fits : goal.returns-clause-fits
returns-clause-fits c = number_as c.expr.ensures
