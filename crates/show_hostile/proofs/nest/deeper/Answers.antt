use Rattle.std.proofs.Common.{◌∙◌}
use Rattle.show_hostile.proofs.Fitting.{deeper_as}
use Rattle.show_hostile.proofs.nest.deeper.Goals as goal

pub returns : goal.returns
returns c = deeper_as c.requires (c.in_ok-left.ensures ∙ c.number.ensures.value) c.in_ok-right.ensures c.expr.ensures
