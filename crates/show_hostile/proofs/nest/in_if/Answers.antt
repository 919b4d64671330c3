use Rattle.std.proofs.Common.{◌∙◌}
use Rattle.show_hostile.proofs.Fitting.{if_as}
use Rattle.show_hostile.proofs.nest.in_if.Goals as goal

pub returns : goal.returns
returns c = if_as c.requires (c.in_ok-test.ensures ∙ c.number.ensures.value) c.in_ok-body.ensures c.stmt.ensures
