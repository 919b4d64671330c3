use Rattle.std.proofs.Common.{◌∙◌}
use Rattle.show_hostile.proofs.Fitting.{switch_as}
use Rattle.show_hostile.proofs.nest.in_switch.Goals as goal

pub returns : goal.returns
returns c = switch_as c.requires c.in_ok-labels.ensures c.in_ok-body.ensures (c.in_ok-value.ensures ∙ c.number.ensures.value) c.in_ok-groups.ensures c.stmt.ensures
