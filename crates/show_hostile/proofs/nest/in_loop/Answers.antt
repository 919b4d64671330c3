use Rattle.std.proofs.Common.{◌∙◌}
use Rattle.show_hostile.proofs.Fitting.{loop_as}
use Rattle.show_hostile.proofs.nest.in_loop.Goals as goal

pub returns : goal.returns
returns c = loop_as c.args.tests_first c.requires c.new-heads.ensures (c.in_ok-test.ensures ∙ c.number.ensures.value) c.in_ok-body.ensures c.stmt.ensures
