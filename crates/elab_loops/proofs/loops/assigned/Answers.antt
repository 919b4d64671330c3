use Rattle.std.proofs.Common.{ap, ◌∙◌}
use Rattle.elab_loops.specs.Loops.{stored}
use Rattle.elab_loops.proofs.loops.assigned.Goals as goal

pub returns : goal.returns
returns c = c.stored.ensures ∙ ap stored c.in_ok-m.ensures
