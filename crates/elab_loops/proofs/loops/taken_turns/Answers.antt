use Rattle.std.proofs.Common.{ap, ◌∙◌}
use Rattle.elab_loops.specs.Loops.{turns_of}
use Rattle.elab_loops.proofs.loops.taken_turns.Goals as goal

pub returns : goal.returns
returns c = c.turns_of.ensures ∙ ap turns_of c.in_ok-values.ensures
