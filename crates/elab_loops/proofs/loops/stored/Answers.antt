use Rattle.std.proofs.Common.{ap, ◌∙◌}
use Rattle.elab_names.specs.Measured.{worth_in}
use Rattle.elab_loops.specs.Loops.{cut_to_variable}
use Rattle.elab_loops.proofs.loops.stored.Goals as goal

pub returns : goal.returns
returns c = c.cut_to_variable.ensures ∙ ap cut_to_variable (c.worth_in.ensures.value ∙ ap (λ x. worth_in x c.args.m.now) c.variable_context-context.ensures.value)
