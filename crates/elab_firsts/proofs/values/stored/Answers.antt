use Rattle.std.proofs.Common.{ap, ◌∙◌}
use Rattle.elab_names.specs.Measured.{worth_in}
use Rattle.elab_firsts.specs.Values.{low_value}
use Rattle.elab_firsts.proofs.values.stored.Goals as goal

pub returns : goal.returns
returns c = c.low_value.ensures ∙ ap (low_value c.args.bits) (c.worth_in.ensures.value ∙ ap (λ x. worth_in x c.args.m.now) c.assigned_context-context.ensures.value)
