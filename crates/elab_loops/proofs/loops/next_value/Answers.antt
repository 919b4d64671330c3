use Rattle.std.proofs.Common.{ap, ◌∙◌}
use Rattle.elab_loops.specs.Loops.{assigned, or_nought}
use Rattle.elab_loops.proofs.loops.next_value.Goals as goal

pub returns : goal.returns
returns c =
    c.or_nought.ensures ∙ ap or_nought (c.in_ok-next.ensures ∙ ap (λ t. assigned c.args.names.now t c.args.head.now.step.value) (c.as_slice.ensures ∙ c.in_ok-inside.ensures))
