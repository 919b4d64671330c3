use Rattle.std.proofs.Common.{ap, ◌∙◌}
use Rattle.elab_names.specs.Measured.{constant_of, worth_of}
use Rattle.elab_loops.specs.Loops.{is_true_worth}
use Rattle.elab_loops.proofs.loops.holds.Goals as goal

pub returns : goal.returns
returns c =
    c.is_true_worth.ensures ∙ ap (λ s. is_true_worth (worth_of s)) (c.in_ok-condition.ensures ∙ ap (λ t. constant_of c.args.names.now t c.args.head.now.condition) (c.as_slice.ensures ∙ c.in_ok-inside.ensures))
