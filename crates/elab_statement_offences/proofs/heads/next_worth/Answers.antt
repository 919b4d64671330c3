use Rattle.std.proofs.Common.{ap, ◌∙◌}
use Rattle.elab_loops.specs.Loops.{assigned}
use Rattle.elab_statement_offences.proofs.heads.next_worth.Goals as goal

pub returns : goal.returns
returns c = c.in_ok-w.ensures ∙ ap (λ t. assigned c.args.names.now t c.args.head.now.step.value) (c.as_slice.ensures ∙ c.in_ok-inside.ensures)
