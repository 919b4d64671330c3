use Rattle.std.proofs.Common.{ap, ◌∙◌}
use Rattle.offence_order.specs.Order.{first_of}
use Rattle.elab_statement_offences.specs.Heads.{condition_offences}
use Rattle.elab_statement_offences.proofs.heads.first_condition.Goals as goal

pub returns : goal.returns
returns c =
    c.in_ok-condition.ensures ∙ ap (λ w. first_of c.args.first.now.found (condition_offences c.args.names.now c.args.turns.now c.args.n c.args.head.now w)) c.in_ok-w.ensures
