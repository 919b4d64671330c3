use Rattle.c_statements.proofs.Simples.{step_case}
use Rattle.c_statements.proofs.simple.step.Goals as goal

pub returns : goal.returns
returns c =
    step_case c.args.scopes.now c.args.notes.now c.target.new.notes c.updated.new.notes c.args.path.now c.args.mark c.in_ok-aim.aim _ _ _
    c.in_ok-aim.ensures c.step_op-op.ensures c.common-ty.ensures c.in_ok-update.ensures
