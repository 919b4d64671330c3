use Rattle.c_statements.proofs.Simples.{update_case}
use Rattle.c_statements.proofs.simple.update.Goals as goal

pub returns : goal.returns
returns c =
    update_case c.args.scopes.now c.args.notes.now c.target.new.notes c.expression.new.notes c.updated.new.notes c.args.path.now c.args.mark c.args.e.now c.in_ok-aim.aim c.in_ok-x.x c.in_ok-right.right _ _ _ _
    c.in_ok-aim.ensures c.in_ok-x.ensures c.update_op-op.ensures c.update_type-ty.ensures c.amount_type-to.ensures c.in_ok-right.ensures c.in_ok-update.ensures
