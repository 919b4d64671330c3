use Rattle.joint_value.proofs.Elements.{first_rows_more}
use Rattle.joint_value.proofs.store.Rows.first.Goals as goal

pub loop-var-preserved : goal.loop-var-preserved
loop-var-preserved c =
    let e = first_rows_more c.args.vars.now c.loop-var.var-index c.var-item.result c.loop-var-test.true c.var-item.is in
    cc (c.in_ok-push.ensures.ok, c.in_ok-first_row.ensures)
