use Rattle.std.proofs.Common.{[], ◌+◌, take, sym, subst}
use Rattle.std.proofs.lemmas.List.{take_all}
use Rattle.joint_ir.specs.WellFormed.{FitsVar}
use Rattle.unwind_state.proofs.Gates.{adds_none, adds_then}
use Rattle.unwind.specs.Rows.{AreRows}
use Rattle.unwind.proofs.Parts.{rows_more, rows_kept}
use Rattle.unwind.proofs.rows.rows.Goals as goal

pub loop-var-init : goal.loop-var-init
loop-var-init c = record {
  adds = adds_none c.args.net.now c.len.ensures.proper;
  rows = subst (AreRows c.args.net.now.terms []) (sym c.new-rows.ensures.items) tt;
}

pub row-requires : goal.row-requires
row-requires c = subst FitsVar (sym c.var-item.is) (c.requires c.loop-var.var-index c.var-item.result c.loop-var-test.true)

pub loop-var-preserved : goal.loop-var-preserved
loop-var-preserved c =
    let i = c.loop-var.var-index in
    let r = c.in_ok-ids.ensures in
    record {
      adds = adds_then c.args.net.now c.loop-var.net c.row.new.net c.loop-var.invariant.adds r.adds;
      rows = subst (AreRows c.row.new.net.terms (take (i + 1) c.args.vars.now)) (sym c.in_ok-push.ensures.items)
          (rows_more c.row.new.net.terms c.args.vars.now c.loop-var.rows.items i c.var-item.result c.in_ok-ids.ids c.loop-var-test.true c.var-item.is
          (rows_kept c.loop-var.net c.row.new.net (take i c.args.vars.now) c.loop-var.rows.items r.adds c.loop-var.invariant.rows) r.row);
    }

pub returns : goal.returns
returns c = record {
  adds = c.loop-var.invariant.adds;
  all = subst (λ l. AreRows c.loop-var.net.terms l c.loop-var.rows.items) (take_all c.loop-var.var-index c.args.vars.now c.loop-var-test.false) c.loop-var.invariant.rows;
}
