use Rattle.std.proofs.Common.{◌≡◌, ◌+◌, sym, subst, arith}
use Rattle.std.specs.Prelude.{All, pos, slice_index_or}
use Rattle.joint_ir.specs.States.{element_count}
use Rattle.joint_ir.specs.Types.{InRange}
use Rattle.unwind_state.proofs.Gates.{adds_none, adds_then}
use Rattle.unwind.specs.Rows.{IsElement, ArePart}
use Rattle.unwind.proofs.Parts.{element_kept, part_none, part_more, row_made, count_one, count_many}
use Rattle.unwind.proofs.rows.row.Goals as goal
use Rattle.unwind.proofs.rows.row.Goals.{then-var-eq0, else-var-eq0}

pub loop-k-init : goal.loop-k-init
loop-k-init c =
    let e = c.in_ok-zero.ensures in
    record {
      adds = e.adds;
      zero = element_kept c.args.net.now c.literal.new.net c.literal.new.net c.args.var.now.ty c.in_ok-zero.zero (pos 0) (adds_none c.literal.new.net e.adds.proper) e;
      part = subst (ArePart c.literal.new.net.terms c.args.var.now 0) (sym c.new-ids.ensures) (part_none c.literal.new.net.terms c.args.var.now);
    }

pub element-requires-clause-within : goal.element-requires-clause-within
element-requires-clause-within c = subst (λ l. All (InRange c.args.var.now.ty) l) (sym c.as_slice-firsts.ensures) c.requires.firsts

pub loop-k-preserved : goal.loop-k-preserved
loop-k-preserved c =
    let x = c.args.var.now in
    let e = subst (λ l. IsElement c.loop-k.net c.element.new.net x.ty c.in_ok-t.t (slice_index_or l c.loop-k.k (pos 0))) c.as_slice-firsts.ensures c.in_ok-t.ensures in
    record {
      adds = adds_then c.args.net.now c.loop-k.net c.element.new.net c.loop-k.invariant.adds e.adds;
      zero = element_kept c.loop-k.net c.loop-k.net c.element.new.net x.ty c.in_ok-zero.zero (pos 0) e.adds c.loop-k.invariant.zero;
      part = subst (ArePart c.element.new.net.terms x (c.loop-k.k + 1)) (sym c.in_ok-push.ensures.ok)
          (part_more c.loop-k.net c.element.new.net x c.loop-k.k c.loop-k.ids c.in_ok-t.t c.loop-k.invariant.part e);
    }

pub returns : goal.returns
returns c =
    let count : c.if-var-eq0.count ≡ element_count c.args.var.now.length = elim c.if-var-eq0.branch [
      | then-var-eq0 w ↦ count_one _ _ w.if-var-eq0.true w.count-is
      | else-var-eq0 w ↦ count_many _ _ w.if-var-eq0.false w.count-is
    ] in
    let all : c.loop-k.k ≡ c.if-var-eq0.count = omega (arith, c.loop-k-test.false, c.loop-k.auto.k-end) in
    row_made c.args.net.now c.loop-k.net c.args.var.now c.if-var-eq0.count c.loop-k.k c.loop-k.ids c.loop-k.invariant.adds count all c.loop-k.invariant.part
