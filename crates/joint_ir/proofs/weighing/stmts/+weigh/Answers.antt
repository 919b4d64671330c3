use Rattle.std.proofs.Common.{◌+◌, ◌-◌, ◌*◌, List, ℕ, length, ap, ◌∙◌, sym}
use Rattle.joint_ir.specs.Weights.{capped, weight, condition_weight, calls_weight, turns_weight}
use Rattle.joint_ir.specs.Weighed.{setting_of, calls_of, stmts_weight, option_stmt_weight}
use Rattle.joint_ir.specs.declared.stmt.TLoop.{out-TLoop}
use Rattle.joint_ir.proofs.StmtWeights.{weight-block, weight-if, weight-switch, weight-loop, stmts_more, groups_more, callee_is, cap_block, cap_if, cap_switch, cap_option, cap_over, cap_heads, cap_loop, cap_callee}
use Rattle.joint_ir.proofs.weighing.stmts.+weigh.Goals as goal

pub stmt-returns-in-Block-clause-value : goal.stmt-returns-in-Block-clause-value
stmt-returns-in-Block-clause-value t c =
    cap_block _ _ _ _ c.stmts.ensures.value c.capped.ensures.value
    (weight-block (setting_of c.args.at.now) (calls_of c.args.at.now c.args.standing.now) c.args.s.now.node _ _ c.in-Block.is c.as_slice.ensures)

pub stmt-returns-in-If-clause-value : goal.stmt-returns-in-If-clause-value
stmt-returns-in-If-clause-value t c =
    cap_if _ _ _ _ _ _ _ _ _ c.expr-test.ensures.value c.stmt-own.ensures.value c.option-rest.ensures.value c.capped-in-If.ensures.value
    (weight-if (setting_of c.args.at.now) (calls_of c.args.at.now c.args.standing.now) c.args.s.now.node _ _ _ _ _ c.in-If.is c.get-e.ensures c.get.ensures)

pub stmt-returns-in-Switch-clause-value : goal.stmt-returns-in-Switch-clause-value
stmt-returns-in-Switch-clause-value t c =
    cap_switch _ _ _ _ _ _ c.expr-test-in-Switch.ensures.value c.groups-own.ensures.value c.capped-in-Switch.ensures.value
    (weight-switch (setting_of c.args.at.now) (calls_of c.args.at.now c.args.standing.now) c.args.s.now.node _ _ _ _ c.in-Switch.is c.get-e-in-Switch.ensures c.as_slice-in-Switch.ensures)

pub option-returns-else-first-eq16777217-clause-value : goal.option-returns-else-first-eq16777217-clause-value
option-returns-else-first-eq16777217-clause-value t c =
    cap_option c.args.first _ _ _ (c.stmt.ensures.value ∙ ap (λ s. capped (weight (setting_of c.args.at.now) (calls_of c.args.at.now c.args.standing.now) s.node)) c.get.ensures) c.capped.ensures.value
    ∙ ap (λ o. capped (c.args.first + option_stmt_weight (setting_of c.args.at.now) (calls_of c.args.at.now c.args.standing.now) o)) (sym c.in-Some.is)

pub stmts-loop-s-preserved : goal.stmts-loop-s-preserved
stmts-loop-s-preserved t c = record {
  total = stmts_more (setting_of c.args.at.now) (calls_of c.args.at.now c.args.standing.now) c.args.items.now c.loop-s.s-index c.s-item.result _ _ _ _
      c.loop-s-test.true c.s-item.is c.loop-s.invariant.total c.stmt.ensures.value c.capped-total.ensures.value;
  bound = c.capped-total.ensures.bound;
}

pub stmts-returns-then-total-eq16777217-clause-value : goal.stmts-returns-then-total-eq16777217-clause-value
stmts-returns-then-total-eq16777217-clause-value t c =
    cap_over _ _ _
    (stmts_more (setting_of c.args.at.now) (calls_of c.args.at.now c.args.standing.now) c.args.items.now c.loop-s.s-index c.s-item.result _ _ _ _
    c.loop-s-test.true c.s-item.is c.loop-s.invariant.total c.stmt.ensures.value c.capped-total.ensures.value)
    c.if-total-eq16777217.true

pub groups-loop-group-preserved : goal.groups-loop-group-preserved
groups-loop-group-preserved t c = record {
  total = groups_more (setting_of c.args.at.now) (calls_of c.args.at.now c.args.standing.now) c.args.bits c.args.cases.now c.loop-group.group-index c.group-item.result _ _ _ _ _
      c.loop-group-test.true c.group-item.is c.loop-group.invariant.total
      (c.labels-labels.ensures.value ∙ ap (λ l. capped (length l * (4 * c.args.bits + 16))) c.as_slice.ensures)
      (c.stmts-own.ensures.value ∙ ap (λ l. capped (stmts_weight (setting_of c.args.at.now) (calls_of c.args.at.now c.args.standing.now) l)) c.as_slice-in-loop-group.ensures)
      c.capped-total.ensures.value;
  bound = c.capped-total.ensures.bound;
}

pub groups-returns-then-total-eq16777217-clause-value : goal.groups-returns-then-total-eq16777217-clause-value
groups-returns-then-total-eq16777217-clause-value t c =
    cap_over _ _ _
    (groups_more (setting_of c.args.at.now) (calls_of c.args.at.now c.args.standing.now) c.args.bits c.args.cases.now c.loop-group.group-index c.group-item.result _ _ _ _ _
    c.loop-group-test.true c.group-item.is c.loop-group.invariant.total
    (c.labels-labels.ensures.value ∙ ap (λ l. capped (length l * (4 * c.args.bits + 16))) c.as_slice.ensures)
    (c.stmts-own.ensures.value ∙ ap (λ l. capped (stmts_weight (setting_of c.args.at.now) (calls_of c.args.at.now c.args.standing.now) l)) c.as_slice-in-loop-group.ensures)
    c.capped-total.ensures.value)
    c.if-total-eq16777217.true

pub turns-returns-then-heads-eq16777217-clause-value : goal.turns-returns-then-heads-eq16777217-clause-value
turns-returns-then-heads-eq16777217-clause-value t c =
    cap_heads _ _ _ _
    (c.stmts-heads.ensures.value ∙ ap (λ l. capped (stmts_weight (setting_of c.args.at.now) (calls_of c.args.at.now c.args.standing.now) l)) c.as_slice.ensures)
    c.if-heads-eq16777217.true
    (weight-loop (setting_of c.args.at.now) (calls_of c.args.at.now c.args.standing.now) c.args.one.now)

pub turns-returns-clause-value : goal.turns-returns-clause-value
turns-returns-clause-value t c =
    cap_loop _ _ _ _ _ _ _ _ _ _ _
    (c.stmts-heads.ensures.value ∙ ap (λ l. capped (stmts_weight (setting_of c.args.at.now) (calls_of c.args.at.now c.args.standing.now) l)) c.as_slice.ensures)
    c.condition-test.ensures.value
    (c.stmt-body.ensures.value ∙ ap (λ s. capped (weight (setting_of c.args.at.now) (calls_of c.args.at.now c.args.standing.now) s.node)) c.get.ensures)
    c.option-turn.ensures.value
    c.capped.ensures.value
    (weight-loop (setting_of c.args.at.now) (calls_of c.args.at.now c.args.standing.now) c.args.one.now
    ∙ ap (λ n. stmts_weight (setting_of c.args.at.now) (calls_of c.args.at.now c.args.standing.now) (out-TLoop c.args.one.now).heads
    + turns_weight n (condition_weight c.args.at.now.pair.now.program (out-TLoop c.args.one.now).cond)
    (weight (setting_of c.args.at.now) (calls_of c.args.at.now c.args.standing.now) (out-TLoop c.args.one.now).body.node
    + option_stmt_weight (setting_of c.args.at.now) (calls_of c.args.at.now c.args.standing.now) (out-TLoop c.args.one.now).step)) (sym c.limit-count.ensures))

pub callee-returns-else-not-is_below-clause-value : goal.callee-returns-else-not-is_below-clause-value
callee-returns-else-not-is_below-clause-value t c =
    let p = c.args.at.now.pair.now in
    let b = c.args.at.now.bounds.now in
    let inner = λ (l : List ℕ). calls_weight p b (c.args.at.now.left - 1) l in
    cap_callee _ _ _ _ _ _ c.entry-own.ensures.value
    (c.stmt.ensures.value ∙ ap (λ l. capped (weight (record { pair = p; bounds = b; here = c.args.f }) (inner l) c.in-Some-body.body.node)) c.one_more-inner.ensures)
    c.capped.ensures.value
    (callee_is p b c.args.at.now.left c.args.standing.now c.args.f c.in-Some.function.now c.in-Some-body.body
    (sym c.in-Some.ensures.value) c.in-Some-body.is c.if-at-eq0.false (sym c.is_below.ensures ∙ c.if-not-is_below.false))
