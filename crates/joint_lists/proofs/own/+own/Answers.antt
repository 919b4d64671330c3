use Rattle.std.proofs.Common.{List, ℕ, sym, ap, ◌∙◌}
use Rattle.std.proofs.lemmas.List.{drop_all}
use Rattle.joint_ir.specs.declared.stmt.Group.{Group}
use Rattle.joint_ir.specs.declared.stmt.TLoop.{out-TLoop}
use Rattle.joint_ir.specs.declared.stmt.TStmt.{TStmt}
use Rattle.joint_ir.specs.WellFormed.{declared_in}
use Rattle.joint_lists.specs.Own.{behind_all, declared_items, declared_option, declared_cases}
use Rattle.joint_lists.proofs.Places.{behind_both, declares-block, declares-if, declares-switch, declares-loop, items_behind, cases_behind}
use Rattle.joint_lists.proofs.own.+own.Goals as goal

pub behind-returns-in-Block : goal.behind-returns-in-Block
behind-returns-in-Block t c =
    c.behind_items.ensures ∙ ap (behind_all c.args.at) (sym (declares-block c.args.s.now.node _ _ c.in-Block.is c.as_slice.ensures))

pub behind-returns-in-If : goal.behind-returns-in-If
behind-returns-in-If t c =
    c.behind_option.ensures ∙ ap (λ (n : ℕ). behind_all n (declared_option c.in-If.other)) c.behind-own.ensures
    ∙ sym (behind_both c.args.at (declared_in c.get.result.now.node) (declared_option c.in-If.other))
    ∙ ap (behind_all c.args.at) (sym (declares-if c.args.s.now.node _ _ _ _ c.in-If.is c.get.ensures))

pub behind-returns-in-Switch : goal.behind-returns-in-Switch
behind-returns-in-Switch t c =
    c.behind_cases.ensures ∙ ap (behind_all c.args.at) (sym (declares-switch c.args.s.now.node _ _ _ c.in-Switch.is c.as_slice-in-Switch.ensures))

pub behind_cases-loop-group-preserved : goal.behind_cases-loop-group-preserved
behind_cases-loop-group-preserved t c =
    c.loop-group.invariant
    ∙ cases_behind c.args.groups.now c.loop-group.group-index c.group-item.result c.loop-group.end c.behind_items-end.result c.loop-group-test.true c.group-item.is
    (c.behind_items-end.ensures ∙ ap (λ (l : List TStmt). behind_all c.loop-group.end (declared_items l)) c.as_slice.ensures)

pub behind_cases-returns : goal.behind_cases-returns
behind_cases-returns t c =
    sym (c.loop-group.invariant ∙ ap (λ (l : List Group). behind_all c.loop-group.end (declared_cases l)) (drop_all c.loop-group.group-index c.args.groups.now c.loop-group-test.false))

pub behind_items-loop-s-preserved : goal.behind_items-loop-s-preserved
behind_items-loop-s-preserved t c =
    c.loop-s.invariant
    ∙ items_behind c.args.items.now c.loop-s.s-index c.s-item.result c.loop-s.end c.behind-end.result c.loop-s-test.true c.s-item.is c.behind-end.ensures

pub behind_items-returns : goal.behind_items-returns
behind_items-returns t c =
    sym (c.loop-s.invariant ∙ ap (λ (l : List TStmt). behind_all c.loop-s.end (declared_items l)) (drop_all c.loop-s.s-index c.args.items.now c.loop-s-test.false))

pub behind_loop-returns : goal.behind_loop-returns
behind_loop-returns t c =
    c.behind.ensures
    ∙ ap (λ (s : TStmt). behind_all c.behind_items-heads.result (declared_in s.node)) c.get.ensures
    ∙ ap (λ (n : ℕ). behind_all n (declared_in (out-TLoop c.args.one.now).body.node))
    (c.behind_items-heads.ensures ∙ ap (λ (l : List TStmt). behind_all c.args.at (declared_items l)) c.as_slice.ensures)
    ∙ sym (behind_both c.args.at (declared_items (out-TLoop c.args.one.now).heads) (declared_in (out-TLoop c.args.one.now).body.node))
    ∙ ap (behind_all c.args.at) (sym (declares-loop c.args.one.now))
