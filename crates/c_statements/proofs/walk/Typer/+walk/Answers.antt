use Rattle.std.proofs.Common.{◌+◌, sym, subst, arith}
use Rattle.std.proofs.lemmas.Grind.{common_steps}
use Rattle.c_tree.specs.declared.statements.Statement.{the_lemmas}
use Rattle.c_statements.specs.Walks.{ItemsSoFar, StmtsSoFar, CasesSoFar}
use Rattle.c_statements.proofs.Switching.{switch_case, statements_next, cases_next, statements_stand, cases_stand}
use Rattle.c_statements.proofs.Walking.{if_case, if_else_case, while_case, for_case, block_case, do_case, items_next, items_stand, block_stands, statement_stands, goes_stands, for_stands}
use Rattle.c_statements.proofs.walk.Typer.+walk.Goals as goal

pub statement-returns-in_ok-ts-in-Compound : goal.statement-returns-in_ok-ts-in-Compound
statement-returns-in_ok-ts-in-Compound t c =
    block_case c.args.around c.args.self.now c.enter.new.self c.items.new.self c.leave.new.self c.args.s.now c.in-Compound.place c.in-Compound.items _ _
    c.in-Compound.is c.as_slice.ensures c.in_ok-enter-in-Compound.ensures c.in_ok-ts-in-Compound.ensures c.leave.ensures

pub statement-returns-in_ok-new-in-If-2 : goal.statement-returns-in_ok-new-in-If-2
statement-returns-in_ok-new-in-If-2 t c =
    if_case c.args.around c.args.self.now c.value.new.self c.statement.new.self c.args.s.now _ _ c.in-If.place c.in-If.c _ _ _ _
    c.in-If.is c.get.ensures c.in_ok-x-in-If.ensures.typed c.in_ok-x-in-If.ensures.goes c.in_ok-t-in-If.ensures c.in_ok-new-in-If.ensures c.in_ok-new-in-If-2.ensures

pub statement-returns-in_ok-new-in-IfElse-2 : goal.statement-returns-in_ok-new-in-IfElse-2
statement-returns-in_ok-new-in-IfElse-2 t c =
    if_else_case c.args.around c.args.self.now c.value-in-IfElse.new.self c.statement-in-IfElse.new.self c.statement-in-IfElse-2.new.self c.args.s.now _ _ _ _ c.in-IfElse.place c.in-IfElse.c _ _ _ _ _ _
    c.in-IfElse.is c.get-in-IfElse.ensures c.get-in-IfElse-2.ensures c.in_ok-x-in-IfElse.ensures.typed c.in_ok-x-in-IfElse.ensures.goes c.in_ok-t-in-IfElse.ensures c.in_ok-u-in-IfElse.ensures
    c.in_ok-new-in-IfElse.ensures c.in_ok-new-in-IfElse-2.ensures c.in_ok-other-in-IfElse.ensures

pub statement-returns-in_ok-node-in-While : goal.statement-returns-in_ok-node-in-While
statement-returns-in_ok-node-in-While t c =
    while_case c.args.around _ c.args.self.now c.own.new.self c.value-in-While.new.self c.statement-in-While.new.self c.args.s.now _ _ c.in-While.place c.in-While.c _ _ _ _
    c.in-While.is c.in_a_loop.ensures c.get-in-While.ensures c.in_ok-id-in-While.ensures.id c.in_ok-id-in-While.ensures.goes c.in_ok-x-in-While.ensures.typed c.in_ok-x-in-While.ensures.goes c.in_ok-t-in-While.ensures
    c.in_ok-node-in-While.ensures

pub statement-returns-in_ok-node-in-For : goal.statement-returns-in_ok-node-in-For
statement-returns-in_ok-node-in-For t c =
    for_case c.args.around _ c.args.self.now c.enter-in-For.new.self c.own-in-For.new.self c.first.new.self c.condition.new.self c.last.new.self c.statement-in-For.new.self c.leave-in-For.new.self c.args.s.now _ _ c.in-For.place c.in-For.head c.in-For.c c.in-For.last _ _ _ _ _ _
    c.in-For.is c.in_a_loop-in-For.ensures c.get-in-For.ensures c.in_ok-enter-in-For.ensures c.in_ok-id-in-For.ensures.id c.in_ok-id-in-For.ensures.goes
    c.in_ok-heads-in-For.ensures.typed c.in_ok-heads-in-For.ensures.goes c.in_ok-x-in-For.ensures.typed c.in_ok-x-in-For.ensures.goes c.in_ok-step-in-For.ensures.typed c.in_ok-step-in-For.ensures.goes
    c.in_ok-t-in-For.ensures c.leave-in-For.ensures c.in_ok-node-in-For.ensures

pub statement-returns-in_ok-node-in-Do : goal.statement-returns-in_ok-node-in-Do
statement-returns-in_ok-node-in-Do t c =
    do_case c.args.around _ c.args.self.now c.own-in-Do.new.self c.statement-in-Do.new.self c.value-in-Do.new.self c.args.s.now _ _ c.in-Do.place c.in-Do.c _ _ _ _
    c.in-Do.is c.in_a_loop-in-Do.ensures c.get-in-Do.ensures c.in_ok-id-in-Do.ensures.id c.in_ok-id-in-Do.ensures.goes c.in_ok-t-in-Do.ensures c.in_ok-x-in-Do.ensures.typed c.in_ok-x-in-Do.ensures.goes
    c.in_ok-node-in-Do.ensures

pub statement-leave-requires : goal.statement-leave-requires
statement-leave-requires t c =
    let d = block_stands c.args.around c.args.self.now c.enter.new.self c.items.new.self _ _ c.in_ok-enter-in-Compound.ensures c.in_ok-ts-in-Compound.ensures in
    omega (arith, d, c.requires)

pub items-loop-x-preserved : goal.items-loop-x-preserved
items-loop-x-preserved t c =
    subst (ItemsSoFar c.args.around c.args.self.now c.item.new.self c.args.items.now (c.loop-x.x-index + 1)) (sym c.in_ok-append.ensures)
    (items_next c.args.around c.args.self.now c.loop-x.self c.item.new.self c.args.items.now c.loop-x.x-index c.loop-x.typed c.x-item.result c.in_ok-ts.ts
    c.loop-x-test.true c.x-item.is c.loop-x.invariant c.in_ok-ts.ensures)

pub items-item-requires : goal.items-item-requires
items-item-requires t c =
    let d = items_stand c.args.around c.args.self.now c.loop-x.self c.args.items.now c.loop-x.x-index c.loop-x.typed c.loop-x.invariant in
    (grind (the_lemmas, arith, common_steps), omega (arith, d, c.requires))

pub statement-statement-requires-in-IfElse-2 : goal.statement-statement-requires-in-IfElse-2
statement-statement-requires-in-IfElse-2 t c =
    let d = statement_stands c.args.around c.value-in-IfElse.new.self c.statement-in-IfElse.new.self _ _ c.in_ok-t-in-IfElse.ensures in
    let e = goes_stands c.args.self.now c.value-in-IfElse.new.self _ _ c.in_ok-x-in-IfElse.ensures.goes in
    (grind (the_lemmas, arith, common_steps), omega (arith, d, e, c.requires))

pub statement-statement-requires-in-For : goal.statement-statement-requires-in-For
statement-statement-requires-in-For t c =
    let d = for_stands c.args.self.now c.enter-in-For.new.self c.own-in-For.new.self c.first.new.self c.condition.new.self c.last.new.self c.in-For.place c.in-For.head c.in-For.c c.in-For.last
    c.in_ok-enter-in-For.ensures c.in_ok-id-in-For.ensures.goes c.in_ok-heads-in-For.ensures.goes c.in_ok-x-in-For.ensures.goes c.in_ok-step-in-For.ensures.goes in
    (grind (the_lemmas, arith, common_steps), omega (arith, d))

pub statement-leave-requires-in-For : goal.statement-leave-requires-in-For
statement-leave-requires-in-For t c =
    let d = for_stands c.args.self.now c.enter-in-For.new.self c.own-in-For.new.self c.first.new.self c.condition.new.self c.last.new.self c.in-For.place c.in-For.head c.in-For.c c.in-For.last
    c.in_ok-enter-in-For.ensures c.in_ok-id-in-For.ensures.goes c.in_ok-heads-in-For.ensures.goes c.in_ok-x-in-For.ensures.goes c.in_ok-step-in-For.ensures.goes in
    let e = statement_stands _ c.last.new.self c.statement-in-For.new.self _ _ c.in_ok-t-in-For.ensures in
    omega (arith, d, e, c.requires)

pub statements-loop-x-preserved : goal.statements-loop-x-preserved
statements-loop-x-preserved t c =
    subst (StmtsSoFar c.args.around c.args.self.now c.statement.new.self c.args.xs.now (c.loop-x.x-index + 1)) (sym c.in_ok-push.ensures.ok)
    (statements_next c.args.around c.args.self.now c.loop-x.self c.statement.new.self c.args.xs.now c.loop-x.x-index c.loop-x.typed c.x-item.result c.in_ok-t.t
    c.loop-x-test.true c.x-item.is c.loop-x.invariant c.in_ok-t.ensures)

pub statements-statement-requires : goal.statements-statement-requires
statements-statement-requires t c =
    let d = statements_stand c.args.around c.args.self.now c.loop-x.self c.args.xs.now c.loop-x.x-index c.loop-x.typed c.loop-x.invariant in
    (grind (the_lemmas, arith, common_steps), omega (arith, d, c.requires))

pub cases-statements-requires : goal.cases-statements-requires
cases-statements-requires t c =
    let d = cases_stand c.args.around c.args.ty c.args.self.now c.loop-g.self c.args.groups.now c.loop-g.g-index c.loop-g.seen c.loop-g.typed c.loop-g.invariant in
    let e = goes_stands c.loop-g.self c.labels.new.self _ _ c.in_ok-labels.ensures.goes in
    (grind (the_lemmas, arith, common_steps), omega (arith, d, e, c.requires))

pub cases-loop-g-preserved : goal.cases-loop-g-preserved
cases-loop-g-preserved t c =
    subst (CasesSoFar c.args.around c.args.ty c.args.self.now c.statements.new.self c.args.groups.now (c.loop-g.g-index + 1) c.labels.new.seen) (sym c.in_ok-push.ensures.ok)
    (cases_next c.args.around c.args.ty c.args.self.now c.loop-g.self c.labels.new.self c.statements.new.self c.args.groups.now c.loop-g.g-index c.loop-g.seen c.labels.new.seen c.loop-g.typed c.g-item.result c.in_ok-labels.labels _ _ c.in_ok-body.body
    c.loop-g-test.true c.g-item.is c.loop-g.invariant c.as_slice.ensures c.in_ok-labels.ensures.typed c.in_ok-labels.ensures.seen c.in_ok-labels.ensures.goes c.as_slice-in-loop-g.ensures c.in_ok-body.ensures)

pub statement-returns-in_ok-new-in-Switch : goal.statement-returns-in_ok-new-in-Switch
statement-returns-in_ok-new-in-Switch t c =
    switch_case c.args.around _ c.args.self.now c.value-in-Switch.new.self c.cases.new.self c.args.s.now c.in-Switch.place c.in-Switch.e _ _ _ _ _ _ _
    c.in-Switch.is c.in_a_switch.ensures c.as_slice-in-Switch.ensures c.in_ok-x-in-Switch.ensures.typed c.in_ok-x-in-Switch.ensures.goes c.promoted-ty.ensures c.in_ok-test-in-Switch.ensures c.in_ok-new-in-Switch.ensures c.in_ok-cases-in-Switch.ensures
