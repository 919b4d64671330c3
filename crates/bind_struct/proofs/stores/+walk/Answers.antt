use Rattle.std.proofs.Common.{refl, ap, ◌∙◌}
use Rattle.joint_ir.specs.declared.stmt.TStmt.{TStmt}
use Rattle.joint_ir.specs.declared.stmt.Group.{Group, out-Group}
use Rattle.offence_order.specs.Order.{first_of}
use Rattle.bind_struct.specs.Stores.{stores_of}
use Rattle.bind_struct.specs.Stored.{stored_in, stored_items, stored_cases}
use Rattle.bind_struct.proofs.Storing.{block_noted, if_noted, switch_noted, turns_noted, one_more}
use Rattle.bind_struct.proofs.stores.+walk.Goals as goal

pub items-loop-s-preserved : goal.items-loop-s-preserved
items-loop-s-preserved t c =
    one_more (λ (s : TStmt). stored_in (stores_of c.args.at.now) s.node) (stored_items (stores_of c.args.at.now)) (λ x xs. refl) c.args.body.now c.loop-s.s-index c.s-item.result _ _ _
    c.loop-s-test.true c.s-item.is c.loop-s.invariant c.statement.ensures

pub cases-loop-group-preserved : goal.cases-loop-group-preserved
cases-loop-group-preserved t c =
    one_more (λ (g : Group). stored_items (stores_of c.args.at.now) (out-Group g).body) (stored_cases (stores_of c.args.at.now)) (λ x xs. refl) c.args.groups.now c.loop-group.group-index c.group-item.result _ _ _
    c.loop-group-test.true c.group-item.is c.loop-group.invariant (c.items.ensures ∙ ap (λ l. first_of c.loop-group.first.found (stored_items (stores_of c.args.at.now) l)) c.as_slice.ensures)

pub statement-returns-in-Block : goal.statement-returns-in-Block
statement-returns-in-Block t c =
    block_noted (stores_of c.args.at.now) c.args.s.now.node _ _ c.args.first.now.found c.items.new.first.found c.in-Block.is c.as_slice.ensures c.items.ensures

pub statement-returns-in-If : goal.statement-returns-in-If
statement-returns-in-If t c =
    if_noted (stores_of c.args.at.now) c.args.s.now.node _ _ _ _ c.args.first.now.found c.statement.new.first.found c.option.new.first.found c.in-If.is c.get.ensures c.statement.ensures c.option.ensures

pub statement-returns-in-Switch : goal.statement-returns-in-Switch
statement-returns-in-Switch t c =
    switch_noted (stores_of c.args.at.now) c.args.s.now.node _ _ _ c.args.first.now.found c.cases.new.first.found c.in-Switch.is c.as_slice-in-Switch.ensures c.cases.ensures

pub turns-returns : goal.turns-returns
turns-returns t c =
    turns_noted (stores_of c.args.at.now) c.args.one.now _ _ c.args.first.now.found c.items.new.first.found c.statement.new.first.found c.option.new.first.found
    c.as_slice.ensures c.get.ensures c.items.ensures c.statement.ensures c.option.ensures
