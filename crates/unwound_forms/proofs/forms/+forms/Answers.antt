use Rattle.std.proofs.Common.{refl, ap, ◌∙◌, sym}
use Rattle.unwound_forms.specs.Made.{stmt_is_made, items_are_made}
use Rattle.joint_ir.specs.declared.stmt.TStmt.{TStmt}
use Rattle.unwound_forms.proofs.Cases.{block_made, switch_made, if_made, loop_made, both_true, one_false, last_false}
use Rattle.unwound_forms.proofs.forms.+forms.Goals as goal

pub is_stmt_made-returns-in-Block : goal.is_stmt_made-returns-in-Block
is_stmt_made-returns-in-Block t c = c.are_items_made.ensures ∙ sym (block_made c.args.program.now c.args.s.now.node c.in-Block.items c.as_slice.result.now c.in-Block.is c.as_slice.ensures)

pub is_stmt_made-returns-then-is_stmt_made : goal.is_stmt_made-returns-then-is_stmt_made
is_stmt_made-returns-then-is_stmt_made t c =
    both_true _ _ _ _ _ c.is_stmt_made.ensures c.if-is_stmt_made.true c.is_option_made.ensures
    (if_made c.args.program.now c.args.s.now.node c.in-If.field-0 c.in-If.body c.get.result.now c.in-If.other c.in-If.is c.get.ensures)

pub is_stmt_made-returns-else-is_stmt_made : goal.is_stmt_made-returns-else-is_stmt_made
is_stmt_made-returns-else-is_stmt_made t c =
    c.if-is_stmt_made.false ∙ one_false _ _ _ _ c.is_stmt_made.ensures c.if-is_stmt_made.false
    (if_made c.args.program.now c.args.s.now.node c.in-If.field-0 c.in-If.body c.get.result.now c.in-If.other c.in-If.is c.get.ensures)

pub is_loop_made-returns-then-not-are_items_made :
    goal.is_loop_made-returns-then-not-are_items_made
is_loop_made-returns-then-not-are_items_made t c =
    one_false _ _ _ _ (c.are_items_made.ensures ∙ ap (items_are_made c.args.program.now) c.as_slice.ensures) c.if-not-are_items_made.true (loop_made c.args.program.now c.args.one.now)

pub is_loop_made-returns-then-not-is_stmt_made :
    goal.is_loop_made-returns-then-not-is_stmt_made
is_loop_made-returns-then-not-is_stmt_made t c =
    last_false _ _ _ _ _ _ (c.are_items_made.ensures ∙ ap (items_are_made c.args.program.now) c.as_slice.ensures) c.if-not-are_items_made.false
    (c.is_stmt_made.ensures ∙ ap (λ (s : TStmt). stmt_is_made c.args.program.now s.node) c.get.ensures) c.if-not-is_stmt_made.true (loop_made c.args.program.now c.args.one.now)

pub is_loop_made-returns : goal.is_loop_made-returns
is_loop_made-returns t c =
    both_true _ _ _ _ _ (c.is_stmt_made.ensures ∙ ap (λ (s : TStmt). stmt_is_made c.args.program.now s.node) c.get.ensures) c.if-not-is_stmt_made.false c.is_option_made.ensures
    (sym (both_true _ _ _ _ _ (c.are_items_made.ensures ∙ ap (items_are_made c.args.program.now) c.as_slice.ensures) c.if-not-are_items_made.false refl (loop_made c.args.program.now c.args.one.now)))

pub is_stmt_made-returns-in-Switch : goal.is_stmt_made-returns-in-Switch
is_stmt_made-returns-in-Switch t c = c.are_cases_made.ensures ∙ sym (switch_made c.args.program.now c.args.s.now.node c.in-Switch.field-0 c.in-Switch.groups c.as_slice-in-Switch.result.now c.in-Switch.is c.as_slice-in-Switch.ensures)
