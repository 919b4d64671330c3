use Rattle.std.proofs.Common.{ap, ◌∙◌, true}
use Rattle.std.specs.Prelude.{flat_map}
use Rattle.v_tree.specs.declared.expr.Selection.{Selection}
use Rattle.offence_order.specs.Order.{first_of}
use Rattle.elab_names.specs.Names.{find_in}
use Rattle.elab_names.specs.Measured.{choice_of}
use Rattle.elab_offences.specs.Rules.{select_offences}
use Rattle.elab_offences.specs.Expressions.{element_offences, varying, span_offences, expr_offences, selection_offences, constant_offences, part_offences, spanning_offences}
use Rattle.elab_offences.proofs.Noting.{notes_then, noted_one, noted_two, noted_three, listed_next, listed_end}
use Rattle.elab_offences.proofs.Equations.{wrong_select, wrong_unary, wrong_binary, wrong_conditional, wrong_parentheses, wrong_signed, wrong_unsigned, wrong_concatenation, wrong_replication, wrong_index, wrong_range, wrong_up, wrong_down}
use Rattle.elab_offences.proofs.expressions.+parts.Goals as goal

pub expression-returns-in_ok-selection-in-Select : goal.expression-returns-in_ok-selection-in-Select
expression-returns-in_ok-selection-in-Select t c =
    noted_two (expr_offences c.args.names.now c.args.turns.now c.args.fixed) _ _ c.in-Select.is (λ (s : Selection). select_offences c.args.turns.now c.in-Select.x.place (find_in c.args.names.now c.in-Select.x.name) (choice_of c.args.names.now c.args.turns.now s)) (selection_offences c.args.names.now c.args.turns.now c.args.fixed) _ _ _ _ _ _ _
    c.get.ensures c.get-in-Select.ensures
    (c.select.ensures ∙ ap (λ o. first_of c.args.first.now.found (select_offences c.args.turns.now c.in-Select.x.place o c.in_ok-c-in-Select.c)) c.find-in-Select.ensures ∙ ap (λ k. first_of c.args.first.now.found (select_offences c.args.turns.now c.in-Select.x.place (find_in c.args.names.now c.in-Select.x.name) k)) c.in_ok-c-in-Select.ensures)
    c.in_ok-selection-in-Select.ensures (wrong_select c.args.names.now c.args.turns.now c.args.fixed c.in-Select.x _)

pub expression-returns-in_ok-expression-in-Unary : goal.expression-returns-in_ok-expression-in-Unary
expression-returns-in_ok-expression-in-Unary t c =
    noted_one (expr_offences c.args.names.now c.args.turns.now c.args.fixed) _ _ c.in-Unary.is (expr_offences c.args.names.now c.args.turns.now c.args.fixed) _ _ _ _ c.get-in-Unary.ensures c.in_ok-expression-in-Unary.ensures (wrong_unary c.args.names.now c.args.turns.now c.args.fixed c.in-Unary.field-0 _)

pub expression-returns-in_ok-expression-in-Parentheses : goal.expression-returns-in_ok-expression-in-Parentheses
expression-returns-in_ok-expression-in-Parentheses t c =
    noted_one (expr_offences c.args.names.now c.args.turns.now c.args.fixed) _ _ c.in-Parentheses.is (expr_offences c.args.names.now c.args.turns.now c.args.fixed) _ _ _ _ c.get-in-Parentheses.ensures c.in_ok-expression-in-Parentheses.ensures (wrong_parentheses c.args.names.now c.args.turns.now c.args.fixed c.in-Parentheses.field-0 _)

pub expression-returns-in_ok-expression-in-Signed : goal.expression-returns-in_ok-expression-in-Signed
expression-returns-in_ok-expression-in-Signed t c =
    noted_one (expr_offences c.args.names.now c.args.turns.now c.args.fixed) _ _ c.in-Signed.is (expr_offences c.args.names.now c.args.turns.now c.args.fixed) _ _ _ _ c.get-in-Signed.ensures c.in_ok-expression-in-Signed.ensures (wrong_signed c.args.names.now c.args.turns.now c.args.fixed c.in-Signed.field-0 _)

pub expression-returns-in_ok-expression-in-Unsigned : goal.expression-returns-in_ok-expression-in-Unsigned
expression-returns-in_ok-expression-in-Unsigned t c =
    noted_one (expr_offences c.args.names.now c.args.turns.now c.args.fixed) _ _ c.in-Unsigned.is (expr_offences c.args.names.now c.args.turns.now c.args.fixed) _ _ _ _ c.get-in-Unsigned.ensures c.in_ok-expression-in-Unsigned.ensures (wrong_unsigned c.args.names.now c.args.turns.now c.args.fixed c.in-Unsigned.field-0 _)

pub expression-returns-in_ok-expression-in-Binary-2 : goal.expression-returns-in_ok-expression-in-Binary-2
expression-returns-in_ok-expression-in-Binary-2 t c =
    noted_two (expr_offences c.args.names.now c.args.turns.now c.args.fixed) _ _ c.in-Binary.is (expr_offences c.args.names.now c.args.turns.now c.args.fixed) (expr_offences c.args.names.now c.args.turns.now c.args.fixed) _ _ _ _ _ _ _ c.get-in-Binary.ensures c.get-in-Binary-2.ensures
    c.in_ok-expression-in-Binary.ensures c.in_ok-expression-in-Binary-2.ensures (wrong_binary c.args.names.now c.args.turns.now c.args.fixed c.in-Binary.field-1 _ _)

pub expression-returns-in_ok-expression-in-Conditional-3 : goal.expression-returns-in_ok-expression-in-Conditional-3
expression-returns-in_ok-expression-in-Conditional-3 t c =
    noted_three (expr_offences c.args.names.now c.args.turns.now c.args.fixed) _ _ c.in-Conditional.is (expr_offences c.args.names.now c.args.turns.now c.args.fixed) (expr_offences c.args.names.now c.args.turns.now c.args.fixed) (expr_offences c.args.names.now c.args.turns.now c.args.fixed) _ _ _ _ _ _ _ _ _ _ c.get-in-Conditional.ensures c.get-in-Conditional-2.ensures c.get-in-Conditional-3.ensures
    c.in_ok-expression-in-Conditional.ensures c.in_ok-expression-in-Conditional-2.ensures c.in_ok-expression-in-Conditional-3.ensures (wrong_conditional c.args.names.now c.args.turns.now c.args.fixed _ _ _)

pub expression-returns-in_ok-parts-in-Concatenation : goal.expression-returns-in_ok-parts-in-Concatenation
expression-returns-in_ok-parts-in-Concatenation t c =
    noted_one (expr_offences c.args.names.now c.args.turns.now c.args.fixed) _ _ c.in-Concatenation.is (flat_map (part_offences c.args.names.now c.args.turns.now c.args.fixed)) _ _ _ _ c.as_slice.ensures c.in_ok-parts-in-Concatenation.ensures (wrong_concatenation c.args.names.now c.args.turns.now c.args.fixed c.in-Concatenation.field-0 _)

pub expression-returns-in_ok-parts-in-Replication : goal.expression-returns-in_ok-parts-in-Replication
expression-returns-in_ok-parts-in-Replication t c =
    noted_three (expr_offences c.args.names.now c.args.turns.now c.args.fixed) _ _ c.in-Replication.is (constant_offences c.args.names.now c.args.turns.now) (span_offences c.args.names.now c.args.turns.now 128) (flat_map (part_offences c.args.names.now c.args.turns.now c.args.fixed)) _ _ _ _ _ _ _ _ _ _
    c.get-in-Replication.ensures c.get-in-Replication-2.ensures c.as_slice-in-Replication.ensures
    c.in_ok-constant_expression-in-Replication.ensures c.in_ok-span-in-Replication.ensures c.in_ok-parts-in-Replication.ensures (wrong_replication c.args.names.now c.args.turns.now c.args.fixed c.in-Replication.field-0 _ _)

pub constant_expression-returns : goal.constant_expression-returns
constant_expression-returns t c =
    notes_then (expr_offences c.args.names.now c.args.turns.now true c.args.e.now) (varying c.args.names.now c.args.turns.now c.args.e.now) _ _ _ c.in_ok-expression.ensures c.in_ok-not_varying.ensures

pub selection-returns-in_ok-expression-in-Index : goal.selection-returns-in_ok-expression-in-Index
selection-returns-in_ok-expression-in-Index t c =
    noted_one (selection_offences c.args.names.now c.args.turns.now c.args.fixed) _ _ c.in-Index.is (expr_offences c.args.names.now c.args.turns.now c.args.fixed) _ _ _ _ c.get.ensures c.in_ok-expression-in-Index.ensures (wrong_index c.args.names.now c.args.turns.now c.args.fixed _)

pub selection-returns-in_ok-constant_expression-in-Range-2 : goal.selection-returns-in_ok-constant_expression-in-Range-2
selection-returns-in_ok-constant_expression-in-Range-2 t c =
    noted_two (selection_offences c.args.names.now c.args.turns.now c.args.fixed) _ _ c.in-Range.is (constant_offences c.args.names.now c.args.turns.now) (constant_offences c.args.names.now c.args.turns.now) _ _ _ _ _ _ _ c.get-in-Range.ensures c.get-in-Range-2.ensures
    c.in_ok-constant_expression-in-Range.ensures c.in_ok-constant_expression-in-Range-2.ensures (wrong_range c.args.names.now c.args.turns.now c.args.fixed _ _)

pub selection-returns-in_ok-spanning-in-Up : goal.selection-returns-in_ok-spanning-in-Up
selection-returns-in_ok-spanning-in-Up t c =
    noted_two (selection_offences c.args.names.now c.args.turns.now c.args.fixed) _ _ c.in-Up.is (expr_offences c.args.names.now c.args.turns.now c.args.fixed) (spanning_offences c.args.names.now c.args.turns.now 64) _ _ _ _ _ _ _ c.get-in-Up.ensures c.get-in-Up-2.ensures
    c.in_ok-expression-in-Up.ensures c.in_ok-spanning-in-Up.ensures (wrong_up c.args.names.now c.args.turns.now c.args.fixed _ _)

pub selection-returns-in_ok-spanning-in-Down : goal.selection-returns-in_ok-spanning-in-Down
selection-returns-in_ok-spanning-in-Down t c =
    noted_two (selection_offences c.args.names.now c.args.turns.now c.args.fixed) _ _ c.in-Down.is (expr_offences c.args.names.now c.args.turns.now c.args.fixed) (spanning_offences c.args.names.now c.args.turns.now 64) _ _ _ _ _ _ _ c.get-in-Down.ensures c.get-in-Down-2.ensures
    c.in_ok-expression-in-Down.ensures c.in_ok-spanning-in-Down.ensures (wrong_down c.args.names.now c.args.turns.now c.args.fixed _ _)

pub spanning-returns : goal.spanning-returns
spanning-returns t c =
    notes_then (constant_offences c.args.names.now c.args.turns.now c.args.e.now) (span_offences c.args.names.now c.args.turns.now c.args.most c.args.e.now) _ _ _ c.in_ok-constant_expression.ensures c.in_ok-span.ensures

pub part-returns : goal.part-returns
part-returns t c =
    notes_then (element_offences c.args.fixed c.args.e.now) (expr_offences c.args.names.now c.args.turns.now c.args.fixed c.args.e.now) _ _ _ c.element.ensures c.in_ok-expression.ensures

pub parts-loop-p-preserved : goal.parts-loop-p-preserved
parts-loop-p-preserved t c =
    listed_next (part_offences c.args.names.now c.args.turns.now c.args.fixed) c.args.ps.now c.loop-p.p-index _ _ c.loop-p.invariant c.p-item.result _ _ c.loop-p-test.true c.p-item.is c.in_ok-part.ensures

pub parts-returns : goal.parts-returns
parts-returns t c =
    listed_end (part_offences c.args.names.now c.args.turns.now c.args.fixed) c.args.ps.now c.loop-p.p-index _ _ c.loop-p.invariant c.loop-p-test.false
