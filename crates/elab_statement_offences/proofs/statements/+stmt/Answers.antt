use Rattle.std.proofs.Common.{true, false, refl, sym, ap, ◌∙◌, ◌++◌}
use Rattle.std.specs.Prelude.{Option, Bool, List, flat_map, length, eqb, ℕ}
use Rattle.bits_core.specs.Word.{Word}
use Rattle.v_tree.specs.declared.stmt.CaseItem.{CaseItem}
use Rattle.v_tree.specs.declared.stmt.Stmt.{Stmt}
use Rattle.offence_order.specs.Order.{first_of}
use Rattle.elab_names.specs.declared.constant.Worth.TheVariants.{Value}
use Rattle.elab_names.specs.declared.names.Entry.{Entry}
use Rattle.elab_names.specs.Names.{find_in}
use Rattle.elab_loops.specs.Loops.{with_turn, is_long, turns_of}
use Rattle.elab_offences.specs.Expressions.{expr_offences}
use Rattle.elab_offences.proofs.Noting.{notes_then, noted_one, noted_two, noted_three, listed_next, listed_end}
use Rattle.elab_statement_offences.specs.Cases.{pattern_offences}
use Rattle.elab_statement_offences.specs.Heads.{integer_in, live_values, head_offences, other_offences}
use Rattle.elab_statement_offences.specs.Statements.{idle_body, copies_offences, unrolled_offences, loop_at, loop_offences, stmt_offences, item_offences}
use Rattle.elab_statement_offences.proofs.Equations.{wrong_block, wrong_if, wrong_if_else, wrong_case, wrong_for, wrong_values, wrong_default}
use Rattle.elab_statement_offences.proofs.statements.+stmt.Goals as goal

pub statement-returns-in_ok-statements-in-Block : goal.statement-returns-in_ok-statements-in-Block
statement-returns-in_ok-statements-in-Block t c =
    let f = λ (s : Stmt). stmt_offences c.args.names.now s c.args.live c.args.turns.now in
    noted_one f _ _ c.in-Block.is (flat_map f) _ _ _ _ c.as_slice.ensures c.in_ok-statements-in-Block.ensures (wrong_block c.args.names.now c.args.live c.args.turns.now c.in-Block.field-0 c.in-Block.field-1 _)

pub statement-returns-in_ok-statement-in-If : goal.statement-returns-in_ok-statement-in-If
statement-returns-in_ok-statement-in-If t c =
    let f = λ (s : Stmt). stmt_offences c.args.names.now s c.args.live c.args.turns.now in
    noted_two f _ _ c.in-If.is (expr_offences c.args.names.now c.args.turns.now false) f c.in-If.c c.in-If.c _ _ _ _ _ refl c.get.ensures
    c.in_ok-expression-in-If.ensures c.in_ok-statement-in-If.ensures (wrong_if c.args.names.now c.args.live c.args.turns.now c.in-If.field-0 c.in-If.c c.in-If.s)

pub statement-returns-in_ok-statement-in-IfElse-2 : goal.statement-returns-in_ok-statement-in-IfElse-2
statement-returns-in_ok-statement-in-IfElse-2 t c =
    let f = λ (s : Stmt). stmt_offences c.args.names.now s c.args.live c.args.turns.now in
    noted_three f _ _ c.in-IfElse.is (expr_offences c.args.names.now c.args.turns.now false) f f c.in-IfElse.c c.in-IfElse.c _ _ _ _ _ _ _ _ refl c.get-in-IfElse.ensures c.get-in-IfElse-2.ensures
    c.in_ok-expression-in-IfElse.ensures c.in_ok-statement-in-IfElse.ensures c.in_ok-statement-in-IfElse-2.ensures (wrong_if_else c.args.names.now c.args.live c.args.turns.now c.in-IfElse.field-0 c.in-IfElse.c c.in-IfElse.s c.in-IfElse.other)

pub statement-returns-in_ok-case_items-in-Case : goal.statement-returns-in_ok-case_items-in-Case
statement-returns-in_ok-case_items-in-Case t c =
    let f = λ (s : Stmt). stmt_offences c.args.names.now s c.args.live c.args.turns.now in
    let g = λ (i : CaseItem). item_offences c.args.names.now c.in-Case.kind i c.args.live c.args.turns.now in
    noted_two f _ _ c.in-Case.is (expr_offences c.args.names.now c.args.turns.now false) (flat_map g) c.in-Case.value c.in-Case.value _ _ _ _ _ refl c.as_slice-in-Case.ensures
    c.in_ok-expression-in-Case.ensures c.in_ok-case_items-in-Case.ensures (wrong_case c.args.names.now c.args.live c.args.turns.now c.in-Case.field-0 c.in-Case.kind c.in-Case.value c.in-Case.items)

pub statement-returns-in_ok-for_loop-in-For : goal.statement-returns-in_ok-for_loop-in-For
statement-returns-in_ok-for_loop-in-For t c =
    noted_one (λ (s : Stmt). stmt_offences c.args.names.now s c.args.live c.args.turns.now) _ _ c.in-For.is
    (λ (s : Stmt). loop_offences c.args.names.now (stmt_offences c.args.names.now s) c.args.live c.args.turns.now c.in-For.place c.in-For.head) _ _ _ _
    c.get-in-For.ensures c.in_ok-for_loop-in-For.ensures (wrong_for c.args.names.now c.args.live c.args.turns.now c.in-For.place c.in-For.head _)

pub case_item-returns-in_ok-statement-in-Values : goal.case_item-returns-in_ok-statement-in-Values
case_item-returns-in_ok-statement-in-Values t c =
    let f = λ (s : Stmt). stmt_offences c.args.names.now s c.args.live c.args.turns.now in
    noted_two (λ (i : CaseItem). item_offences c.args.names.now c.args.kind i c.args.live c.args.turns.now) _ _ c.in-Values.is (flat_map (pattern_offences c.args.names.now c.args.turns.now c.args.kind)) f _ _ _ _ _ _ _
    c.as_slice.ensures c.get.ensures c.in_ok-patterns-in-Values.ensures c.in_ok-statement-in-Values.ensures (wrong_values c.args.names.now c.args.live c.args.turns.now c.args.kind _ _)

pub case_item-returns-in_ok-statement-in-Default : goal.case_item-returns-in_ok-statement-in-Default
case_item-returns-in_ok-statement-in-Default t c =
    let f = λ (s : Stmt). stmt_offences c.args.names.now s c.args.live c.args.turns.now in
    noted_one (λ (i : CaseItem). item_offences c.args.names.now c.args.kind i c.args.live c.args.turns.now) _ _ c.in-Default.is f _ _ _ _
    c.get-in-Default.ensures c.in_ok-statement-in-Default.ensures (wrong_default c.args.names.now c.args.live c.args.turns.now c.args.kind c.in-Default.field-0 _)

pub statements-loop-s-preserved : goal.statements-loop-s-preserved
statements-loop-s-preserved t c =
    listed_next (λ (s : Stmt). stmt_offences c.args.names.now s c.args.live c.args.turns.now) c.args.body.now c.loop-s.s-index _ _ c.loop-s.invariant c.s-item.result _ _ c.loop-s-test.true c.s-item.is c.in_ok-statement.ensures

pub statements-returns : goal.statements-returns
statements-returns t c =
    listed_end (λ (s : Stmt). stmt_offences c.args.names.now s c.args.live c.args.turns.now) c.args.body.now c.loop-s.s-index _ _ c.loop-s.invariant c.loop-s-test.false

pub case_items-loop-c-preserved : goal.case_items-loop-c-preserved
case_items-loop-c-preserved t c =
    listed_next (λ (i : CaseItem). item_offences c.args.names.now c.args.kind i c.args.live c.args.turns.now) c.args.items.now c.loop-c.c-index _ _ c.loop-c.invariant c.c-item.result _ _ c.loop-c-test.true c.c-item.is c.in_ok-case_item.ensures

pub case_items-returns : goal.case_items-returns
case_items-returns t c =
    listed_end (λ (i : CaseItem). item_offences c.args.names.now c.args.kind i c.args.live c.args.turns.now) c.args.items.now c.loop-c.c-index _ _ c.loop-c.invariant c.loop-c-test.false

pub each_copy-loop-v-preserved : goal.each_copy-loop-v-preserved
each_copy-loop-v-preserved t c =
    listed_next (λ (v : Word). stmt_offences c.args.names.now c.args.body.now true (with_turn c.args.turns.now c.args.n (Value v))) c.args.taken.now c.loop-v.v-index _ _ c.loop-v.invariant c.v-item.result _ _ c.loop-v-test.true c.v-item.is c.in_ok-copy.ensures

pub each_copy-returns : goal.each_copy-returns
each_copy-returns t c =
    listed_end (λ (v : Word). stmt_offences c.args.names.now c.args.body.now true (with_turn c.args.turns.now c.args.n (Value v))) c.args.taken.now c.loop-v.v-index _ _ c.loop-v.invariant c.loop-v-test.false

pub for_loop-returns : goal.for_loop-returns
for_loop-returns t c =
    let wrong = λ (entry : Option Entry) (integer : Option ℕ). first_of c.args.first.now.found (loop_at c.args.names.now (stmt_offences c.args.names.now c.args.body.now) c.args.live c.args.turns.now c.args.place c.args.head.now entry integer) in
    c.in_ok-loop_over.ensures ∙ ap (wrong c.find-entry.result) c.integer_in-integer.ensures
    ∙ ap (λ entry. wrong entry (integer_in entry)) c.find-entry.ensures

pub loop_over-returns-in_ok-over_integer-in-Some : goal.loop_over-returns-in_ok-over_integer-in-Some
loop_over-returns-in_ok-over_integer-in-Some t c =
    let body = stmt_offences c.args.names.now c.args.body.now in
    c.in_ok-over_integer-in-Some.ensures
    ∙ ap (λ o. first_of c.args.first.now.found (loop_at c.args.names.now body c.args.live c.args.turns.now c.args.place c.args.head.now c.args.entry.now o)) (sym c.in-Some.is)

pub loop_over-returns-in_ok-statement-in-None : goal.loop_over-returns-in_ok-statement-in-None
loop_over-returns-in_ok-statement-in-None t c =
    let body = stmt_offences c.args.names.now c.args.body.now in
    notes_then (other_offences c.args.names.now c.args.turns.now c.args.head.now c.args.entry.now) (body false c.args.turns.now) _ _ _ c.in_ok-other-in-None.ensures c.in_ok-statement-in-None.ensures
    ∙ ap (λ o. first_of c.args.first.now.found (loop_at c.args.names.now body c.args.live c.args.turns.now c.args.place c.args.head.now c.args.entry.now o)) (sym c.in-None.is)

pub over_integer-returns : goal.over_integer-returns
over_integer-returns t c =
    let body = stmt_offences c.args.names.now c.args.body.now in
    let values = live_values c.args.names.now c.args.live c.args.turns.now c.args.n c.args.head.now in
    let wrong = λ (b : Bool) (l : List Word). first_of c.args.first.now.found (unrolled_offences c.args.names.now body c.args.turns.now c.args.place c.args.n c.args.head.now b l) in
    c.in_ok-unrolled.ensures ∙ ap (wrong c.is_long-long.result) (c.as_slice-2.ensures ∙ c.turns_of-taken.ensures ∙ ap turns_of c.in_ok-values.ensures)
    ∙ ap (λ b. wrong b (turns_of values)) (c.is_long-long.ensures ∙ ap is_long (c.as_slice.ensures ∙ c.in_ok-values.ensures))

pub unrolled-returns : goal.unrolled-returns
unrolled-returns t c =
    let body = stmt_offences c.args.names.now c.args.body.now in
    notes_then (head_offences c.args.names.now c.args.turns.now c.args.n c.args.head.now c.args.place c.args.long c.args.taken.now) (copies_offences body c.args.turns.now c.args.n c.args.taken.now) _ _ _
    c.in_ok-loop_head.ensures c.in_ok-copies.ensures

pub copies-returns : goal.copies-returns
copies-returns t c =
    let body = stmt_offences c.args.names.now c.args.body.now in
    notes_then (idle_body body c.args.turns.now c.args.n (eqb (length c.args.taken.now) 0)) (flat_map (λ (v : Word). body true (with_turn c.args.turns.now c.args.n (Value v))) c.args.taken.now) _ _ _
    (c.in_ok-idle.ensures ∙ ap (λ b. first_of c.args.first.now.found (idle_body body c.args.turns.now c.args.n b)) c.is_idle-none.ensures) c.in_ok-each_copy.ensures

pub copy-returns : goal.copy-returns
copy-returns t c =
    c.in_ok-statement.ensures ∙ ap (λ ts. first_of c.args.first.now.found (stmt_offences c.args.names.now c.args.body.now c.args.live ts)) (c.as_slice.ensures ∙ c.in_ok-inside.ensures)
