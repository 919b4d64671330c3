use Rattle.std.proofs.Common.{refl, ap, ◌∙◌, map}
use Rattle.v_tree.specs.declared.stmt.CaseItem.{CaseItem}
use Rattle.v_tree.specs.declared.stmt.Stmt.{Stmt}
use Rattle.v_views.specs.declared.CaseItem.TheVariants as choice
use Rattle.v_views.specs.declared.Stmt.TheVariants as made
use Rattle.elab_names.proofs.Cases.{case_one, case_two}
use Rattle.elab_flat.specs.Flat.{flat_expr}
use Rattle.elab_statements.specs.Patterns.{flat_pattern}
use Rattle.elab_statements.specs.Statements.{loop_copies, flat_stmt, flat_item}
use Rattle.elab_statements.proofs.Equations.{block_made, if_made, if_else_made, case_made, for_made, values_made, default_made, loop_made}
use Rattle.elab_statements.proofs.statement.+stmt.Goals as goal

pub flat_stmt-returns-in_ok-f-in-Block : goal.flat_stmt-returns-in_ok-f-in-Block
flat_stmt-returns-in_ok-f-in-Block t c =
    let f = λ (s : Stmt). flat_stmt c.args.names.now s c.args.turns.now in
    case_one f (map f) (made.Block c.in-Block.place) _ _ _ _ _ _
    c.in-Block.is c.as_slice.ensures refl c.in_ok-f-in-Block.ensures (block_made c.args.names.now c.args.turns.now c.in-Block.place c.in-Block.field-1 _)

pub flat_stmt-returns-in_ok-f-in-If : goal.flat_stmt-returns-in_ok-f-in-If
flat_stmt-returns-in_ok-f-in-If t c =
    let f = λ (s : Stmt). flat_stmt c.args.names.now s c.args.turns.now in
    case_one f f (made.If c.in-If.place (flat_expr c.args.names.now c.args.turns.now c.in-If.c)) _ _ _ _ _ _
    c.in-If.is c.get.ensures c.in_ok-s-in-If.ensures c.in_ok-f-in-If.ensures (if_made c.args.names.now c.args.turns.now c.in-If.place c.in-If.c _)

pub flat_stmt-returns-in_ok-f-in-IfElse : goal.flat_stmt-returns-in_ok-f-in-IfElse
flat_stmt-returns-in_ok-f-in-IfElse t c =
    let f = λ (s : Stmt). flat_stmt c.args.names.now s c.args.turns.now in
    case_two f f f (made.IfElse c.in-IfElse.place (flat_expr c.args.names.now c.args.turns.now c.in-IfElse.c)) _ _ _ _ _ _ _ _ _
    c.in-IfElse.is c.get-in-IfElse.ensures c.get-in-IfElse-2.ensures c.in_ok-s-in-IfElse.ensures c.in_ok-other-in-IfElse.ensures c.in_ok-f-in-IfElse.ensures (if_else_made c.args.names.now c.args.turns.now c.in-IfElse.place c.in-IfElse.c _ _)

pub flat_stmt-returns-in_ok-f-in-Case : goal.flat_stmt-returns-in_ok-f-in-Case
flat_stmt-returns-in_ok-f-in-Case t c =
    let f = λ (s : Stmt). flat_stmt c.args.names.now s c.args.turns.now in
    let g = λ (i : CaseItem). flat_item c.args.names.now c.in-Case.kind i c.args.turns.now in
    case_one f (map g) (made.Case c.in-Case.place (flat_expr c.args.names.now c.args.turns.now c.in-Case.value)) _ _ _ _ _ _
    c.in-Case.is c.as_slice-in-Case.ensures c.in_ok-items-in-Case.ensures c.in_ok-f-in-Case.ensures (case_made c.args.names.now c.args.turns.now c.in-Case.place c.in-Case.kind c.in-Case.value _)

pub flat_stmt-returns-in_ok-f-in-For : goal.flat_stmt-returns-in_ok-f-in-For
flat_stmt-returns-in_ok-f-in-For t c =
    case_one (λ (s : Stmt). flat_stmt c.args.names.now s c.args.turns.now) (λ (s : Stmt). loop_copies c.args.names.now (flat_stmt c.args.names.now s) c.args.turns.now c.in-For.head) (made.Block c.in-For.place) _ _ _ _ _ _
    c.in-For.is c.get-in-For.ensures refl c.in_ok-f-in-For.ensures (for_made c.args.names.now c.args.turns.now c.in-For.place c.in-For.head _)

pub flat_item-returns-in_ok-f-in-Values : goal.flat_item-returns-in_ok-f-in-Values
flat_item-returns-in_ok-f-in-Values t c =
    case_two (λ (i : CaseItem). flat_item c.args.names.now c.args.kind i c.args.turns.now) (map (flat_pattern c.args.names.now c.args.turns.now c.args.kind)) (λ (s : Stmt). flat_stmt c.args.names.now s c.args.turns.now) choice.Values _ _ _ _ _ _ _ _ _
    c.in-Values.is c.as_slice.ensures c.get.ensures refl c.in_ok-s-in-Values.ensures c.in_ok-f-in-Values.ensures (values_made c.args.names.now c.args.turns.now c.args.kind _ _)

pub flat_item-returns-in_ok-f-in-Default : goal.flat_item-returns-in_ok-f-in-Default
flat_item-returns-in_ok-f-in-Default t c =
    case_one (λ (i : CaseItem). flat_item c.args.names.now c.args.kind i c.args.turns.now) (λ (s : Stmt). flat_stmt c.args.names.now s c.args.turns.now) (choice.Default c.in-Default.place) _ _ _ _ _ _
    c.in-Default.is c.get-in-Default.ensures refl c.in_ok-f-in-Default.ensures (default_made c.args.names.now c.args.turns.now c.args.kind c.in-Default.place _)

pub flat_loop-returns : goal.flat_loop-returns
flat_loop-returns t c =
    loop_made c.args.names.now c.args.turns.now c.args.body.now c.args.head.now _ _ _ _ _
    c.find.ensures c.integer_number-integer.ensures c.in_ok-taken.ensures c.as_slice.ensures c.in_ok-copies.ensures

pub flat_copy-returns : goal.flat_copy-returns
flat_copy-returns t c =
    c.in_ok-f.ensures ∙ ap (flat_stmt c.args.names.now c.args.body.now) (c.as_slice.ensures ∙ c.in_ok-inside.ensures)
