use Rattle.std.proofs.Common.{refl, ap, ◌∙◌, map, true, false}
use Rattle.v_tree.specs.declared.expr.Expr.{Expr}
use Rattle.elab_names.specs.declared.measure.Measured.TheVariants as a
use Rattle.elab_names.specs.declared.select.Choice.TheVariants as choice
use Rattle.elab_names.specs.Names.{find_in}
use Rattle.elab_names.specs.Operators.{form_of}
use Rattle.elab_names.specs.Selects.{number_of, select_standing}
use Rattle.elab_names.specs.Measured.{measured, choice_of, constant_of, by_itself, by_form, by_operator, worth_of, concatenation, replicated, with_sign}
use Rattle.elab_names.proofs.Parts.{parts_next}
use Rattle.elab_names.proofs.Cases.{case_one, case_two, case_three}
use Rattle.elab_names.proofs.Expressions.{select_measured, unary_measured, binary_measured, conditional_measured, parentheses_measured, signed_measured, unsigned_measured, concatenation_measured, replication_measured, index_choice, range_choice, up_choice, down_choice}
use Rattle.elab_names.proofs.measure.+parts.Goals as goal

pub choice_of-returns-in_ok-i-in-Index : goal.choice_of-returns-in_ok-i-in-Index
choice_of-returns-in_ok-i-in-Index t c =
    case_one (choice_of c.args.names.now c.args.turns.now) (λ e. number_of (constant_of c.args.names.now c.args.turns.now e)) choice.Index _ _ _ _ _ _
    c.in-Index.is c.get.ensures c.in_ok-i-in-Index.ensures refl (index_choice _ _ _)

pub choice_of-returns-in_ok-l-in-Range : goal.choice_of-returns-in_ok-l-in-Range
choice_of-returns-in_ok-l-in-Range t c =
    let f = λ (e : Expr). number_of (constant_of c.args.names.now c.args.turns.now e) in
    case_two (choice_of c.args.names.now c.args.turns.now) f f choice.Range _ _ _ _ _ _ _ _ _
    c.in-Range.is c.get-in-Range.ensures c.get-in-Range-2.ensures c.in_ok-h-in-Range.ensures c.in_ok-l-in-Range.ensures refl (range_choice _ _ _ _)

pub choice_of-returns-in_ok-w-in-Up : goal.choice_of-returns-in_ok-w-in-Up
choice_of-returns-in_ok-w-in-Up t c =
    let f = λ (e : Expr). number_of (constant_of c.args.names.now c.args.turns.now e) in
    case_two (choice_of c.args.names.now c.args.turns.now) f f choice.Up _ _ _ _ _ _ _ _ _
    c.in-Up.is c.get-in-Up.ensures c.get-in-Up-2.ensures c.in_ok-b-in-Up.ensures c.in_ok-w-in-Up.ensures refl (up_choice _ _ _ _)

pub choice_of-returns-in_ok-w-in-Down : goal.choice_of-returns-in_ok-w-in-Down
choice_of-returns-in_ok-w-in-Down t c =
    let f = λ (e : Expr). number_of (constant_of c.args.names.now c.args.turns.now e) in
    case_two (choice_of c.args.names.now c.args.turns.now) f f choice.Down _ _ _ _ _ _ _ _ _
    c.in-Down.is c.get-in-Down.ensures c.get-in-Down-2.ensures c.in_ok-b-in-Down.ensures c.in_ok-w-in-Down.ensures refl (down_choice _ _ _ _)

pub measure-returns-in_ok-choice-in-Select : goal.measure-returns-in_ok-choice-in-Select
measure-returns-in_ok-choice-in-Select t c =
    case_one (measured c.args.names.now c.args.turns.now) (choice_of c.args.names.now c.args.turns.now)
    (λ s. a.Standing (select_standing c.args.turns.now (find_in c.args.names.now c.in-Select.x.name) s)) _ _ _ _ _ _
    c.in-Select.is c.get.ensures c.in_ok-choice-in-Select.ensures
    (c.selected.ensures ∙ ap (λ n. a.Standing (select_standing c.args.turns.now n c.in_ok-choice-in-Select.choice)) c.find-in-Select.ensures) (select_measured c.args.names.now c.args.turns.now c.in-Select.x _)

pub measure-returns-in_ok-m-in-Unary : goal.measure-returns-in_ok-m-in-Unary
measure-returns-in_ok-m-in-Unary t c =
    case_one (measured c.args.names.now c.args.turns.now) (measured c.args.names.now c.args.turns.now) (by_operator c.in-Unary.operator.op) _ _ _ _ _ _
    c.in-Unary.is c.get-in-Unary.ensures c.in_ok-p-in-Unary.ensures c.in_ok-m-in-Unary.ensures (unary_measured c.args.names.now c.args.turns.now c.in-Unary.operator _)

pub measure-returns-in_ok-m-in-Binary : goal.measure-returns-in_ok-m-in-Binary
measure-returns-in_ok-m-in-Binary t c =
    let f = measured c.args.names.now c.args.turns.now in
    case_two f f f (by_form (form_of c.in-Binary.operator.op) c.in-Binary.operator.op) _ _ _ _ _ _ _ _ _
    c.in-Binary.is c.get-in-Binary.ensures c.get-in-Binary-2.ensures c.in_ok-p-in-Binary.ensures c.in_ok-q-in-Binary.ensures c.in_ok-m-in-Binary.ensures (binary_measured c.args.names.now c.args.turns.now c.in-Binary.operator _ _)

pub measure-returns-in_ok-m-in-Conditional : goal.measure-returns-in_ok-m-in-Conditional
measure-returns-in_ok-m-in-Conditional t c =
    let f = measured c.args.names.now c.args.turns.now in
    case_three f f (λ k p q. a.Conditional (worth_of (by_itself k)) p q) _ _ _ _ _ _ _ _ _ _ _ _
    c.in-Conditional.is c.get-in-Conditional.ensures c.get-in-Conditional-2.ensures c.get-in-Conditional-3.ensures
    c.in_ok-c-in-Conditional.ensures c.in_ok-p-in-Conditional.ensures c.in_ok-q-in-Conditional.ensures c.in_ok-m-in-Conditional.ensures (conditional_measured _ _ _ _ _)

pub measure-returns-in_ok-m-in-Parentheses : goal.measure-returns-in_ok-m-in-Parentheses
measure-returns-in_ok-m-in-Parentheses t c =
    let f = measured c.args.names.now c.args.turns.now in
    case_one f f (λ m. m) _ _ _ _ _ _ c.in-Parentheses.is c.get-in-Parentheses.ensures c.in_ok-m-in-Parentheses.ensures refl (parentheses_measured _ _ c.in-Parentheses.field-0 _)

pub measure-returns-in_ok-s-in-Concatenation : goal.measure-returns-in_ok-s-in-Concatenation
measure-returns-in_ok-s-in-Concatenation t c =
    case_one (measured c.args.names.now c.args.turns.now) (λ l. concatenation (map (constant_of c.args.names.now c.args.turns.now) l)) a.Standing _ _ _ _ _ _
    c.in-Concatenation.is c.as_slice.ensures c.in_ok-s-in-Concatenation.ensures refl (concatenation_measured _ _ c.in-Concatenation.field-0 _)

pub measure-returns-in_ok-s-in-Replication : goal.measure-returns-in_ok-s-in-Replication
measure-returns-in_ok-s-in-Replication t c =
    case_two (measured c.args.names.now c.args.turns.now) (λ e. number_of (constant_of c.args.names.now c.args.turns.now e)) (λ l. concatenation (map (constant_of c.args.names.now c.args.turns.now) l))
    (λ n s. a.Standing (replicated n s)) _ _ _ _ _ _ _ _ _
    c.in-Replication.is c.get-in-Replication.ensures c.as_slice-in-Replication.ensures c.in_ok-n-in-Replication.ensures c.in_ok-s-in-Replication.ensures (ap a.Standing c.replicated.ensures) (replication_measured _ _ c.in-Replication.field-0 _ _)

pub measure-returns-in_ok-s-in-Signed : goal.measure-returns-in_ok-s-in-Signed
measure-returns-in_ok-s-in-Signed t c =
    case_one (measured c.args.names.now c.args.turns.now) (constant_of c.args.names.now c.args.turns.now) (λ s. a.Standing (with_sign true s)) _ _ _ _ _ _
    c.in-Signed.is c.get-in-Signed.ensures c.in_ok-s-in-Signed.ensures (ap a.Standing c.with_sign.ensures) (signed_measured _ _ c.in-Signed.field-0 _)

pub measure-returns-in_ok-s-in-Unsigned : goal.measure-returns-in_ok-s-in-Unsigned
measure-returns-in_ok-s-in-Unsigned t c =
    case_one (measured c.args.names.now c.args.turns.now) (constant_of c.args.names.now c.args.turns.now) (λ s. a.Standing (with_sign false s)) _ _ _ _ _ _
    c.in-Unsigned.is c.get-in-Unsigned.ensures c.in_ok-s-in-Unsigned.ensures (ap a.Standing c.with_sign-in-Unsigned.ensures) (unsigned_measured _ _ c.in-Unsigned.field-0 _)

pub own_number-returns : goal.own_number-returns
own_number-returns t c = c.number_of.ensures ∙ ap number_of (c.by_itself-s.ensures ∙ ap by_itself c.in_ok-m.ensures)

pub parts_standing-loop-p-preserved : goal.parts_standing-loop-p-preserved
parts_standing-loop-p-preserved t c =
    parts_next (constant_of c.args.names.now c.args.turns.now) _ _ c.p-item.result _ _ _ _ _ c.loop-p-test.true c.p-item.is c.loop-p.invariant c.in_ok-s.ensures c.with_part-so_far.ensures
