use Rattle.std.proofs.Common.{refl, ap, ◌∙◌, map}
use Rattle.flat_tree.specs.declared.expr.FlatExpr.TheVariants as flat
use Rattle.flat_tree.specs.declared.expr.FlatSelection.TheVariants as part
use Rattle.elab_names.specs.Names.{find_in}
use Rattle.elab_names.proofs.Cases.{case_one, case_two, case_three}
use Rattle.elab_flat.specs.Numbers.{flat_select}
use Rattle.elab_flat.specs.Flat.{known, flat_expr, flat_selection}
use Rattle.elab_flat.proofs.Equations.{flat_selected, flat_unary, flat_binary, flat_conditional, flat_parentheses, flat_signed, flat_unsigned, flat_concatenation, flat_replication, selection_index, selection_range, selection_up, selection_down}
use Rattle.elab_flat.proofs.expression.+parts.Goals as goal

pub flat_expr-returns-in_ok-s-in-Select : goal.flat_expr-returns-in_ok-s-in-Select
flat_expr-returns-in_ok-s-in-Select t c =
    case_one (flat_expr c.args.names.now c.args.turns.now) (flat_selection c.args.names.now c.args.turns.now) (flat_select c.args.turns.now c.in-Select.x.place (find_in c.args.names.now c.in-Select.x.name)) _ _ _ _ _ _
    c.in-Select.is c.get.ensures c.in_ok-s-in-Select.ensures
    (c.flat_select.ensures ∙ ap (λ n. flat_select c.args.turns.now c.in-Select.x.place n c.in_ok-s-in-Select.s) c.find-in-Select.ensures) (flat_selected c.args.names.now c.args.turns.now c.in-Select.x _)

pub flat_expr-returns-in_ok-f-in-Unary : goal.flat_expr-returns-in_ok-f-in-Unary
flat_expr-returns-in_ok-f-in-Unary t c =
    case_one (flat_expr c.args.names.now c.args.turns.now) (flat_expr c.args.names.now c.args.turns.now) (flat.Unary c.in-Unary.operator) _ _ _ _ _ _
    c.in-Unary.is c.get-in-Unary.ensures c.in_ok-p-in-Unary.ensures c.in_ok-f-in-Unary.ensures (flat_unary c.args.names.now c.args.turns.now c.in-Unary.operator _)

pub flat_expr-returns-in_ok-f-in-Binary : goal.flat_expr-returns-in_ok-f-in-Binary
flat_expr-returns-in_ok-f-in-Binary t c =
    case_two (flat_expr c.args.names.now c.args.turns.now) (flat_expr c.args.names.now c.args.turns.now) (flat_expr c.args.names.now c.args.turns.now) (λ p q. flat.Binary p c.in-Binary.operator q) _ _ _ _ _ _ _ _ _
    c.in-Binary.is c.get-in-Binary.ensures c.get-in-Binary-2.ensures c.in_ok-p-in-Binary.ensures c.in_ok-q-in-Binary.ensures c.in_ok-f-in-Binary.ensures (flat_binary c.args.names.now c.args.turns.now c.in-Binary.operator _ _)

pub flat_expr-returns-in_ok-f-in-Conditional : goal.flat_expr-returns-in_ok-f-in-Conditional
flat_expr-returns-in_ok-f-in-Conditional t c =
    case_three (flat_expr c.args.names.now c.args.turns.now) (flat_expr c.args.names.now c.args.turns.now) flat.Conditional _ _ _ _ _ _ _ _ _ _ _ _
    c.in-Conditional.is c.get-in-Conditional.ensures c.get-in-Conditional-2.ensures c.get-in-Conditional-3.ensures
    c.in_ok-c-in-Conditional.ensures c.in_ok-p-in-Conditional.ensures c.in_ok-q-in-Conditional.ensures c.in_ok-f-in-Conditional.ensures (flat_conditional c.args.names.now c.args.turns.now _ _ _)

pub flat_expr-returns-in_ok-f-in-Parentheses : goal.flat_expr-returns-in_ok-f-in-Parentheses
flat_expr-returns-in_ok-f-in-Parentheses t c =
    case_one (flat_expr c.args.names.now c.args.turns.now) (flat_expr c.args.names.now c.args.turns.now) (flat.Parentheses c.in-Parentheses.place) _ _ _ _ _ _
    c.in-Parentheses.is c.get-in-Parentheses.ensures c.in_ok-p-in-Parentheses.ensures c.in_ok-f-in-Parentheses.ensures (flat_parentheses c.args.names.now c.args.turns.now c.in-Parentheses.place _)

pub flat_expr-returns-in_ok-f-in-Signed : goal.flat_expr-returns-in_ok-f-in-Signed
flat_expr-returns-in_ok-f-in-Signed t c =
    case_one (flat_expr c.args.names.now c.args.turns.now) (flat_expr c.args.names.now c.args.turns.now) (flat.Signed c.in-Signed.place) _ _ _ _ _ _
    c.in-Signed.is c.get-in-Signed.ensures c.in_ok-p-in-Signed.ensures c.in_ok-f-in-Signed.ensures (flat_signed c.args.names.now c.args.turns.now c.in-Signed.place _)

pub flat_expr-returns-in_ok-f-in-Unsigned : goal.flat_expr-returns-in_ok-f-in-Unsigned
flat_expr-returns-in_ok-f-in-Unsigned t c =
    case_one (flat_expr c.args.names.now c.args.turns.now) (flat_expr c.args.names.now c.args.turns.now) (flat.Unsigned c.in-Unsigned.place) _ _ _ _ _ _
    c.in-Unsigned.is c.get-in-Unsigned.ensures c.in_ok-p-in-Unsigned.ensures c.in_ok-f-in-Unsigned.ensures (flat_unsigned c.args.names.now c.args.turns.now c.in-Unsigned.place _)

pub flat_expr-returns-in_ok-parts-in-Concatenation : goal.flat_expr-returns-in_ok-parts-in-Concatenation
flat_expr-returns-in_ok-parts-in-Concatenation t c =
    case_one (flat_expr c.args.names.now c.args.turns.now) (map (flat_expr c.args.names.now c.args.turns.now)) (flat.Concatenation c.in-Concatenation.place) _ _ _ _ _ _
    c.in-Concatenation.is c.as_slice.ensures c.in_ok-parts-in-Concatenation.ensures refl (flat_concatenation c.args.names.now c.args.turns.now c.in-Concatenation.place _)

pub flat_expr-returns-in_ok-parts-in-Replication : goal.flat_expr-returns-in_ok-parts-in-Replication
flat_expr-returns-in_ok-parts-in-Replication t c =
    case_two (flat_expr c.args.names.now c.args.turns.now) (known c.args.names.now c.args.turns.now 128) (map (flat_expr c.args.names.now c.args.turns.now)) (flat.Replication c.in-Replication.place) _ _ _ _ _ _ _ _ _
    c.in-Replication.is c.get-in-Replication.ensures c.as_slice-in-Replication.ensures c.in_ok-n-in-Replication.ensures.value c.in_ok-parts-in-Replication.ensures refl (flat_replication c.args.names.now c.args.turns.now c.in-Replication.place _ _)

pub flat_selection-returns-in_ok-f-in-Index : goal.flat_selection-returns-in_ok-f-in-Index
flat_selection-returns-in_ok-f-in-Index t c =
    case_one (flat_selection c.args.names.now c.args.turns.now) (flat_expr c.args.names.now c.args.turns.now) part.Bit _ _ _ _ _ _ c.in-Index.is c.get.ensures c.in_ok-i-in-Index.ensures c.in_ok-f-in-Index.ensures (selection_index c.args.names.now c.args.turns.now _)

pub flat_selection-returns-in_ok-l-in-Range : goal.flat_selection-returns-in_ok-l-in-Range
flat_selection-returns-in_ok-l-in-Range t c =
    case_two (flat_selection c.args.names.now c.args.turns.now) (known c.args.names.now c.args.turns.now 4294967295) (known c.args.names.now c.args.turns.now 4294967295) part.Part _ _ _ _ _ _ _ _ _
    c.in-Range.is c.get-in-Range.ensures c.get-in-Range-2.ensures c.in_ok-h-in-Range.ensures.value c.in_ok-l-in-Range.ensures.value refl (selection_range c.args.names.now c.args.turns.now _ _)

pub flat_selection-returns-in_ok-f-in-Up : goal.flat_selection-returns-in_ok-f-in-Up
flat_selection-returns-in_ok-f-in-Up t c =
    case_two (flat_selection c.args.names.now c.args.turns.now) (flat_expr c.args.names.now c.args.turns.now) (known c.args.names.now c.args.turns.now 64) part.Up _ _ _ _ _ _ _ _ _
    c.in-Up.is c.get-in-Up.ensures c.get-in-Up-2.ensures c.in_ok-b-in-Up.ensures c.in_ok-w-in-Up.ensures.value c.in_ok-f-in-Up.ensures (selection_up c.args.names.now c.args.turns.now _ _)

pub flat_selection-returns-in_ok-f-in-Down : goal.flat_selection-returns-in_ok-f-in-Down
flat_selection-returns-in_ok-f-in-Down t c =
    case_two (flat_selection c.args.names.now c.args.turns.now) (flat_expr c.args.names.now c.args.turns.now) (known c.args.names.now c.args.turns.now 64) part.Down _ _ _ _ _ _ _ _ _
    c.in-Down.is c.get-in-Down.ensures c.get-in-Down-2.ensures c.in_ok-b-in-Down.ensures c.in_ok-w-in-Down.ensures.value c.in_ok-f-in-Down.ensures (selection_down c.args.names.now c.args.turns.now _ _)
