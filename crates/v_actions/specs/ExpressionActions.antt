-- Expressions and the selects in them: what each action makes of the stack. The last part is taken first.
use Rattle.std.specs.Prelude.{[], ◌∷◌, ◌++◌, Option, Some, None}
use Rattle.v_stack.specs.declared.values.Value.TheVariants as Value
use Rattle.v_stack.specs.declared.values.ExprValue.TheVariants as ExprValue
use Rattle.v_actions.specs.declared.actions.ExpressionAction.{ExpressionAction}
use Rattle.v_actions.specs.declared.actions.ExpressionAction.TheVariants as action
use Rattle.v_stack.specs.Values.{Values, with_based, with_binary_operator, with_decimal, with_expr, with_exprs, with_name, with_place, with_selection, with_unary_operator}
use Rattle.v_tree.specs.declared.expr.Expr.TheVariants as Expr
use Rattle.v_tree.specs.declared.expr.Literal.TheVariants as Literal
use Rattle.v_tree.specs.declared.expr.Selection.TheVariants as Selection

-- What an action for expressions and selects makes of the stack (IEEE 1364-2005, clause 5), and none where its parts
-- don't lie on top.
abbrev pub after_expression_action : ExpressionAction → Values → Option Values
-- 12
after_expression_action action.DecimalLiteral st =
    with_decimal st (λ number st.
    Some (Value.Expr (ExprValue.Expr (Expr.Literal (Literal.Decimal number))) ∷ st))
-- 'hf
after_expression_action action.BasedLiteral st =
    with_based st (λ number st.
    Some (Value.Expr (ExprValue.Expr (Expr.Literal (Literal.Based number))) ∷ st))
-- 4'hf
after_expression_action action.SizedLiteral st =
    with_based st (λ number st. with_decimal st (λ size st.
    Some (Value.Expr (ExprValue.Expr (Expr.Literal (Literal.Sized size number))) ∷ st)))
-- name
after_expression_action action.NameAlone st = with_name st (λ name st. Some (Value.Expr (ExprValue.Expr (Expr.Name name)) ∷ st))
-- name [ selection ]
after_expression_action action.Select st =
    with_selection st (λ selection st. with_name st (λ name st.
    Some (Value.Expr (ExprValue.Expr (Expr.Select name selection)) ∷ st)))
-- an operator before its operand
after_expression_action action.Unary st =
    with_expr st (λ operand st. with_unary_operator st (λ operator st.
    Some (Value.Expr (ExprValue.Expr (Expr.Unary operator operand)) ∷ st)))
-- an operator between its operands
after_expression_action action.Binary st =
    with_expr st (λ right st. with_binary_operator st (λ operator st. with_expr st (λ left st.
    Some (Value.Expr (ExprValue.Expr (Expr.Binary left operator right)) ∷ st))))
-- condition ? one : other
after_expression_action action.Conditional st =
    with_expr st (λ other st. with_expr st (λ one st. with_expr st (λ condition st.
    Some (Value.Expr (ExprValue.Expr (Expr.Conditional condition one other)) ∷ st))))
-- ( inner )
after_expression_action action.Parentheses st =
    with_expr st (λ inner st. with_place st (λ place st.
    Some (Value.Expr (ExprValue.Expr (Expr.Parentheses place inner)) ∷ st)))
-- { a, b }
after_expression_action action.Concatenation st =
    with_exprs st (λ parts st. with_place st (λ place st.
    Some (Value.Expr (ExprValue.Expr (Expr.Concatenation place parts)) ∷ st)))
-- { count { a, b } }
after_expression_action action.Replication st =
    with_exprs st (λ parts st. with_expr st (λ count st. with_place st (λ place st.
    Some (Value.Expr (ExprValue.Expr (Expr.Replication place count parts)) ∷ st))))
-- $signed ( operand )
after_expression_action action.SignedCall st =
    with_expr st (λ operand st. with_place st (λ place st.
    Some (Value.Expr (ExprValue.Expr (Expr.Signed place operand)) ∷ st)))
-- $unsigned ( operand )
after_expression_action action.UnsignedCall st =
    with_expr st (λ operand st. with_place st (λ place st.
    Some (Value.Expr (ExprValue.Expr (Expr.Unsigned place operand)) ∷ st)))
-- index
after_expression_action action.IndexSelection st =
    with_expr st (λ index st.
    Some (Value.Expr (ExprValue.Selection (Selection.Index index)) ∷ st))
-- high : low
after_expression_action action.RangeSelection st =
    with_expr st (λ low st. with_expr st (λ high st.
    Some (Value.Expr (ExprValue.Selection (Selection.Range high low)) ∷ st)))
-- base +: width
after_expression_action action.UpSelection st =
    with_expr st (λ width st. with_expr st (λ base st.
    Some (Value.Expr (ExprValue.Selection (Selection.Up base width)) ∷ st)))
-- base -: width
after_expression_action action.DownSelection st =
    with_expr st (λ width st. with_expr st (λ base st.
    Some (Value.Expr (ExprValue.Selection (Selection.Down base width)) ∷ st)))
-- no expressions yet
after_expression_action action.NoExprs st = Some (Value.Expr (ExprValue.Exprs []) ∷ st)
-- one more of the expressions
after_expression_action action.AddExpr st =
    with_expr st (λ expr st. with_exprs st (λ exprs st.
    Some (Value.Expr (ExprValue.Exprs (exprs ++ expr ∷ [])) ∷ st)))
-- the first part of a concatenation
after_expression_action action.FirstExpr st = with_expr st (λ expr st. Some (Value.Expr (ExprValue.Exprs (expr ∷ [])) ∷ st))
-- A value that is given
after_expression_action action.SomeExpr st = with_expr st (λ value st. Some (Value.Expr (ExprValue.ExprOption (Some value)) ∷ st))
-- no value
after_expression_action action.NoExpr st = Some (Value.Expr (ExprValue.ExprOption None) ∷ st)
