-- The flat form of expressions and targets, by the names round them and the turns of the loops round them: signals are
-- numbers, and what must be constant is its value (IEEE 1364-2005, clause 5 and A.8.5).
use Rattle.std.specs.Prelude.{ℕ, List, [], ◌∷◌}
use Rattle.v_tree.specs.declared.expr.Expr.{Expr}
use Rattle.v_tree.specs.declared.expr.Expr as expr
use Rattle.v_tree.specs.declared.expr.Selection.{Selection}
use Rattle.v_tree.specs.declared.expr.Selection as selection
use Rattle.v_tree.specs.declared.stmt.Target.{Target}
use Rattle.v_tree.specs.declared.stmt.Target as target
use Rattle.flat_tree.specs.declared.expr.FlatExpr.{FlatExpr}
use Rattle.flat_tree.specs.declared.expr.FlatExpr.TheVariants as flat
use Rattle.flat_tree.specs.declared.expr.FlatSelection.{FlatSelection}
use Rattle.flat_tree.specs.declared.expr.FlatSelection.TheVariants as part
use Rattle.v_views.specs.declared.Selection as views
use Rattle.v_views.specs.declared.Selection.TheVariants as which
use Rattle.v_views.specs.declared.Target as written
use Rattle.v_views.specs.declared.Target.TheVariants as made
use Rattle.elab_names.specs.declared.names.Turn.{Turn}
use Rattle.elab_names.specs.Names.{Scope, find_in}
use Rattle.elab_names.specs.Selects.{number_of}
use Rattle.elab_names.specs.Measured.{constant_of}
use Rattle.elab_flat.specs.Numbers.{literal_number, flat_name, flat_select, up_to, signal_number}

module _ (names : Scope) (turns : List Turn) where
  -- the value of an expression that must be constant, up to a greatest one
  abbrev pub known : ℕ → Expr → ℕ
  known most e = up_to most (number_of (constant_of names turns e))

  abbrev mutual
    -- names become signals or the numbers that they stand for; all else keeps its form
    pub flat_expr : Expr → FlatExpr
    flat_expr (expr.Literal l) = flat.Literal (literal_number l)
    flat_expr (expr.Name x) = flat_name turns x.place (find_in names x.name)
    flat_expr (expr.Select' x _ (expr.more_of-Selection s _)) = flat_select turns x.place (find_in names x.name) (flat_selection s)
    flat_expr (expr.Unary' operator _ (expr.more_of-Expr p _)) = flat.Unary operator (flat_expr p)
    flat_expr (expr.Binary' _ (expr.more_of-Expr p _) operator _ (expr.more_of-Expr q _)) = flat.Binary (flat_expr p) operator (flat_expr q)
    flat_expr (expr.Conditional' _ (expr.more_of-Expr c _) _ (expr.more_of-Expr p _) _ (expr.more_of-Expr q _)) = flat.Conditional (flat_expr c) (flat_expr p) (flat_expr q)
    flat_expr (expr.Parentheses' place _ (expr.more_of-Expr p _)) = flat.Parentheses place (flat_expr p)
    flat_expr (expr.Concatenation' place _ parts) = flat.Concatenation place (flat_parts parts)
    flat_expr (expr.Replication' place _ (expr.more_of-Expr count _) _ parts) = flat.Replication place (known 128 count) (flat_parts parts)
    flat_expr (expr.Signed' place _ (expr.more_of-Expr p _)) = flat.Signed place (flat_expr p)
    flat_expr (expr.Unsigned' place _ (expr.more_of-Expr p _)) = flat.Unsigned place (flat_expr p)

    -- a part's ends and the widths of `+:` and `-:` become numbers
    pub flat_selection : Selection → FlatSelection
    flat_selection (selection.Index' _ (expr.more_of-Expr i _)) = part.Bit (flat_expr i)
    flat_selection (selection.Range' _ (expr.more_of-Expr h _) _ (expr.more_of-Expr l _)) = part.Part (known 4294967295 h) (known 4294967295 l)
    flat_selection (selection.Up' _ (expr.more_of-Expr b _) _ (expr.more_of-Expr w _)) = part.Up (flat_expr b) (known 64 w)
    flat_selection (selection.Down' _ (expr.more_of-Expr b _) _ (expr.more_of-Expr w _)) = part.Down (flat_expr b) (known 64 w)

    -- the parts of a concatenation, in order
    pub flat_parts : {m : _} → expr.Row_of-Expr m → List FlatExpr
    flat_parts expr.end_of-Expr = []
    flat_parts (expr.more_of-Expr p rest) = flat_expr p ∷ flat_parts rest

  -- which bits of a signal are written
  abbrev pub flat_which : Selection → views.Selection FlatExpr
  flat_which (selection.Index' _ (expr.more_of-Expr i _)) = which.Bit (flat_expr i)
  flat_which (selection.Range' _ (expr.more_of-Expr h _) _ (expr.more_of-Expr l _)) = which.Part (known 4294967295 h) (known 4294967295 l)
  flat_which (selection.Up' _ (expr.more_of-Expr b _) _ (expr.more_of-Expr w _)) = which.Up (flat_expr b) (known 64 w)
  flat_which (selection.Down' _ (expr.more_of-Expr b _) _ (expr.more_of-Expr w _)) = which.Down (flat_expr b) (known 64 w)

  abbrev mutual
    -- a name becomes the number of its signal, with the bits that are written
    pub flat_target : Target → written.Target FlatExpr
    flat_target (target.Name x) = made.Signal x.place (signal_number (find_in names x.name)) which.Whole
    flat_target (target.Select x s) = made.Signal x.place (signal_number (find_in names x.name)) (flat_which s)
    flat_target (target.Concatenation' place _ parts) = made.Concatenation place (target_parts parts)

    -- the parts of a concatenation, in order
    pub target_parts : {m : _} → target.Row_of-Target m → List (written.Target FlatExpr)
    target_parts target.end_of-Target = []
    target_parts (target.more_of-Target t rest) = flat_target t ∷ target_parts rest
