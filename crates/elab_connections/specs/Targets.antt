-- Expressions that outputs are connected to, as targets (IEEE 1364-2005, 12.3.9.2 and A.8.5).
use Rattle.std.specs.Prelude.{List, [], ◌∷◌}
use Rattle.v_tree.specs.Starts.{expr_start}
use Rattle.v_tree.specs.declared.expr.Expr.{Expr}
use Rattle.v_tree.specs.declared.expr.Expr as expr
use Rattle.v_views.specs.declared.Selection.TheVariants as which
use Rattle.v_views.specs.declared.Target.{Target}
use Rattle.v_views.specs.declared.Target.TheVariants as made
use Rattle.flat_tree.specs.declared.expr.FlatExpr.{FlatExpr}
use Rattle.elab_names.specs.Names.{Scope, find_in}
use Rattle.elab_flat.specs.Numbers.{signal_number}
use Rattle.elab_flat.specs.Flat.{flat_which}

module _ (names : Scope) where
  abbrev mutual
    -- a name, a select or a concatenation is a target; what is none is an offence, and drives nothing
    pub output_target : Expr → Target FlatExpr
    output_target (expr.Name x) = made.Signal x.place (signal_number (find_in names x.name)) which.Whole
    output_target (expr.Select' x _ (expr.more_of-Selection s _)) = made.Signal x.place (signal_number (find_in names x.name)) (flat_which names [] s)
    output_target (expr.Concatenation' place _ parts) = made.Concatenation place (output_parts parts)
    output_target e = made.Concatenation (expr_start e) []

    -- the parts of a concatenation, in order
    pub output_parts : {m : _} → expr.Row_of-Expr m → List (Target FlatExpr)
    output_parts expr.end_of-Expr = []
    output_parts (expr.more_of-Expr p rest) = output_target p ∷ output_parts rest
