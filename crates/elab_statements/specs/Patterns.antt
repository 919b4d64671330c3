-- The flat form of the values of case items (IEEE 1364-2005, 9.5 and 9.5.1).
use Rattle.std.specs.Prelude.{List}
use Rattle.v_tree.specs.Starts.{literal_start}
use Rattle.v_tree.specs.declared.expr.Expr.{Expr}
use Rattle.v_tree.specs.declared.expr.Expr as expr
use Rattle.v_tree.specs.declared.expr.Literal.{Literal}
use Rattle.v_tree.specs.declared.stmt.CaseKind.{CaseKind}
use Rattle.v_tree.specs.declared.stmt.CaseKind.TheVariants as kind
use Rattle.flat_tree.specs.declared.expr.FlatExpr.{FlatExpr}
use Rattle.flat_tree.specs.declared.expr.FlatExpr.TheVariants as flat
use Rattle.flat_tree.specs.declared.expr.Number.{Number}
use Rattle.v_views.specs.declared.Pattern.{Pattern}
use Rattle.bits_core.specs.Word.{Word}
use Rattle.elab_names.specs.declared.names.Turn.{Turn}
use Rattle.elab_names.specs.Constants.{literal_standing}
use Rattle.elab_names.specs.Names.{Scope}
use Rattle.elab_patterns.specs.Patterns.{pattern_constant, none_loose, loose_bits}
use Rattle.elab_flat.specs.Numbers.{number_from, lacks_size}
use Rattle.elab_flat.specs.Flat.{flat_expr}

-- a value of a case item
abbrev pub pattern : FlatExpr → Word → Pattern FlatExpr
pattern e loose = record { value = e; loose = loose }

-- the number of a literal of a `casez`, in which digits that don't count are 0
abbrev pub pattern_number : Literal → Number
pattern_number l = number_from (literal_start l) (lacks_size l) (literal_standing (pattern_constant l))

module _ (names : Scope) (turns : List Turn) where
  -- a value of a `casez` item; a literal in parentheses isn't itself the value
  abbrev pub loose_pattern : Expr → Pattern FlatExpr
  loose_pattern (expr.Literal l) = pattern (flat.Literal (pattern_number l)) (loose_bits l)
  loose_pattern e = pattern (flat_expr names turns e) none_loose

  -- a value of a case item; in a `case` all bits count
  abbrev pub flat_pattern : CaseKind → Expr → Pattern FlatExpr
  flat_pattern kind.Case e = pattern (flat_expr names turns e) none_loose
  flat_pattern kind.Casez e = loose_pattern e
