-- What is wrong with the values of case items (IEEE 1364-2005, 9.5 and 9.5.1).
use Rattle.std.specs.Prelude.{List, false}
use Rattle.v_tree.specs.Starts.{literal_start}
use Rattle.v_tree.specs.declared.expr.Expr.{Expr}
use Rattle.v_tree.specs.declared.expr.Expr as expr
use Rattle.v_tree.specs.declared.stmt.CaseKind.{CaseKind}
use Rattle.v_tree.specs.declared.stmt.CaseKind.TheVariants as kind
use Rattle.offence_order.specs.declared.Offence.{Offence}
use Rattle.elab_names.specs.declared.names.Turn.{Turn}
use Rattle.elab_names.specs.Names.{Scope}
use Rattle.elab_patterns.specs.Patterns.{pattern_constant}
use Rattle.elab_offences.specs.Rules.{literal_fault}
use Rattle.elab_offences.specs.Expressions.{expr_offences}

module _ (names : Scope) (turns : List Turn) where
  -- a value of a `casez` item: an unsigned literal that is itself the value may have digits `z` and `?`
  abbrev pub loose_offences : Expr → List Offence
  loose_offences (expr.Literal l) = literal_fault (literal_start l) (pattern_constant l)
  loose_offences e = expr_offences names turns false e

  -- a value of a case item
  abbrev pub pattern_offences : CaseKind → Expr → List Offence
  pattern_offences kind.Case e = expr_offences names turns false e
  pattern_offences kind.Casez e = loose_offences e
