-- What is wrong with an expression, by the names round it and the turns of the loops round it (IEEE 1364-2005, clause 5).
use Rattle.std.specs.Prelude.{ℕ, List, [], ◌++◌, Bool, true, false}
use Rattle.src_text.specs.declared.kind.Kind.TheVariants.{VRange}
use Rattle.v_tree.specs.Starts.{expr_start}
use Rattle.v_tree.specs.declared.expr.Expr.{Expr}
use Rattle.v_tree.specs.declared.expr.Expr as expr
use Rattle.v_tree.specs.declared.expr.Selection.{Selection}
use Rattle.v_tree.specs.declared.expr.Selection as selection
use Rattle.offence_order.specs.declared.Offence.{Offence}
use Rattle.elab_names.specs.declared.names.Turn.{Turn}
use Rattle.elab_names.specs.Names.{Scope, find_in}
use Rattle.elab_names.specs.Selects.{number_of}
use Rattle.elab_names.specs.Measured.{constant_of, choice_of, worth_of}
use Rattle.elab_offences.specs.Rules.{at_if, literal_offences, whole_offences, select_offences, varying_offences, is_out_of, size_offences}

-- in an expression that must be constant, an element of a concatenation that is itself a literal without size
abbrev pub element_offences : Bool → Expr → List Offence
element_offences true (expr.Literal l) = size_offences l
element_offences true e = []
element_offences false e = []

module _ (names : Scope) (turns : List Turn) where
  -- an expression that has to be constant, and isn't
  abbrev pub varying : Expr → List Offence
  varying e = varying_offences (expr_start e) (worth_of (constant_of names turns e))

  -- the width of a `+:` or `-:`, and a count
  abbrev pub span_offences : ℕ → Expr → List Offence
  span_offences most e = at_if (is_out_of most (number_of (constant_of names turns e))) (expr_start e) VRange

  abbrev mutual
    -- where it is fixed, it stands in an expression that must be constant
    pub expr_offences : Bool → Expr → List Offence
    expr_offences fixed (expr.Literal l) = literal_offences l
    expr_offences fixed (expr.Name x) = whole_offences turns x.place (find_in names x.name)
    expr_offences fixed (expr.Select' x _ (expr.more_of-Selection s _)) =
        select_offences turns x.place (find_in names x.name) (choice_of names turns s) ++ selection_offences fixed s
    expr_offences fixed (expr.Unary' operator _ (expr.more_of-Expr p _)) = expr_offences fixed p
    expr_offences fixed (expr.Binary' _ (expr.more_of-Expr p _) operator _ (expr.more_of-Expr q _)) = expr_offences fixed p ++ expr_offences fixed q
    expr_offences fixed (expr.Conditional' _ (expr.more_of-Expr c _) _ (expr.more_of-Expr p _) _ (expr.more_of-Expr q _)) =
        expr_offences fixed c ++ (expr_offences fixed p ++ expr_offences fixed q)
    expr_offences fixed (expr.Parentheses' place _ (expr.more_of-Expr p _)) = expr_offences fixed p
    expr_offences fixed (expr.Concatenation' place _ parts) = parts_offences fixed parts
    expr_offences fixed (expr.Replication' place _ (expr.more_of-Expr count _) _ parts) =
        (expr_offences true count ++ varying count) ++ (span_offences 128 count ++ parts_offences fixed parts)
    expr_offences fixed (expr.Signed' place _ (expr.more_of-Expr p _)) = expr_offences fixed p
    expr_offences fixed (expr.Unsigned' place _ (expr.more_of-Expr p _)) = expr_offences fixed p

    -- bounds and widths must be constant
    pub selection_offences : Bool → Selection → List Offence
    selection_offences fixed (selection.Index' _ (expr.more_of-Expr i _)) = expr_offences fixed i
    selection_offences fixed (selection.Range' _ (expr.more_of-Expr h _) _ (expr.more_of-Expr l _)) =
        (expr_offences true h ++ varying h) ++ (expr_offences true l ++ varying l)
    selection_offences fixed (selection.Up' _ (expr.more_of-Expr b _) _ (expr.more_of-Expr w _)) =
        expr_offences fixed b ++ ((expr_offences true w ++ varying w) ++ span_offences 64 w)
    selection_offences fixed (selection.Down' _ (expr.more_of-Expr b _) _ (expr.more_of-Expr w _)) =
        expr_offences fixed b ++ ((expr_offences true w ++ varying w) ++ span_offences 64 w)

    -- the parts of a concatenation, in order
    pub parts_offences : {m : _} → Bool → expr.Row_of-Expr m → List Offence
    parts_offences fixed expr.end_of-Expr = []
    parts_offences fixed (expr.more_of-Expr p rest) = (element_offences fixed p ++ expr_offences fixed p) ++ parts_offences fixed rest

  -- an expression that must be constant
  abbrev pub constant_offences : Expr → List Offence
  constant_offences e = expr_offences true e ++ varying e

  -- an element of a concatenation
  abbrev pub part_offences : Bool → Expr → List Offence
  part_offences fixed e = element_offences fixed e ++ expr_offences fixed e

  -- a constant from 1 to a greatest one
  abbrev pub spanning_offences : ℕ → Expr → List Offence
  spanning_offences most e = constant_offences e ++ span_offences most e
