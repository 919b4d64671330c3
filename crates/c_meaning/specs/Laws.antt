-- What typed expressions have of their sources.
use Rattle.std.specs.Prelude.{ℕ, ◌+◌, ◌≤◌, List, ◌++◌, length}
use Rattle.c_tree.specs.declared.expressions.Expression.{Expression}
use Rattle.joint_ir.specs.WellFormed as well
use Rattle.joint_ir.specs.WellFormed.{FitsExpr}
use Rattle.c_words.specs.declared.notes.Site.{Site}
use Rattle.c_names.specs.Scope.{Scope}
use Rattle.c_expressions.specs.Expressions.{typed_of, sites_in}
use Rattle.c_expressions.specs.Values.{StandAt, HasMeaning}
use Rattle.c_meaning.specs.Sound.{AreThere, AreProps, AreBytes}

-- an expression's typed form has its type, and its value in every store, checks included
abbrev pub ExpressionsMean : Type 0
ExpressionsMean = (env : List Scope) (all : List Site) (at : ℕ) (e : Expression) → StandAt all at (sites_in env e) → HasMeaning env all e (typed_of env at e)

-- it is well-formed where each visible object is there and each property has its kind
abbrev pub ExpressionsFit : Type 0
ExpressionsFit =
    (c : well.Scope) (all : List Site) → AreProps all c.program → (env : List Scope) → AreThere c env →
    (at : ℕ) (e : Expression) → AreBytes e → StandAt all at (sites_in env e) → FitsExpr c (typed_of env at e)

-- properties that were noted one after another stand among all of them
abbrev pub NotedStand : Type 0
NotedStand = (before s after : List Site) → length before + length s ≤ 4294967296 → StandAt (before ++ (s ++ after)) (length before) s
