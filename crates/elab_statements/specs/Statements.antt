-- The flat form of statements, by the names round them and the turns of the loops round them: loops are unrolled (IEEE
-- 1364-2005, clause 9).
use Rattle.std.specs.Prelude.{List, [], ◌∷◌, map}
use Rattle.v_tree.specs.Starts.{target_start}
use Rattle.v_tree.specs.declared.stmt.Assignment.{Assignment}
use Rattle.v_tree.specs.declared.stmt.CaseItem.{CaseItem}
use Rattle.v_tree.specs.declared.stmt.CaseItem as item
use Rattle.v_tree.specs.declared.stmt.CaseKind.{CaseKind}
use Rattle.v_tree.specs.declared.stmt.ForHead.{ForHead}
use Rattle.v_tree.specs.declared.stmt.Stmt.{Stmt}
use Rattle.v_tree.specs.declared.stmt.Stmt as stmt
use Rattle.flat_tree.specs.declared.expr.FlatExpr.{FlatExpr}
use Rattle.v_views.specs.declared.CaseItem as views_item
use Rattle.v_views.specs.declared.CaseItem.TheVariants as choice
use Rattle.v_views.specs.declared.Stmt as views
use Rattle.v_views.specs.declared.Stmt.TheVariants as made
use Rattle.elab_names.specs.declared.constant.Worth.TheVariants.{Value}
use Rattle.elab_names.specs.declared.names.Turn.{Turn}
use Rattle.elab_names.specs.Names.{Scope, find_in}
use Rattle.elab_loops.specs.Loops.{with_turn, taken_turns, integer_number}
use Rattle.elab_flat.specs.Flat.{flat_expr, flat_target}
use Rattle.elab_statements.specs.Patterns.{flat_pattern}

-- a flat statement, and a flat case item
abbrev pub FlatStmt : Type 0
FlatStmt = views.Stmt FlatExpr

-- a branch of a flat `case`
abbrev pub FlatItem : Type 0
FlatItem = views_item.CaseItem FlatExpr

module _ (names : Scope) where
  -- an assignment, blocking or not (9.2)
  abbrev pub flat_assignment : List Turn → Assignment → FlatStmt
  flat_assignment turns a = made.Assignment (target_start a.target) a.kind (flat_target names turns a.target) (flat_expr names turns a.value)

  -- the copies of a loop's body, one for each value of its variable (9.6)
  abbrev pub loop_copies : (List Turn → FlatStmt) → List Turn → ForHead → List FlatStmt
  loop_copies body turns head =
      let integer = integer_number (find_in names head.start.name.name) in
      map (λ v. body (with_turn turns integer (Value v))) (taken_turns names turns integer head)

  abbrev mutual
    -- a statement keeps its form and its place; a loop is the block of its copies, and `;` a block of nothing
    pub flat_stmt : Stmt → List Turn → FlatStmt
    flat_stmt (stmt.Empty place) turns = made.Block place []
    flat_stmt (stmt.Block' place label _ body) turns = made.Block place (flat_body body turns)
    flat_stmt (stmt.If' place condition _ (stmt.more_of-Stmt s _)) turns = made.If place (flat_expr names turns condition) (flat_stmt s turns)
    flat_stmt (stmt.IfElse' place condition _ (stmt.more_of-Stmt s _) _ (stmt.more_of-Stmt other _)) turns =
        made.IfElse place (flat_expr names turns condition) (flat_stmt s turns) (flat_stmt other turns)
    flat_stmt (stmt.Case' place kind value _ items) turns = made.Case place (flat_expr names turns value) (flat_items kind items turns)
    flat_stmt (stmt.For' place head _ (stmt.more_of-Stmt s _)) turns = made.Block place (loop_copies (flat_stmt s) turns head)
    flat_stmt (stmt.Assignment a) turns = flat_assignment turns a

    -- statements one after another
    pub flat_body : {m : _} → stmt.Row_of-Stmt m → List Turn → List FlatStmt
    flat_body stmt.end_of-Stmt turns = []
    flat_body (stmt.more_of-Stmt s rest) turns = flat_stmt s turns ∷ flat_body rest turns

    -- an item of a `case` or `casez` (9.5)
    pub flat_item : CaseKind → CaseItem → List Turn → FlatItem
    flat_item kind (item.Values' values _ (stmt.more_of-Stmt s _)) turns = choice.Values (map (flat_pattern names turns kind) values) (flat_stmt s turns)
    flat_item kind (item.Default' place _ (stmt.more_of-Stmt s _)) turns = choice.Default place (flat_stmt s turns)

    -- the items in order
    pub flat_items : {m : _} → CaseKind → stmt.Row_of-CaseItem m → List Turn → List FlatItem
    flat_items kind stmt.end_of-CaseItem turns = []
    flat_items kind (stmt.more_of-CaseItem c rest) turns = flat_item kind c turns ∷ flat_items kind rest turns
