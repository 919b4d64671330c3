-- The bits that flat statements may assign (IEEE 1364-2005, 9.2 to 9.5).
use Rattle.std.specs.Prelude.{◌≡◌, ℕ, Bool, ◌&&◌, ◌||◌, List}
use Rattle.std.specs.List.{list_any}
use Rattle.bit_sets.specs.declared.Bits.{Bits}
use Rattle.bit_sets.specs.Sets.{is_in}
use Rattle.v_tree.specs.declared.stmt.AssignmentKind.{AssignmentKind}
use Rattle.v_views.specs.declared.Target.{Target}
use Rattle.v_views.specs.declared.Stmt.{Stmt}
use Rattle.v_views.specs.declared.Stmt as stmt
use Rattle.v_views.specs.declared.CaseItem.{CaseItem}
use Rattle.v_views.specs.declared.CaseItem as item
use Rattle.v_views.specs.Spots.{Spot, spot}
use Rattle.v_views.specs.Language.{Language}
use Rattle.v_views.specs.Names.{is_kind, target_assigns, assigns}
use Rattle.flat_tree.specs.declared.expr.FlatExpr.{FlatExpr}
use Rattle.flat_tree.specs.declared.design.FlatSignal.{FlatSignal}
use Rattle.flat_tree.specs.Values.{Shape}
use Rattle.flat_language.proofs.Local.{flat_language}
use Rattle.flat_writes.specs.Writes.{FitsTarget}

module _ (signals : List FlatSignal) where
  abbrev mutual
    -- each target of a statement is taken
    pub FitsStmt : Stmt FlatExpr → Type 0
    FitsStmt (stmt.Block' p _ body) = FitsBody body
    FitsStmt (stmt.If' p e _ (stmt.more_of-Stmt a _)) = FitsStmt a
    FitsStmt (stmt.IfElse' p e _ (stmt.more_of-Stmt a _) _ (stmt.more_of-Stmt b _)) = FitsStmt a × FitsStmt b
    FitsStmt (stmt.Case' p e _ items) = FitItems items
    FitsStmt (stmt.Assignment p kind t e) = FitsTarget signals t

    -- of a block
    pub FitsBody : {m : _} → stmt.Row_of-Stmt FlatExpr m → Type 0
    FitsBody stmt.end_of-Stmt = Unit {0}
    FitsBody (stmt.more_of-Stmt a rest) = FitsStmt a × FitsBody rest

    -- of a case
    pub FitItems : {m : _} → stmt.Row_of-CaseItem FlatExpr m → Type 0
    FitItems stmt.end_of-CaseItem = Unit {0}
    FitItems (stmt.more_of-CaseItem a rest) = FitsItem a × FitItems rest

    -- of one of its items
    pub FitsItem : CaseItem FlatExpr → Type 0
    FitsItem (item.Values' ps _ (stmt.more_of-Stmt a _)) = FitsStmt a
    FitsItem (item.Default' p _ (stmt.more_of-Stmt a _)) = FitsStmt a

-- whether two assignments are of one kind; no expression matters to it
abbrev pub IsSame : AssignmentKind → AssignmentKind → Bool → Type 0
IsSame by kind same = (l : Language FlatExpr) → same ≡ is_kind l by kind

-- whether an item of a case assigns a bit
abbrev pub item_assigns : Language FlatExpr → AssignmentKind → CaseItem FlatExpr → Spot → Bool
item_assigns l by (item.Values' ps _ (stmt.more_of-Stmt a _)) x = assigns l by a x
item_assigns l by (item.Default' p _ (stmt.more_of-Stmt a _)) x = assigns l by a x

module _ (shapes : ℕ → Shape) (by : AssignmentKind) where
  -- the bits of a target were added to a set, if its assignment is of one kind
  abbrev pub AddsTarget : AssignmentKind → Target FlatExpr → List Bits → List Bits → Type 0
  AddsTarget kind t old new = (g k : ℕ) → is_in new g k ≡ (is_in old g k || (is_kind (flat_language shapes) by kind && target_assigns (flat_language shapes) t (spot g 0 k)))

  -- the bits that a statement assigns by one kind were added to a set
  abbrev pub AddsStmt : Stmt FlatExpr → List Bits → List Bits → Type 0
  AddsStmt s old new = (g k : ℕ) → is_in new g k ≡ (is_in old g k || assigns (flat_language shapes) by s (spot g 0 k))

  -- those of some statements
  abbrev pub AddsBody : List (Stmt FlatExpr) → List Bits → List Bits → Type 0
  AddsBody body old new = (g k : ℕ) → is_in new g k ≡ (is_in old g k || list_any (λ s. assigns (flat_language shapes) by s (spot g 0 k)) body)

  -- those of an item of a case
  abbrev pub AddsItem : CaseItem FlatExpr → List Bits → List Bits → Type 0
  AddsItem i old new = (g k : ℕ) → is_in new g k ≡ (is_in old g k || item_assigns (flat_language shapes) by i (spot g 0 k))

  -- those of some items
  abbrev pub AddsItems : List (CaseItem FlatExpr) → List Bits → List Bits → Type 0
  AddsItems items old new = (g k : ℕ) → is_in new g k ≡ (is_in old g k || list_any (λ i. item_assigns (flat_language shapes) by i (spot g 0 k)) items)
