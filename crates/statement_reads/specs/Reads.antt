-- The bits that flat statements read anywhere (IEEE 1364-2005, 9.2 to 9.5).
use Rattle.std.specs.Prelude.{◌≡◌, ℕ, Bool, ◌||◌, List, All}
use Rattle.std.specs.List.{list_any}
use Rattle.bit_sets.specs.declared.Bits.{Bits}
use Rattle.bit_sets.specs.Sets.{is_in}
use Rattle.v_views.specs.declared.Selection.{Selection}
use Rattle.v_views.specs.declared.Selection.TheVariants as selection
use Rattle.v_views.specs.declared.Target.{Target}
use Rattle.v_views.specs.declared.Target as target
use Rattle.v_views.specs.declared.Pattern.{Pattern}
use Rattle.v_views.specs.declared.Stmt.{Stmt}
use Rattle.v_views.specs.declared.Stmt as stmt
use Rattle.v_views.specs.declared.CaseItem.{CaseItem}
use Rattle.v_views.specs.declared.CaseItem as item
use Rattle.v_views.specs.Spots.{Spot, spot}
use Rattle.v_views.specs.Language.{Language}
use Rattle.v_views.specs.Names.{part_reads, target_reads, patterns_read, stmt_reads}
use Rattle.flat_tree.specs.declared.expr.FlatExpr.{FlatExpr}
use Rattle.flat_tree.specs.declared.design.FlatSignal.{FlatSignal}
use Rattle.flat_tree.specs.Values.{Shape}
use Rattle.flat_language.proofs.Local.{flat_language}
use Rattle.flat_reads.specs.Sets.{IsReadable}

module _ (signals : List FlatSignal) where
  -- the index of a selection is taken, where it has one
  abbrev pub HasReadable : Selection FlatExpr → Type 0
  HasReadable selection.Whole = Unit {0}
  HasReadable (selection.Bit i) = IsReadable signals i
  HasReadable (selection.Part high low) = Unit {0}
  HasReadable (selection.Up i n) = IsReadable signals i
  HasReadable (selection.Down i n) = IsReadable signals i

  abbrev mutual
    -- each index in a target is taken
    pub ReadableTarget : Target FlatExpr → Type 0
    ReadableTarget (target.Signal p g s) = HasReadable s
    ReadableTarget (target.Concatenation' p _ parts) = ReadableParts parts

    -- of a concatenation
    pub ReadableParts : {m : _} → target.Row_of-Target FlatExpr m → Type 0
    ReadableParts target.end_of-Target = Unit {0}
    ReadableParts (target.more_of-Target t rest) = ReadableTarget t × ReadableParts rest

  -- a value of a case item is taken
  abbrev pub IsReadablePattern : Pattern FlatExpr → Type 0
  IsReadablePattern p = IsReadable signals p.value

  abbrev mutual
    -- each expression in a statement is taken
    pub ReadableStmt : Stmt FlatExpr → Type 0
    ReadableStmt (stmt.Block' p _ body) = ReadableBody body
    ReadableStmt (stmt.If' p e _ (stmt.more_of-Stmt a _)) = IsReadable signals e × ReadableStmt a
    ReadableStmt (stmt.IfElse' p e _ (stmt.more_of-Stmt a _) _ (stmt.more_of-Stmt b _)) = IsReadable signals e × ReadableStmt a × ReadableStmt b
    ReadableStmt (stmt.Case' p e _ items) = IsReadable signals e × ReadableItems items
    ReadableStmt (stmt.Assignment p kind t e) = ReadableTarget t × IsReadable signals e

    -- of a block
    pub ReadableBody : {m : _} → stmt.Row_of-Stmt FlatExpr m → Type 0
    ReadableBody stmt.end_of-Stmt = Unit {0}
    ReadableBody (stmt.more_of-Stmt a rest) = ReadableStmt a × ReadableBody rest

    -- of a case
    pub ReadableItems : {m : _} → stmt.Row_of-CaseItem FlatExpr m → Type 0
    ReadableItems stmt.end_of-CaseItem = Unit {0}
    ReadableItems (stmt.more_of-CaseItem a rest) = ReadableItem a × ReadableItems rest

    -- of one of its items
    pub ReadableItem : CaseItem FlatExpr → Type 0
    ReadableItem (item.Values' ps _ (stmt.more_of-Stmt a _)) = All IsReadablePattern ps × ReadableStmt a
    ReadableItem (item.Default' p _ (stmt.more_of-Stmt a _)) = ReadableStmt a

-- whether an item of a case reads a bit, by its values or by its statement
abbrev pub item_reads : Language FlatExpr → CaseItem FlatExpr → Spot → Bool
item_reads l (item.Values' ps _ (stmt.more_of-Stmt a _)) x = patterns_read l ps x || stmt_reads l a x
item_reads l (item.Default' p _ (stmt.more_of-Stmt a _)) x = stmt_reads l a x

module _ (shapes : ℕ → Shape) where
  -- the bits that the index of a selection reads were added to a set
  abbrev pub AddsSelection : Selection FlatExpr → List Bits → List Bits → Type 0
  AddsSelection s old new = (g k : ℕ) → is_in new g k ≡ (is_in old g k || part_reads (flat_language shapes) s (spot g 0 k))

  -- those that the indexes in a target read
  abbrev pub AddsTarget : Target FlatExpr → List Bits → List Bits → Type 0
  AddsTarget t old new = (g k : ℕ) → is_in new g k ≡ (is_in old g k || target_reads (flat_language shapes) t (spot g 0 k))

  -- those of some targets
  abbrev pub AddsParts : List (Target FlatExpr) → List Bits → List Bits → Type 0
  AddsParts parts old new = (g k : ℕ) → is_in new g k ≡ (is_in old g k || list_any (λ t. target_reads (flat_language shapes) t (spot g 0 k)) parts)

  -- those that the values of a case item read
  abbrev pub AddsPatterns : List (Pattern FlatExpr) → List Bits → List Bits → Type 0
  AddsPatterns ps old new = (g k : ℕ) → is_in new g k ≡ (is_in old g k || list_any (λ (p : Pattern FlatExpr). (flat_language shapes).reads p.value (spot g 0 k)) ps)

  -- those that a statement reads
  abbrev pub AddsStmt : Stmt FlatExpr → List Bits → List Bits → Type 0
  AddsStmt s old new = (g k : ℕ) → is_in new g k ≡ (is_in old g k || stmt_reads (flat_language shapes) s (spot g 0 k))

  -- those of some statements
  abbrev pub AddsBody : List (Stmt FlatExpr) → List Bits → List Bits → Type 0
  AddsBody body old new = (g k : ℕ) → is_in new g k ≡ (is_in old g k || list_any (λ s. stmt_reads (flat_language shapes) s (spot g 0 k)) body)

  -- those of an item of a case
  abbrev pub AddsItem : CaseItem FlatExpr → List Bits → List Bits → Type 0
  AddsItem i old new = (g k : ℕ) → is_in new g k ≡ (is_in old g k || item_reads (flat_language shapes) i (spot g 0 k))

  -- those of some items
  abbrev pub AddsItems : List (CaseItem FlatExpr) → List Bits → List Bits → Type 0
  AddsItems items old new = (g k : ℕ) → is_in new g k ≡ (is_in old g k || list_any (λ i. item_reads (flat_language shapes) i (spot g 0 k)) items)
