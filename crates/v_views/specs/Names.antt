-- Which bits a statement reads and assigns, judged from its text alone: what a select whose index isn't constant
-- reads or writes counts as all bits of its name.
use Rattle.std.specs.Prelude.{ℕ, zero, suc, ◌^◌, List, [], ◌∷◌, Bool, true, false, not, eqb, nat_le, ◌&&◌, ◌||◌, if◌then◌else◌}
use Rattle.v_tree.specs.declared.stmt.AssignmentKind.{AssignmentKind}
use Rattle.v_tree.specs.declared.stmt.AssignmentKind.TheVariants.{Blocking, Nonblocking}
use Rattle.v_views.specs.declared.Selection.{Selection}
use Rattle.v_views.specs.declared.Selection.TheVariants as selection
use Rattle.v_views.specs.declared.Target.{Target}
use Rattle.v_views.specs.declared.Target as target
use Rattle.v_views.specs.declared.Pattern.{Pattern}
use Rattle.v_views.specs.declared.Stmt.{Stmt}
use Rattle.v_views.specs.declared.Stmt as stmt
use Rattle.v_views.specs.declared.CaseItem.{CaseItem}
use Rattle.v_views.specs.declared.CaseItem as item
use Rattle.v_views.specs.Spots.{Spot, View, is_among, is_bit_of}
use Rattle.v_views.specs.Language.{Language, own_fixed}
use Rattle.v_views.specs.Run.{selected, hits, case_length, case_signed}

-- a view and numbers of sites that stand for any: a constant has one value
abbrev pub blank : View
blank x = false

-- the number 0 for each site
abbrev pub no_sites : ℕ → ℕ
no_sites k = 0

-- for all numbers below one
abbrev pub every : ℕ → (ℕ → Bool) → Bool
every zero f = true
every (suc n) f = f n && every n f

module _ {E : Type 0} (l : Language E) where
  -- whether the places of a selection are the same in every view
  abbrev pub is_sure : Selection E → Bool
  is_sure selection.Whole = true
  is_sure (selection.Bit i) = own_fixed l i
  is_sure (selection.Part high low) = true
  is_sure (selection.Up i width) = own_fixed l i
  is_sure (selection.Down i width) = own_fixed l i

  -- whether a bit is among the places of a selection, where these are the same in every view
  abbrev pub is_selected : ℕ → Selection E → Spot → Bool
  is_selected g s x = is_among (selected l no_sites g s blank 0) x

  -- a write with an index that isn't constant assigns no bit for certain
  abbrev pub certain_part : ℕ → Selection E → Spot → Bool
  certain_part g s x = is_sure s && is_selected g s x

  -- a write with an index that isn't constant may assign each bit of the name
  abbrev pub part_assigns : ℕ → Selection E → Spot → Bool
  part_assigns g s x = if is_sure s then is_selected g s x else is_bit_of (l.shape g) g x

  -- a target reads what its index reads
  abbrev pub part_reads : Selection E → Spot → Bool
  part_reads selection.Whole x = false
  part_reads (selection.Bit i) x = l.reads i x
  part_reads (selection.Part high low) x = false
  part_reads (selection.Up i width) x = l.reads i x
  part_reads (selection.Down i width) x = l.reads i x

  -- the bits that a target assigns for certain
  abbrev mutual
    pub target_certain : Target E → Spot → Bool
    target_certain (target.Signal p g s) x = certain_part g s x
    target_certain (target.Concatenation' p _ parts) x = parts_certain parts x

    pub parts_certain : {m : _} → target.Row_of-Target E m → Spot → Bool
    parts_certain target.end_of-Target x = false
    parts_certain (target.more_of-Target t rest) x = target_certain t x || parts_certain rest x

  -- the bits that a target may assign
  abbrev mutual
    pub target_assigns : Target E → Spot → Bool
    target_assigns (target.Signal p g s) x = part_assigns g s x
    target_assigns (target.Concatenation' p _ parts) x = parts_assign parts x

    pub parts_assign : {m : _} → target.Row_of-Target E m → Spot → Bool
    parts_assign target.end_of-Target x = false
    parts_assign (target.more_of-Target t rest) x = target_assigns t x || parts_assign rest x

  -- the bits that the indexes in a target read
  abbrev mutual
    pub target_reads : Target E → Spot → Bool
    target_reads (target.Signal p g s) x = part_reads s x
    target_reads (target.Concatenation' p _ parts) x = parts_read parts x

    pub parts_read : {m : _} → target.Row_of-Target E m → Spot → Bool
    parts_read target.end_of-Target x = false
    parts_read (target.more_of-Target t rest) x = target_reads t x || parts_read rest x

  -- the bits that the values of a case item read
  abbrev pub patterns_read : List (Pattern E) → Spot → Bool
  patterns_read [] x = false
  patterns_read (p ∷ ps) x = l.reads p.value x || patterns_read ps x

  -- whether all values of a case item are constant, at the width and sign of the case
  abbrev pub patterns_fixed : ℕ → Bool → List (Pattern E) → Bool
  patterns_fixed w sign [] = true
  patterns_fixed w sign (p ∷ ps) = l.fixed p.value w sign && patterns_fixed w sign ps

  -- the bits that the values of all items of a case read
  abbrev pub items_read : {m : _} → stmt.Row_of-CaseItem E m → Spot → Bool
  items_read stmt.end_of-CaseItem x = false
  items_read (stmt.more_of-CaseItem (item.Values' ps _ a) rest) x = patterns_read ps x || items_read rest x
  items_read (stmt.more_of-CaseItem (item.Default' p _ a) rest) x = items_read rest x

  -- whether the values of all items of a case are constant
  abbrev pub items_fixed : {m : _} → ℕ → Bool → stmt.Row_of-CaseItem E m → Bool
  items_fixed w sign stmt.end_of-CaseItem = true
  items_fixed w sign (stmt.more_of-CaseItem (item.Values' ps _ a) rest) = patterns_fixed w sign ps && items_fixed w sign rest
  items_fixed w sign (stmt.more_of-CaseItem (item.Default' p _ a) rest) = items_fixed w sign rest

  -- whether one of the items of a case is its default
  abbrev pub has_default : {m : _} → stmt.Row_of-CaseItem E m → Bool
  has_default stmt.end_of-CaseItem = false
  has_default (stmt.more_of-CaseItem (item.Values' ps _ a) rest) = has_default rest
  has_default (stmt.more_of-CaseItem (item.Default' p _ a) rest) = true

  -- whether a number matches an item whose values are constant
  abbrev pub is_met : {m : _} → ℕ → Bool → stmt.Row_of-CaseItem E m → ℕ → Bool
  is_met w sign stmt.end_of-CaseItem n = false
  is_met w sign (stmt.more_of-CaseItem (item.Values' ps _ a) rest) n = hits l no_sites w sign n ps blank 0 || is_met w sign rest n
  is_met w sign (stmt.more_of-CaseItem (item.Default' p _ a) rest) n = is_met w sign rest n

  -- whether a case without default runs some branch in any case: at most 8 bits wide, its items constant, and each
  -- value matches an item
  abbrev pub is_complete : {m : _} → ℕ → Bool → stmt.Row_of-CaseItem E m → Bool
  is_complete w sign items = nat_le w 8 && (items_fixed w sign items && every (2 ^ w) (is_met w sign items))

  -- with a default or complete: some branch runs
  abbrev pub is_full : {m : _} → E → stmt.Row_of-CaseItem E m → Bool
  is_full e items = has_default items || is_complete (case_length l (l.length e) items) (case_signed l (l.signed e) items) items

  -- the bits assigned by `=` on every path
  abbrev mutual
    pub certain : Stmt E → Spot → Bool
    certain (stmt.Block' p _ body) x = row_certain body x
    certain (stmt.If' p e _ a) x = false
    certain (stmt.IfElse' p e _ (stmt.more_of-Stmt a _) _ (stmt.more_of-Stmt b _)) x = certain a x && certain b x
    certain (stmt.Case' p e _ items) x = is_full e items && items_certain items x
    certain (stmt.Assignment p Blocking t e) x = target_certain t x
    certain (stmt.Assignment p Nonblocking t e) x = false

    -- of a sequence, what any of its statements assigns
    pub row_certain : {m : _} → stmt.Row_of-Stmt E m → Spot → Bool
    row_certain stmt.end_of-Stmt x = false
    row_certain (stmt.more_of-Stmt a rest) x = certain a x || row_certain rest x

    -- of the branches of a case, what all of them assign
    pub items_certain : {m : _} → stmt.Row_of-CaseItem E m → Spot → Bool
    items_certain stmt.end_of-CaseItem x = true
    items_certain (stmt.more_of-CaseItem (item.Values' ps _ (stmt.more_of-Stmt a _)) rest) x = certain a x && items_certain rest x
    items_certain (stmt.more_of-CaseItem (item.Default' p _ (stmt.more_of-Stmt a _)) rest) x = certain a x && items_certain rest x

  -- the bits that are read where they aren't assigned on every path before
  abbrev mutual
    pub outside : Stmt E → Spot → Bool
    outside (stmt.Block' p _ body) x = row_outside body x
    outside (stmt.If' p e _ (stmt.more_of-Stmt a _)) x = l.reads e x || outside a x
    outside (stmt.IfElse' p e _ (stmt.more_of-Stmt a _) _ (stmt.more_of-Stmt b _)) x = l.reads e x || (outside a x || outside b x)
    outside (stmt.Case' p e _ items) x = l.reads e x || (items_read items x || items_outside items x)
    outside (stmt.Assignment p kind t e) x = target_reads t x || l.reads e x

    pub row_outside : {m : _} → stmt.Row_of-Stmt E m → Spot → Bool
    row_outside stmt.end_of-Stmt x = false
    row_outside (stmt.more_of-Stmt a rest) x = outside a x || (not (certain a x) && row_outside rest x)

    pub items_outside : {m : _} → stmt.Row_of-CaseItem E m → Spot → Bool
    items_outside stmt.end_of-CaseItem x = false
    items_outside (stmt.more_of-CaseItem (item.Values' ps _ (stmt.more_of-Stmt a _)) rest) x = outside a x || items_outside rest x
    items_outside (stmt.more_of-CaseItem (item.Default' p _ (stmt.more_of-Stmt a _)) rest) x = outside a x || items_outside rest x

  -- the bits read anywhere
  abbrev mutual
    pub stmt_reads : Stmt E → Spot → Bool
    stmt_reads (stmt.Block' p _ body) x = row_reads body x
    stmt_reads (stmt.If' p e _ (stmt.more_of-Stmt a _)) x = l.reads e x || stmt_reads a x
    stmt_reads (stmt.IfElse' p e _ (stmt.more_of-Stmt a _) _ (stmt.more_of-Stmt b _)) x = l.reads e x || (stmt_reads a x || stmt_reads b x)
    stmt_reads (stmt.Case' p e _ items) x = l.reads e x || (items_read items x || bodies_read items x)
    stmt_reads (stmt.Assignment p kind t e) x = target_reads t x || l.reads e x

    pub row_reads : {m : _} → stmt.Row_of-Stmt E m → Spot → Bool
    row_reads stmt.end_of-Stmt x = false
    row_reads (stmt.more_of-Stmt a rest) x = stmt_reads a x || row_reads rest x

    pub bodies_read : {m : _} → stmt.Row_of-CaseItem E m → Spot → Bool
    bodies_read stmt.end_of-CaseItem x = false
    bodies_read (stmt.more_of-CaseItem (item.Values' ps _ (stmt.more_of-Stmt a _)) rest) x = stmt_reads a x || bodies_read rest x
    bodies_read (stmt.more_of-CaseItem (item.Default' p _ (stmt.more_of-Stmt a _)) rest) x = stmt_reads a x || bodies_read rest x

  -- whether two assignments are of one kind: both `=`, or both `<=`
  abbrev pub is_kind : AssignmentKind → AssignmentKind → Bool
  is_kind Blocking Blocking = true
  is_kind Blocking Nonblocking = false
  is_kind Nonblocking Blocking = false
  is_kind Nonblocking Nonblocking = true

  -- the bits assigned somewhere by `=`, or by `<=`
  abbrev mutual
    pub assigns : AssignmentKind → Stmt E → Spot → Bool
    assigns by (stmt.Block' p _ body) x = row_assigns by body x
    assigns by (stmt.If' p e _ (stmt.more_of-Stmt a _)) x = assigns by a x
    assigns by (stmt.IfElse' p e _ (stmt.more_of-Stmt a _) _ (stmt.more_of-Stmt b _)) x = assigns by a x || assigns by b x
    assigns by (stmt.Case' p e _ items) x = items_assign by items x
    assigns by (stmt.Assignment p kind t e) x = is_kind by kind && target_assigns t x

    pub row_assigns : {m : _} → AssignmentKind → stmt.Row_of-Stmt E m → Spot → Bool
    row_assigns by stmt.end_of-Stmt x = false
    row_assigns by (stmt.more_of-Stmt a rest) x = assigns by a x || row_assigns by rest x

    pub items_assign : {m : _} → AssignmentKind → stmt.Row_of-CaseItem E m → Spot → Bool
    items_assign by stmt.end_of-CaseItem x = false
    items_assign by (stmt.more_of-CaseItem (item.Values' ps _ (stmt.more_of-Stmt a _)) rest) x = assigns by a x || items_assign by rest x
    items_assign by (stmt.more_of-CaseItem (item.Default' p _ (stmt.more_of-Stmt a _)) rest) x = assigns by a x || items_assign by rest x

  -- the names in a target
  abbrev mutual
    pub target_names : Target E → ℕ → Bool
    target_names (target.Signal p g s) h = eqb g h
    target_names (target.Concatenation' p _ parts) h = parts_name parts h

    pub parts_name : {m : _} → target.Row_of-Target E m → ℕ → Bool
    parts_name target.end_of-Target h = false
    parts_name (target.more_of-Target t rest) h = target_names t h || parts_name rest h

  -- the names that a statement assigns somewhere by `=`, or by `<=`
  abbrev mutual
    pub names : AssignmentKind → Stmt E → ℕ → Bool
    names by (stmt.Block' p _ body) g = row_names by body g
    names by (stmt.If' p e _ (stmt.more_of-Stmt a _)) g = names by a g
    names by (stmt.IfElse' p e _ (stmt.more_of-Stmt a _) _ (stmt.more_of-Stmt b _)) g = names by a g || names by b g
    names by (stmt.Case' p e _ items) g = items_name by items g
    names by (stmt.Assignment p kind t e) g = is_kind by kind && target_names t g

    pub row_names : {m : _} → AssignmentKind → stmt.Row_of-Stmt E m → ℕ → Bool
    row_names by stmt.end_of-Stmt g = false
    row_names by (stmt.more_of-Stmt a rest) g = names by a g || row_names by rest g

    pub items_name : {m : _} → AssignmentKind → stmt.Row_of-CaseItem E m → ℕ → Bool
    items_name by stmt.end_of-CaseItem g = false
    items_name by (stmt.more_of-CaseItem (item.Values' ps _ (stmt.more_of-Stmt a _)) rest) g = names by a g || items_name by rest g
    items_name by (stmt.more_of-CaseItem (item.Default' p _ (stmt.more_of-Stmt a _)) rest) g = names by a g || items_name by rest g
