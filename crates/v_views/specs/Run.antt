-- What processes do to a view (IEEE 1364-2005, clause 9).
use Rattle.std.specs.Prelude.{ℕ, zero, suc, ◌+◌, ◌-◌, max, List, [], ◌∷◌, ◌++◌, Option, Bool, true, false, not, nat_lt, ◌&&◌, ◌||◌, if◌then◌else◌, pos, ◌-ℤ◌}
use Rattle.v_tree.specs.declared.stmt.AssignmentKind.{AssignmentKind}
use Rattle.v_tree.specs.declared.stmt.AssignmentKind.TheVariants.{Blocking, Nonblocking}
use Rattle.v_views.specs.declared.Selection.{Selection}
use Rattle.v_views.specs.declared.Selection.TheVariants as selection
use Rattle.v_views.specs.declared.Target.{Target}
use Rattle.v_views.specs.declared.Target as target
use Rattle.v_views.specs.declared.Pattern.{Pattern}
use Rattle.v_views.specs.declared.Stmt.{Stmt}
use Rattle.v_views.specs.declared.Stmt as stmt
use Rattle.v_views.specs.declared.CaseItem.{CaseItem}
use Rattle.v_views.specs.declared.CaseItem as item
use Rattle.v_views.specs.Spots.{Spot, View, bit_of, BitWrite, written, spread, range_at, bits_at, word_at}
use Rattle.v_views.specs.Language.{Language, own, own_sites, index}

-- whether two truths are the same
abbrev pub eq_bool : Bool → Bool → Bool
eq_bool true b = b
eq_bool false b = not b

-- a view, and the updates of nonblocking assignments that wait, in the order of the assignments (9.2.2)
pub record State : Type 0 where
  pub view : View
  pub pending : List BitWrite

-- a blocking assignment takes effect at once, a nonblocking one when all processes have run (9.2.1, 9.2.2)
abbrev pub assigned : AssignmentKind → List BitWrite → State → State
assigned Blocking bs s = record { view = written bs s.view; pending = s.pending }
assigned Nonblocking bs s = record { view = s.view; pending = s.pending ++ bs }

-- whether two numbers are alike in the lowest bits, but for those that don't count
abbrev pub matches : ℕ → ℕ → ℕ → ℕ → Bool
matches zero loose n m = true
matches (suc w) loose n m = (bit_of loose w || eq_bool (bit_of n w) (bit_of m w)) && matches w loose n m

module _ {E : Type 0} (l : Language E) where
  -- how many sites the indexes of a selection have
  abbrev pub selection_sites : Selection E → ℕ
  selection_sites selection.Whole = 0
  selection_sites (selection.Bit i) = own_sites l i
  selection_sites (selection.Part high low) = 0
  selection_sites (selection.Up i width) = own_sites l i
  selection_sites (selection.Down i width) = own_sites l i

  -- how many sites the indexes in a target have
  abbrev mutual
    pub target_sites : Target E → ℕ
    target_sites (target.Signal p g s) = selection_sites s
    target_sites (target.Concatenation' p _ parts) = target_row_sites parts

    pub target_row_sites : {m : _} → target.Row_of-Target E m → ℕ
    target_row_sites target.end_of-Target = 0
    target_row_sites (target.more_of-Target t rest) = target_sites t + target_row_sites rest

  -- the expression and all items of a case have the greatest length, and are signed only if all are (9.5)
  abbrev pub longest : ℕ → List (Pattern E) → ℕ
  longest w [] = w
  longest w (p ∷ ps) = longest (max w (l.length p.value)) ps

  -- whether values are all signed, and what stands before them too
  abbrev pub all_signed : Bool → List (Pattern E) → Bool
  all_signed s [] = s
  all_signed s (p ∷ ps) = all_signed (s && l.signed p.value) ps

  -- the greatest of a length and those of all values of a case (9.5)
  abbrev pub case_length : {m : _} → ℕ → stmt.Row_of-CaseItem E m → ℕ
  case_length w stmt.end_of-CaseItem = w
  case_length w (stmt.more_of-CaseItem (item.Values' ps _ a) rest) = case_length (longest w ps) rest
  case_length w (stmt.more_of-CaseItem (item.Default' p _ a) rest) = case_length w rest

  -- whether all values of a case are signed, and the expression too
  abbrev pub case_signed : {m : _} → Bool → stmt.Row_of-CaseItem E m → Bool
  case_signed s stmt.end_of-CaseItem = s
  case_signed s (stmt.more_of-CaseItem (item.Values' ps _ a) rest) = case_signed (all_signed s ps) rest
  case_signed s (stmt.more_of-CaseItem (item.Default' p _ a) rest) = case_signed s rest

  -- the length of what a selection of a signal names
  abbrev pub selection_length : ℕ → Selection E → ℕ
  selection_length g selection.Whole = (l.shape g).bits
  selection_length g (selection.Bit i) = if nat_lt 0 (l.shape g).words then (l.shape g).bits else 1
  selection_length g (selection.Part high low) = high - low + 1
  selection_length g (selection.Up i width) = width
  selection_length g (selection.Down i width) = width

  -- the length of a target; that of a concatenation is the sum of its parts (5.1.14)
  abbrev mutual
    pub target_length : Target E → ℕ
    target_length (target.Signal p g s) = selection_length g s
    target_length (target.Concatenation' p _ parts) = target_row_length parts

    pub target_row_length : {m : _} → target.Row_of-Target E m → ℕ
    target_row_length target.end_of-Target = 0
    target_row_length (target.more_of-Target t rest) = target_length t + target_row_length rest

  -- the right side of an assignment is evaluated at the greater of the two lengths (5.4.1)
  abbrev pub assignment_length : Target E → E → ℕ
  assignment_length t e = max (target_length t) (l.length e)

  -- how many sites the values of a case item have at a width
  abbrev pub pattern_sites : ℕ → List (Pattern E) → ℕ
  pattern_sites w [] = 0
  pattern_sites w (p ∷ ps) = l.sites p.value w + pattern_sites w ps

  -- how many sites a statement has; they are numbered in the order of the text
  abbrev mutual
    pub stmt_sites : Stmt E → ℕ
    stmt_sites (stmt.Block' p _ body) = row_sites body
    stmt_sites (stmt.If' p e _ (stmt.more_of-Stmt a _)) = own_sites l e + stmt_sites a
    stmt_sites (stmt.IfElse' p e _ (stmt.more_of-Stmt a _) _ (stmt.more_of-Stmt b _)) = own_sites l e + (stmt_sites a + stmt_sites b)
    stmt_sites (stmt.Case' p e _ items) = let w = case_length (l.length e) items in l.sites e w + item_sites w items
    stmt_sites (stmt.Assignment p kind t e) = target_sites t + l.sites e (assignment_length t e)

    pub row_sites : {m : _} → stmt.Row_of-Stmt E m → ℕ
    row_sites stmt.end_of-Stmt = 0
    row_sites (stmt.more_of-Stmt a rest) = stmt_sites a + row_sites rest

    pub item_sites : {m : _} → ℕ → stmt.Row_of-CaseItem E m → ℕ
    item_sites w stmt.end_of-CaseItem = 0
    item_sites w (stmt.more_of-CaseItem (item.Values' ps _ (stmt.more_of-Stmt a _)) rest) = pattern_sites w ps + (stmt_sites a + item_sites w rest)
    item_sites w (stmt.more_of-CaseItem (item.Default' p _ (stmt.more_of-Stmt a _)) rest) = stmt_sites a + item_sites w rest

  module _ (u : ℕ → ℕ) where
    -- the places that a selection of a signal names, the highest first
    abbrev pub selected : ℕ → Selection E → View → ℕ → List (Option Spot)
    selected g selection.Whole v k = bits_at g 0 (l.shape g).bits
    selected g (selection.Bit i) v k =
        if nat_lt 0 (l.shape g).words
        then word_at (l.shape g) g (index l i v u k)
        else range_at (l.shape g) g (index l i v u k -ℤ pos (l.shape g).low) 1
    selected g (selection.Part high low) v k = range_at (l.shape g) g (pos low -ℤ pos (l.shape g).low) (high - low + 1)
    selected g (selection.Up i width) v k = range_at (l.shape g) g (index l i v u k -ℤ pos (l.shape g).low) width
    selected g (selection.Down i width) v k = range_at (l.shape g) g ((index l i v u k -ℤ pos (width - 1)) -ℤ pos (l.shape g).low) width

    abbrev mutual
      -- the places that a target names, its leftmost part first; the sites of its indexes have numbers from `k` on
      pub places : Target E → View → ℕ → List (Option Spot)
      places (target.Signal p g s) v k = selected g s v k
      places (target.Concatenation' p _ parts) v k = places_row parts v k

      pub places_row : {m : _} → target.Row_of-Target E m → View → ℕ → List (Option Spot)
      places_row target.end_of-Target v k = []
      places_row (target.more_of-Target t rest) v k = places t v k ++ places_row rest v (k + target_sites t)

    -- one assignment: the right side is evaluated at the greater of the two lengths with its own sign, and all indexes
    -- of the target in the same view; then the places are written from left to right (9.2)
    abbrev pub writes : Target E → E → View → ℕ → List BitWrite
    writes t e v k =
        let to = places t v k in
        spread to (l.value e v u (assignment_length t e) (l.signed e) (k + target_sites t))

    -- whether a condition isn't 0 (9.4)
    abbrev pub holds : E → View → ℕ → Bool
    holds e v k = nat_lt 0 (own l e v u k)

    -- whether one of the values of an item matches, all at one width and sign (9.5)
    abbrev pub hits : ℕ → Bool → ℕ → List (Pattern E) → View → ℕ → Bool
    hits w sign n [] v k = false
    hits w sign n (p ∷ ps) v k = matches w p.loose.value n (l.value p.value v u w sign k) || hits w sign n ps v (k + l.sites p.value w)

    -- what a statement makes of a state; the sites of the statement have numbers from `k` on
    abbrev mutual
      pub run : Stmt E → ℕ → State → State
      run (stmt.Block' p _ body) k s = run_row body k s
      run (stmt.If' p e _ (stmt.more_of-Stmt a _)) k s = if holds e s.view k then run a (k + own_sites l e) s else s
      run (stmt.IfElse' p e _ (stmt.more_of-Stmt a _) _ (stmt.more_of-Stmt b _)) k s =
          if holds e s.view k then run a (k + own_sites l e) s else run b (k + own_sites l e + stmt_sites a) s
      run (stmt.Case' p e _ items) k s =
          let w = case_length (l.length e) items in
          let sign = case_signed (l.signed e) items in
          first_match w sign (l.value e s.view u w sign k) items (k + l.sites e w) s (default_of w items (k + l.sites e w) s)
      run (stmt.Assignment p kind t e) k s = assigned kind (writes t e s.view k) s

      pub run_row : {m : _} → stmt.Row_of-Stmt E m → ℕ → State → State
      run_row stmt.end_of-Stmt k s = s
      run_row (stmt.more_of-Stmt a rest) k s = run_row rest (k + stmt_sites a) (run a k s)

      -- the first item runs that has a value that matches; where none has, what the default gives (9.5)
      pub first_match : {m : _} → ℕ → Bool → ℕ → stmt.Row_of-CaseItem E m → ℕ → State → State → State
      first_match w sign n stmt.end_of-CaseItem k s other = other
      first_match w sign n (stmt.more_of-CaseItem (item.Values' ps _ (stmt.more_of-Stmt a _)) rest) k s other =
          if hits w sign n ps s.view k
          then run a (k + pattern_sites w ps) s
          else first_match w sign n rest (k + pattern_sites w ps + stmt_sites a) s other
      first_match w sign n (stmt.more_of-CaseItem (item.Default' p _ (stmt.more_of-Stmt a _)) rest) k s other =
          first_match w sign n rest (k + stmt_sites a) s other

      -- what the default makes of a state, wherever it stands; without default nothing happens
      pub default_of : {m : _} → ℕ → stmt.Row_of-CaseItem E m → ℕ → State → State
      default_of w stmt.end_of-CaseItem k s = s
      default_of w (stmt.more_of-CaseItem (item.Values' ps _ (stmt.more_of-Stmt a _)) rest) k s = default_of w rest (k + pattern_sites w ps + stmt_sites a) s
      default_of w (stmt.more_of-CaseItem (item.Default' p _ (stmt.more_of-Stmt a _)) rest) k s = run a k s
