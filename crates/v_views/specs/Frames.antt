-- Settled views and clock edges (IEEE 1364-2005, clauses 6.1, 9.9 and 11).
use Rattle.std.specs.Prelude.{◌≡◌, ℕ, List, [], ◌∷◌, All, Bool, true, ◌||◌}
use Rattle.std.specs.List.Sorted.{IsPermutation}
use Rattle.v_tree.specs.declared.stmt.AssignmentKind.TheVariants.{Blocking, Nonblocking}
use Rattle.v_views.specs.declared.Stmt.{Stmt}
use Rattle.v_views.specs.Spots.{Spot, View, written}
use Rattle.v_views.specs.Language.{Language}
use Rattle.v_views.specs.Run.{State, run}
use Rattle.v_views.specs.Names.{stmt_reads, assigns, certain, outside}

-- a driver as a blocking assignment or a statement, or a clocked process; its first site has a number
pub record Process (E : Type 0) : Type 0 where
  -- whether it is a process, and no assign, wire's value or connection
  pub procedural : Bool
  pub body : Stmt E
  pub first : ℕ

-- a view with no update waiting
abbrev pub at_rest : View → State
at_rest v = record { view = v; pending = [] }

-- the updates that wait are applied in their order
abbrev pub updated : State → View
updated s = written s.pending s.view

module _ {E : Type 0} (l : Language E) where
  -- whether a process reads a bit anywhere
  abbrev pub reads_bit : Process E → Spot → Bool
  reads_bit p x = stmt_reads l p.body x

  -- whether it reads a bit where it hasn't assigned that bit on every path before
  abbrev pub reads_outside : Process E → Spot → Bool
  reads_outside p x = outside l p.body x

  -- by a blocking assignment
  abbrev pub sets : Process E → Spot → Bool
  sets p x = assigns l Blocking p.body x

  -- by a blocking assignment on every path
  abbrev pub sets_certain : Process E → Spot → Bool
  sets_certain p x = certain l p.body x

  -- by any assignment
  abbrev pub writes_bit : Process E → Spot → Bool
  writes_bit p x = assigns l Blocking p.body x || assigns l Nonblocking p.body x

  module _ (u : ℕ → ℕ) where
    -- what one run of a process makes of a state
    abbrev pub does : Process E → State → State
    does p s = run l u p.body p.first s

    -- what processes make of a state, one after the other
    abbrev pub does_all : List (Process E) → State → State
    does_all [] s = s
    does_all (p ∷ ps) s = does_all ps (does p s)

    -- running any driver on the view leaves the view as it is: no event is left before the clock moves (11.3)
    abbrev pub Settled : List (Process E) → View → Type 0
    Settled drivers v = All (λ d. (x : Spot) → (does d (at_rest v)).view x ≡ v x) drivers

    -- some order of the clocked processes, one after the other from the view, and then their updates in that order: the
    -- standard leaves the order of active processes open (11.4.2)
    pub record ClockEdge (clocked : List (Process E)) (v after : View) : Type 0 where
      pub order : List (Process E)
      pub is_order : IsPermutation clocked order
      pub gives : (x : Spot) → after x ≡ updated (does_all order (at_rest v)) x

  -- two processes assign different bits, and neither reads what the other assigns by `=`
  pub record Apart (p q : Process E) : Type 0 where
    pub owns : (x : Spot) → writes_bit p x ≡ true → writes_bit q x ≡ true → ⊥
    pub first : (x : Spot) → reads_bit p x ≡ true → sets q x ≡ true → ⊥
    pub second : (x : Spot) → reads_bit q x ≡ true → sets p x ≡ true → ⊥
