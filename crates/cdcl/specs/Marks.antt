-- A clause that is being derived, as marks on its variables.
use Rattle.std.specs.Prelude.{◌≡◌, ℕ, ◌<◌, ◌≤◌, ◌⊎◌, Bool, true, false, not, ◌&&◌, List, length, take, slice_index_or}
use Rattle.std.specs.List.{filter}
use Rattle.clause_arena.specs.declared.Lit.{Lit}
use Rattle.clause_arena.specs.declared.ClauseId.{ClauseId}
use Rattle.clause_arena.specs.Clause.{Clause, Clauses, opposite, has, IsEachOnce}
use Rattle.res_log.specs.declared.ChainStep.{ChainStep}
use Rattle.res_log.specs.Partial.{IsAsserting}
use Rattle.cdcl.specs.declared.trail.Trail.{Trail}
use Rattle.cdcl.specs.Held.{vars_of, IsChainOf}

-- the variable is marked
abbrev pub is_seen : List Bool → ℕ → Bool
is_seen seen v = slice_index_or seen v false

-- the variables of the clause are marked, and no others but those that were
pub record IsMarked (old new : List Bool) (c : Clause) : Type 0 where
  pub more : (v : ℕ) → is_seen old v ≡ true → is_seen new v ≡ true
  pub all : (m : Lit) → has c m ≡ true → is_seen new m.var ≡ true
  pub only : (v : ℕ) → is_seen new v ≡ true → (is_seen old v ≡ true) ⊎ ((m : Lit) × (has c m ≡ true) × (m.var ≡ v))

-- the literals of marked variables that became false before start
abbrev pub AreEarly : List Lit → ℕ → List Bool → Clause → Type 0
AreEarly p start seen early = (m : Lit) → has early m ≡ (is_seen seen m.var && has (take start p) (opposite m))

-- no literal from start up to i has a marked variable
abbrev pub IsUnmarked : List Lit → List Bool → ℕ → ℕ → Type 0
IsUnmarked p seen start i = (k : ℕ) (d : Lit) → start ≤ k → k < i → is_seen seen (slice_index_or p k d).var ≡ false

-- some literal from start up to i has a marked variable
abbrev pub HasMarked : List Lit → List Bool → ℕ → ℕ → Type 0
HasMarked p seen start i = (k : ℕ) × (start ≤ k) × (k < i) × ((d : Lit) → is_seen seen (slice_index_or p k d).var ≡ true)

-- the literals of variables that were not taken out
abbrev pub left : List Bool → Clause → Clause
left gone c = filter (λ m. not (is_seen gone m.var)) c

-- while a derived clause is made smaller: the literals are those that are false of seen variables, and those of
-- variables that were not taken out are what the steps derive
pub record IsShortening (arena : Clauses) (t : Trail) (start : ℕ) (conflict : ClauseId) (steps : List ChainStep) (seen gone : List Bool) (lits : Clause) : Type 0 where
  pub collected : AreEarly t.lits.items (length t.lits.items) seen lits
  pub once : IsEachOnce lits
  pub sized_seen : length seen ≡ vars_of t
  pub sized_gone : length gone ≡ vars_of t
  pub chained : IsChainOf arena conflict steps (left gone lits)
  pub asserting : IsAsserting (take start t.lits.items) (left gone lits)
