-- Two literals of each clause are watched, so that propagation looks at a clause only where one of them became false.
use Rattle.std.specs.Prelude.{◌≡◌, ℕ, ◌<◌, ◌≤◌, ◌⊎◌, true, false, List, [], length, take, Option, None, slice_index_or, Contains, if◌then◌else◌, ◌+◌, ◌*◌, ◌||◌}
use Rattle.std.specs.Option.{ForSome}
use Rattle.clause_arena.specs.declared.Lit.{Lit}
use Rattle.clause_arena.specs.declared.ClauseId.{ClauseId}
use Rattle.clause_arena.specs.Clause.{Clause, Clauses, clause_at, opposite, has, lit_eq}
use Rattle.res_log.specs.Partial.{is_true, is_free, is_forced, is_false}
use Rattle.cdcl.specs.Trail.{Reasons}
use Rattle.cdcl.specs.declared.watch.Pair.{Pair}
use Rattle.cdcl.specs.declared.propagate.Visit.{Visit}
use Rattle.cdcl.specs.declared.propagate.Visit.TheVariants.{Stays, Moves, Forces, Falsified}

-- The first h literals of the trail were looked at. Where one of them made the watched literal false, some literal
-- of the clause is true: now, and at the end of each level from there on. So going back to such an end keeps it.
pub record IsGuarded (p : List Lit) (reasons : Reasons) (h : ℕ) (c : Clause) (w : Lit) : Type 0 where
  pub now : has (take h p) (opposite w) ≡ true → is_true p c ≡ true
  pub ends : (k : ℕ) (o : Option ClauseId) → k < length p → slice_index_or reasons k o ≡ None → has (take k (take h p)) (opposite w) ≡ true → is_true (take k p) c ≡ true

-- a literal of the clause is true now, and at the end of each level: what a clause of one literal keeps
pub record IsHeld (p : List Lit) (reasons : Reasons) (c : Clause) : Type 0 where
  pub now : is_true p c ≡ true
  pub ends : (k : ℕ) (o : Option ClauseId) → k < length p → slice_index_or reasons k o ≡ None → is_true (take k p) c ≡ true

-- the place of a literal's list
abbrev pub slot_of : Lit → ℕ
slot_of l = 2 * l.var + (if l.negative then 1 else 0)

-- the ids that are listed under a literal
abbrev pub listed : List (List ClauseId) → Lit → List ClauseId
listed lists l = slice_index_or lists (slot_of l) []

-- two different literals of the clause are guarded, and the clause is listed under both
pub record IsPaired (p : List Lit) (reasons : Reasons) (h : ℕ) (lists : List (List ClauseId)) (id : ClauseId) (c : Clause) (two : Pair) : Type 0 where
  pub has_first : has c two.first ≡ true
  pub has_second : has c two.second ≡ true
  pub differ : lit_eq two.second two.first ≡ false
  pub first : IsGuarded p reasons h c two.first
  pub second : IsGuarded p reasons h c two.second
  pub lists_first : Contains (listed lists two.first) id
  pub lists_second : Contains (listed lists two.second) id

-- what is read where there is no pair for an id
abbrev pub no_pair : Pair
no_pair = record { first = record { var = 0; negative = false }; second = record { var = 0; negative = false } }

-- the pair's literals are in the clause, which is held or paired
abbrev pub IsWatchedClause : List Lit → Reasons → ℕ → List (List ClauseId) → ClauseId → Clause → Pair → Type 0
IsWatchedClause p reasons h lists id c two = (has c two.first ≡ true) × (has c two.second ≡ true) × (IsHeld p reasons c ⊎ IsPaired p reasons h lists id c two)

-- each clause of the arena is watched as its pair says
abbrev pub IsWatched : Clauses → List Lit → Reasons → ℕ → List (List ClauseId) → List Pair → Type 0
IsWatched arena p reasons h lists pairs =
    (id : ClauseId) → ForSome (clause_at arena id.0) (λ c. IsWatchedClause p reasons h lists id c (slice_index_or pairs id.0 no_pair))

-- the id stands in the list from place i on
abbrev pub Waits : List ClauseId → ℕ → ClauseId → Type 0
Waits xs i id = (j : ℕ) × (i ≤ j) × (j < length xs) × (slice_index_or xs j id ≡ id)

-- While a list is gone through whose literal w became false: a clause that watches w has a true literal, or waits.
abbrev pub IsVisited : List Lit → List ClauseId → ℕ → ClauseId → Clause → Pair → Lit → Type 0
IsVisited p xs i id c two w = (two.first ≡ w) ⊎ (two.second ≡ w) → (is_true p c ≡ true) ⊎ Waits xs i id

-- each clause of the arena was visited, or waits in the list of this literal from the place on
abbrev pub AreVisited : Clauses → List Lit → List (List ClauseId) → List Pair → Lit → ℕ → Type 0
AreVisited arena p lists pairs w i =
    (id : ClauseId) → ForSome (clause_at arena id.0) (λ c. IsVisited p (listed lists w) i id c (slice_index_or pairs id.0 no_pair) w)

-- there is a pair for each id, and a list for each literal
pub record IsSized (arena : Clauses) (vars : ℕ) (lists : List (List ClauseId)) (pairs : List Pair) : Type 0 where
  pub one_pair_each : length pairs ≡ length arena
  pub one_list_each : length lists ≡ 2 * vars

-- the literal is one of the pair, and the other one is the answer
abbrev pub IsOther : Pair → Lit → Lit → Type 0
IsOther two w other = ((two.first ≡ w) × (other ≡ two.second)) ⊎ ((two.second ≡ w) × (other ≡ two.first))

-- from one place up to another, each literal of the clause is false or the other one that is watched
abbrev pub AreFalseBut : List Lit → Clause → Lit → ℕ → ℕ → Type 0
AreFalseBut p c other from end =
    (i : ℕ) (d : Lit) → from ≤ i → i < end → (lit_eq (slice_index_or c i d) other || has p (opposite (slice_index_or c i d))) ≡ true

-- the literal of the clause at the place isn't false, and isn't the other one
abbrev pub IsOpenPlace : List Lit → Clause → Lit → ℕ → Type 0
IsOpenPlace p c other i =
    (i < length c) × ((d : Lit) → lit_eq (slice_index_or c i d) other ≡ false) × ((d : Lit) → has p (opposite (slice_index_or c i d)) ≡ false)

-- what a visit of a clause finds, one of whose watched literals is false
abbrev pub Finds : List Lit → Clause → Lit → Visit → Type 0
Finds p c other Stays = is_true p c ≡ true
Finds p c other (Moves z) = (has c z ≡ true) × (has p (opposite z) ≡ false) × (lit_eq z other ≡ false)
Finds p c other (Forces l) = (is_free p l ≡ true) × (is_forced p l c ≡ true)
Finds p c other Falsified = is_false p c ≡ true
