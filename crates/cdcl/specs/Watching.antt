-- What the search keeps of its watches, and how they begin and grow.
use Rattle.std.specs.Prelude.{◌≡◌, ℕ, ◌+◌, ◌-◌, ◌<◌, ◌≤◌, true, false, List, [], ◌∷◌, ◌++◌, length, take, Option, None, slice_index_or, Contains, MatchOption}
use Rattle.std.specs.Option.{is_some}
use Rattle.clause_arena.specs.declared.Lit.{Lit}
use Rattle.clause_arena.specs.declared.ClauseId.{ClauseId}
use Rattle.clause_arena.specs.Clause.{Clause, Clauses, opposite, has}
use Rattle.cdcl.specs.declared.trail.Trail.{Trail}
use Rattle.cdcl.specs.declared.watch.Pair.{Pair}
use Rattle.cdcl.specs.Trail.{Reasons, AreForcedFrom}
use Rattle.cdcl.specs.Held.{vars_of, reasons_of}
use Rattle.cdcl.specs.Table.{Table}
use Rattle.cdcl.specs.Watched.{IsSized, IsWatched, listed}

-- each clause is watched, and no decision waits to be looked at but the one at the head
pub record IsWatching (arena : Clauses) (t : Trail) (w : Table) : Type 0 where
  pub sized : IsSized arena (vars_of t) w.lists w.pairs
  pub watched : IsWatched arena t.lits.items (reasons_of t) w.head w.lists w.pairs
  pub within : w.head ≤ length t.lits.items
  pub forced : AreForcedFrom (reasons_of t) (w.head + 1)

-- the clauses of the ids below n are watched, nothing was decided, and nothing looked at
pub record IsBegun (arena : Clauses) (n : ℕ) (t : Trail) (w : Table) : Type 0 where
  pub sized : IsSized (take n arena) (vars_of t) w.lists w.pairs
  pub watched : IsWatched (take n arena) t.lits.items (reasons_of t) 0 w.lists w.pairs
  pub head : w.head ≡ 0
  pub forced : AreForcedFrom (reasons_of t) 0

-- the clause of the next id watches a pair of literals
pub record IsAdded (old new : Table) (id : ClauseId) (two : Pair) : Type 0 where
  pub pairs : new.pairs ≡ old.pairs ++ two ∷ []
  pub kept : (l : Lit) (x : ClauseId) → Contains (listed old.lists l) x → Contains (listed new.lists l) x
  pub first : Contains (listed new.lists two.first) id
  pub second : Contains (listed new.lists two.second) id
  pub lists : length new.lists ≡ length old.lists
  pub head : new.head ≡ old.head

-- a literal of the clause that is false before the end, and was so at the end of no earlier level
pub record IsNewest (p : List Lit) (reasons : Reasons) (c : Clause) (end : ℕ) (m : Lit) : Type 0 where
  pub in_clause : has c m ≡ true
  pub falsified : has (take end p) (opposite m) ≡ true
  pub late : (k : ℕ) (o : Option ClauseId) → k < end → slice_index_or reasons k o ≡ None → has (take k p) (opposite m) ≡ false

-- each literal before the end was forced
abbrev pub AreForcedBelow : Reasons → ℕ → Type 0
AreForcedBelow reasons end = (k : ℕ) (o : Option ClauseId) → k < end → is_some (slice_index_or reasons k o) ≡ true

-- a literal of the newest level before the end, if there is a decision before it
abbrev pub HasNewest : List Lit → Reasons → Clause → ℕ → Option Lit → Type 0
HasNewest p reasons c end newest = MatchOption newest (AreForcedBelow reasons end) (IsNewest p reasons c end)

-- the literal at the last place before n makes this one false
abbrev pub IsBefore : List Lit → ℕ → Lit → Type 0
IsBefore p n m = (0 < n) × ((d : Lit) → slice_index_or p (n - 1) d ≡ opposite m)
