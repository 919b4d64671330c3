-- Partial assignments, as the list of the literals that are true, in the order in which they became so.
use Rattle.std.specs.Prelude.{◌≡◌, ℕ, ◌+◌, ◌<◌, ◌≤◌, Bool, true, List, length, take, Option, None, slice_index_or}
use Rattle.std.specs.Option.{ForSome, IsSomeAnd, is_some}
use Rattle.clause_arena.specs.declared.Lit.{Lit}
use Rattle.clause_arena.specs.declared.ClauseId.{ClauseId}
use Rattle.clause_arena.specs.Clause.{Clause, Clauses, clause_at, opposite, has, is_below}
use Rattle.res_log.specs.Partial.{is_forced, is_quiet}

-- no variable stands twice
abbrev pub IsConsistent : List Lit → Type 0
IsConsistent p = (i j : ℕ) (d : Lit) → i < j → j < length p → (slice_index_or p i d).var ≡ (slice_index_or p j d).var → ⊥

-- the clause that forced a literal, if one did
abbrev pub Reasons : Type 0
Reasons = List (Option ClauseId)

-- each literal with a reason is forced by it under the literals before
abbrev pub IsReasoned : Clauses → List Lit → Reasons → Type 0
IsReasoned arena p reasons =
    (k : ℕ) (o : Option ClauseId) (l : Lit) → k < length p
    → ForSome (slice_index_or reasons k o) (λ id. IsSomeAnd (clause_at arena id.0) (λ c. is_forced (take k p) (slice_index_or p k l) c ≡ true))

-- each clause of the arena passes
abbrev pub AllClauses : (Clause → Bool) → Clauses → Type 0
AllClauses p arena = (id : ℕ) → ForSome (clause_at arena id) (λ c. p c ≡ true)

-- for each level below the present one, the literals up to that level's end leave each clause quiet
abbrev pub IsComplete : Clauses → List Lit → Reasons → Type 0
IsComplete arena p reasons =
    (k : ℕ) (o : Option ClauseId) → k < length p → slice_index_or reasons k o ≡ None → AllClauses (is_quiet (take k p)) arena

-- the partial assignment says nothing of the variable of l, and holds no literal with its negation
pub record Fits (p : List Lit) (l : Lit) : Type 0 where
  pub fresh : (m : Lit) → has p m ≡ true → m.var ≡ l.var → ⊥
  pub apart : (m : Lit) → has p m ≡ true → has p (opposite m) ≡ true → ⊥

-- what the solver keeps of its trail
pub record State (arena : Clauses) (vars : ℕ) (p : List Lit) (reasons : Reasons) : Type 0 where
  pub lengths : length reasons ≡ length p
  pub below : is_below vars p ≡ true
  pub consistent : IsConsistent p
  pub reasoned : IsReasoned arena p reasons
  pub complete : IsComplete arena p reasons

-- from a place on, each literal was forced
abbrev pub AreForcedFrom : Reasons → ℕ → Type 0
AreForcedFrom reasons n = (k : ℕ) (o : Option ClauseId) → n ≤ k → k < length reasons → is_some (slice_index_or reasons k o) ≡ true

-- the literal at the place was not forced, and those after it were
abbrev pub IsLastDecision : Reasons → ℕ → Type 0
IsLastDecision reasons n = (n < length reasons) × ((o : Option ClauseId) → slice_index_or reasons n o ≡ None) × AreForcedFrom reasons (n + 1)
