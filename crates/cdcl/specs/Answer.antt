-- What the solver answers.
use Rattle.std.specs.Prelude.{◌≡◌, ℕ, ◌≤◌, Bool, true, false, List, length, slice_index_or, Option, Some, None}
use Rattle.std.specs.List.{list_all}
use Rattle.std.specs.Option.{ForSome, IsSomeAnd}
use Rattle.clause_arena.specs.Clause.{Clause, Clauses, clause_at, satisfies, is_same}
use Rattle.res_log.specs.Step.{Step}
use Rattle.res_log.specs.Log.{IsValid, EndsEmpty, input, results}
use Rattle.res_log.specs.Gaining.{IsGaining}
use Rattle.res_log.specs.Partial.{is_open}
use Rattle.cdcl.specs.declared.Solved.{Solved}
use Rattle.cdcl.specs.declared.Solved.TheVariants.{Model, Refuted, Spent}
use Rattle.cdcl.specs.Trail.{AllClauses}

-- the value of each variable
abbrev pub assignment : List Bool → ℕ → Bool
assignment bits v = slice_index_or bits v false

-- both have no clause, or the same set
abbrev pub SameClause : Option Clause → Option Clause → Type 0
SameClause None None = Unit {0}
SameClause None (Some d) = ⊥
SameClause (Some c) None = ⊥
SameClause (Some c) (Some d) = is_same c d ≡ true

-- each clause of the first is in the second under the same id, with the same literals
abbrev pub Keeps : Clauses → Clauses → Type 0
Keeps old new = (id : ℕ) → ForSome (clause_at old id) (λ c. IsSomeAnd (clause_at new id) (λ d. is_same c d ≡ true))

-- the log is valid and gaining over just the clauses that were there before
pub record IsLogOver (old new : Clauses) (log : List Step) : Type 0 where
  pub valid : IsValid new log
  pub gaining : IsGaining new log
  pub inputs : (id : ℕ) → SameClause (input new log id) (clause_at old id)

-- a value for each variable, under which each clause has a true literal
pub record IsModel (clauses : Clauses) (vars : ℕ) (bits : List Bool) : Type 0 where
  pub size : length bits ≡ vars
  pub satisfied : AllClauses (satisfies (assignment bits)) clauses

-- a log of resolution steps, no longer than the budget, that ends in the empty clause and rests on the given clauses
-- alone
pub record IsRefutation (old new : Clauses) (budget : ℕ) (log : List Step) : Type 0 where
  pub shown : IsLogOver old new log
  pub ends : EndsEmpty new log
  pub within : length log ≤ budget

-- the log is as long as the budget, and no step of it gave the empty clause: nothing is said of the clauses
pub record IsSpent (old new : Clauses) (budget : ℕ) (log : List Step) : Type 0 where
  pub shown : IsLogOver old new log
  pub none_empty : list_all is_open (results new log) ≡ true
  pub exact : length log ≡ budget

-- what each answer of the solver must hold
abbrev pub IsAnswer : Clauses → Clauses → ℕ → ℕ → Solved → Type 0
IsAnswer old new vars budget (Model bits) = IsModel old vars bits
IsAnswer old new vars budget (Refuted log) = IsRefutation old new budget log
IsAnswer old new vars budget (Spent log) = IsSpent old new budget log

-- an answer other than that the budget is spent
abbrev pub IsDecided : Solved → Type 0
IsDecided (Model bits) = Unit {0}
IsDecided (Refuted log) = Unit {0}
IsDecided (Spent log) = ⊥
