-- Clauses that grow by what a log derives.
use Rattle.std.specs.Prelude.{◌≡◌, ℕ, true, List, [], ◌∷◌, ◌++◌, length, Some}
use Rattle.std.specs.Option.{IsSomeAnd}
use Rattle.clause_arena.specs.declared.Lit.{Lit}
use Rattle.clause_arena.specs.Clause.{Clause, Clauses, clause_at, is_same, is_below}
use Rattle.res_log.specs.Step.{Step}
use Rattle.res_log.specs.Log.{result_of}
use Rattle.res_log.specs.Partial.{IsPartial, IsAsserting, is_quiet, is_open}
use Rattle.cdcl.specs.Trail.{AllClauses}

-- the clause gives unit propagation something that the clauses do not give; the empty clause, where none is empty
abbrev pub IsGained : Clauses → Clause → Type 0
IsGained arena [] = AllClauses is_open arena
IsGained arena (x ∷ xs) = (p : List Lit) × IsPartial p × IsAsserting p (x ∷ xs) × AllClauses (is_quiet p) arena

-- the step's chain over the clauses has the clause as its result, and the clause is put at the next id
abbrev pub Derives : Clauses → Step → Clause → Type 0
Derives arena s c = (s.derived.0 ≡ length arena) × IsSomeAnd (result_of (clause_at arena) s) (λ r. is_same r c ≡ true)

-- the clauses after the steps
abbrev pub Grows : Clauses → List Step → Clauses → Type 0
Grows now [] end = now ≡ end
Grows now (s ∷ ss) end = (c : Clause) × Derives now s c × IsGained now c × Grows (now ++ Some c ∷ []) ss end

-- one clause more and one step more
abbrev pub IsLearned : ℕ → Clauses → List Step → Clauses → List Step → Type 0
IsLearned vars arena log more longer =
    (c : Clause) × (s : Step) × (more ≡ arena ++ Some c ∷ []) × (longer ≡ log ++ s ∷ []) × Derives arena s c × IsGained arena c × (is_open c ≡ true) × (is_below vars c ≡ true)

-- the conflict resolved to the empty clause, which is stored and logged
abbrev pub IsRefuted : Clauses → List Step → Clauses → List Step → Type 0
IsRefuted arena log more longer = (s : Step) × (more ≡ arena ++ Some [] ∷ []) × (longer ≡ log ++ s ∷ []) × Derives arena s []
