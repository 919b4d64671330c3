-- What propagation finds.
use Rattle.std.specs.Prelude.{◌≡◌, true, List, MatchOption, Option}
use Rattle.std.specs.Option.{IsSomeAnd}
use Rattle.clause_arena.specs.declared.Lit.{Lit}
use Rattle.clause_arena.specs.declared.ClauseId.{ClauseId}
use Rattle.clause_arena.specs.Clause.{Clauses, clause_at}
use Rattle.res_log.specs.Partial.{is_false, is_quiet}
use Rattle.cdcl.specs.Trail.{AllClauses}

-- the clause of the id is false
abbrev pub IsConflict : Clauses → List Lit → ClauseId → Type 0
IsConflict arena p id = IsSomeAnd (clause_at arena id.0) (λ c. is_false p c ≡ true)

-- each clause is quiet, or the one that was found is false
abbrev pub IsSettled : Clauses → List Lit → Option ClauseId → Type 0
IsSettled arena p found = MatchOption found (AllClauses (is_quiet p) arena) (IsConflict arena p)
