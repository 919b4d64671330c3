-- What the solver keeps of its trail.
use Rattle.std.specs.Prelude.{◌≡◌, ℕ, ◌<◌, ◌≤◌, true, List, length}
use Rattle.std.specs.Option.{IsSomeAnd, ForSome}
use Rattle.clause_arena.specs.declared.ClauseId.{ClauseId}
use Rattle.clause_arena.specs.declared.Lit.{Lit}
use Rattle.clause_arena.specs.Clause.{Clause, Clauses, clause_at, has, is_same}
use Rattle.res_log.specs.declared.ChainStep.{ChainStep}
use Rattle.res_log.specs.Log.{chain}
use Rattle.cdcl.specs.declared.trail.Trail.{Trail}
use Rattle.cdcl.specs.Trail.{Reasons, State}
use Rattle.cdcl.specs.Arrays.{reasons_along}

-- how many variables there are
abbrev pub vars_of : Trail → ℕ
vars_of t = length t.values.items

-- the reasons in the order of the literals
abbrev pub reasons_of : Trail → Reasons
reasons_of t = reasons_along t.reasons.items t.lits.items

-- the trail's arrays are a state of the solver over these clauses
abbrev pub IsKept : Clauses → Trail → Type 0
IsKept arena t = State arena (vars_of t) t.lits.items (reasons_of t)

-- the second trail goes on from the first by forced literals alone
pub record Spreads (arena : Clauses) (old new : Trail) : Type 0 where
  pub kept : IsKept arena new
  pub vars : vars_of new ≡ vars_of old
  pub longer : length old.lits.items ≤ length new.lits.items
  pub grown : (l : Lit) → has old.lits.items l ≡ true → has new.lits.items l ≡ true

-- at least one step leads from the conflict's clause to the clause
abbrev pub IsChainOf : Clauses → ClauseId → List ChainStep → Clause → Type 0
IsChainOf arena conflict steps c =
    (0 < length steps) × ForSome (clause_at arena conflict.0) (λ d. IsSomeAnd (chain (clause_at arena) steps d) (λ r. is_same r c ≡ true))
