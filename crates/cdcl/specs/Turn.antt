-- What one turn of the search leads to.
use Rattle.std.specs.Prelude.{◌≡◌, ℕ, ◌<◌, ◌⊎◌, List, length}
use Rattle.clause_arena.specs.Clause.{Clauses}
use Rattle.res_log.specs.Step.{Step}
use Rattle.cdcl.specs.declared.trail.Trail.{Trail}
use Rattle.cdcl.specs.declared.turn.Outcome.{Outcome}
use Rattle.cdcl.specs.declared.turn.Outcome.TheVariants.{Again, Satisfied, Refuted, Spent}
use Rattle.cdcl.specs.Held.{IsKept, vars_of}
use Rattle.cdcl.specs.Grown.{IsLearned, IsRefuted}
use Rattle.cdcl.specs.Answer.{IsModel}

-- a clause was learned, and the budget is not spent
pub record GoesOn (arena : Clauses) (log : List Step) (old : Trail) (more : Clauses) (longer : List Step) (new : Trail) (budget : ℕ) : Type 0 where
  pub learned : IsLearned (vars_of old) arena log more longer
  pub kept : IsKept more new
  pub vars : vars_of new ≡ vars_of old
  pub left : length longer ≡ budget → ⊥

-- a literal was decided
pub record Decides (arena : Clauses) (log : List Step) (old : Trail) (more : Clauses) (longer : List Step) (new : Trail) : Type 0 where
  pub arena_same : more ≡ arena
  pub log_same : longer ≡ log
  pub kept : IsKept arena new
  pub vars : vars_of new ≡ vars_of old
  pub longer_trail : length old.lits.items < length new.lits.items

-- what a conflict leads to
abbrev pub IsOutcome : Clauses → List Step → Trail → Clauses → List Step → Trail → ℕ → Outcome → Type 0
IsOutcome arena log old more longer new budget Again = GoesOn arena log old more longer new budget
IsOutcome arena log old more longer new budget (Satisfied bits) = ⊥
IsOutcome arena log old more longer new budget Refuted = IsRefuted arena log more longer
IsOutcome arena log old more longer new budget Spent = IsLearned (vars_of old) arena log more longer × (length longer ≡ budget)

-- what a turn leads to
abbrev pub IsTurn : Clauses → List Step → Trail → Clauses → List Step → Trail → ℕ → Outcome → Type 0
IsTurn arena log old more longer new budget Again = GoesOn arena log old more longer new budget ⊎ Decides arena log old more longer new
IsTurn arena log old more longer new budget (Satisfied bits) = (more ≡ arena) × IsModel arena (vars_of old) bits
IsTurn arena log old more longer new budget Refuted = IsRefuted arena log more longer
IsTurn arena log old more longer new budget Spent = IsLearned (vars_of old) arena log more longer × (length longer ≡ budget)

-- the fact holds where the search goes on
abbrev pub OnAgain : Type 0 → Outcome → Type 0
OnAgain P Again = P
OnAgain P (Satisfied bits) = Unit {0}
OnAgain P Refuted = Unit {0}
OnAgain P Spent = Unit {0}
