-- Where the clause of an id comes from, seen from one step.
use Rattle.std.specs.Prelude.{◌≡◌, ℕ, ◌<◌, Bool, true, false, List, length, take, None, slice_index_or, if◌then◌else◌}
use Rattle.clause_arena.specs.Clause.{Clauses, clause_at}
use Rattle.res_log.specs.declared.origins.Origin.{Origin}
use Rattle.res_log.specs.declared.origins.Origin.TheVariants.{Input, Later, Derived}
use Rattle.res_log.specs.Step.{Step}
use Rattle.res_log.specs.Log.{Book, derives}

-- from step k: an earlier step derives the id, or a later one, or none
abbrev pub origin_of : List Step → ℕ → ℕ → Origin
origin_of log k id = if derives (take k log) id then Derived else (if derives log id then Later else Input)

-- the origin of each id of the table, seen from step k
abbrev pub IsTable : List Step → ℕ → List Origin → Type 0
IsTable log k table = (id : ℕ) → id < length table → slice_index_or table id Input ≡ origin_of log k id

-- the clause is there: an input, or derived by an earlier step
abbrev pub is_reached : Origin → Bool
is_reached Input = true
is_reached Later = false
is_reached Derived = true

-- the clause is derived by an earlier step
abbrev pub is_derived : Origin → Bool
is_derived Input = false
is_derived Later = false
is_derived Derived = true

-- the clauses of the arena that are there by the table
abbrev pub book_of : Clauses → List Origin → Book
book_of arena table id = if is_reached (slice_index_or table id Input) then clause_at arena id else None
